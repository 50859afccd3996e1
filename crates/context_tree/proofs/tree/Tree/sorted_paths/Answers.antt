use Rattle.std.proofs.Common.{◌≡◌, ◌∙◌, List, map, ap, sym, subst, rules}
use Rattle.std.proofs.lemmas.Map.Iter.{iter_end}
use Rattle.std.specs.List.Sorted.{IsPermutation}
use Rattle.std.specs.Map.{keys_of}
use Rattle.std.specs.Map.Iter.{deref}
use Rattle.wave_base.specs.declared.path.Path.{Path}
use Rattle.context_tree.specs.Contexts.{in_order, paths_of}
use Rattle.context_tree.proofs.KeptLemmas.{paths_are_keys}
use Rattle.context_tree.proofs.Ordered.{sorted_keys}
use Rattle.context_tree.proofs.OrderLemmas.{ordered_kept}
use Rattle.context_tree.proofs.tree.Tree.sorted_paths.Goals as goal

pub returns-in_err-push-clause-ordered : goal.returns-in_err-push-clause-ordered
returns-in_err-push-clause-ordered c = ordered_kept c.self.inside.contexts.entries c.args.self.now c.self.view_is

pub returns-clause-ordered : goal.returns-clause-ordered
returns-clause-ordered c = ordered_kept c.self.inside.contexts.entries c.args.self.now c.self.view_is

pub returns-clause-paths : goal.returns-clause-paths
returns-clause-paths c =
    let es = c.self.inside.contexts.entries in
    let all : map deref c.loop-path.yielded ≡ keys_of es = search (rules, iter_end) in
    let moved = subst (λ (ps : List Path). IsPermutation ps c.sort_unstable.new.self.items) (c.loop-path.invariant ∙ all) c.sort_unstable.ensures.permutation in
    sorted_keys es c.sort_unstable.new.self.items c.keys-path-items.ensures.unique moved c.sort_unstable.ensures.sorted
    ∙ sym (paths_are_keys (in_order es)) ∙ ap paths_of c.self.view_is

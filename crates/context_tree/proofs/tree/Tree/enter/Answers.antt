use Rattle.std.proofs.Common.{◌≡◌, ◌<◌, true, false, None, length, ap, sym, subst, ◌∙◌}
use mathlib.Core.Bool.{true≢false}
use Rattle.std.specs.List.Sorted.{IsStrictlySortedBy}
use Rattle.std.specs.Map.{lookup}
use Rattle.indexmap.proofs.CallerLemmas.{insert_entry-new}
use Rattle.wave_base.proofs.Trees.{enter_there}
use Rattle.wave_base.specs.Paths.{path_eq, path_cmp}
use Rattle.wave_base.specs.Shapes.{fields_of_class}
use Rattle.wave_base.specs.Tree.{enter}
use Rattle.context_tree.specs.Contexts.{Contexts, paths_of, tree_of, joins}
use Rattle.context_tree.proofs.ClassLemmas.{class_below, not_root}
use Rattle.context_tree.proofs.KeptLemmas.{no_value, there_by, paths_rise, tree_joined}
use Rattle.context_tree.proofs.SlotLemmas.{joins_last, joins_kept}
use Rattle.context_tree.proofs.tree.Tree.enter.Goals as goal

pub returns-then-contains_key-clause-ok : goal.returns-then-contains_key-clause-ok
returns-then-contains_key-clause-ok c =
    let there = there_by c.self.inside.contexts.entries c.args.path.now c.args.self.now true c.self.view_is c.if-contains_key.ensures in
    let rise = subst (λ (t : Contexts). IsStrictlySortedBy path_cmp (paths_of t)) c.self.view_is (paths_rise c.self.inside.contexts.entries) in
    sym (enter_there (tree_of c.args.shape.now c.args.self.now) c.args.path.now rise there)

pub returns-then-contains_key-clause-joined : goal.returns-then-contains_key-clause-joined
returns-then-contains_key-clause-joined c =
    joins_kept c.self.inside.contexts.entries c.args.path.now c.args.self.now c.self.view_is (sym c.if-contains_key.ensures)

pub initial-requires : goal.initial-requires
initial-requires c =
    let absent = there_by c.self.inside.contexts.entries c.args.path.now c.args.self.now false c.self.view_is c.if-contains_key.ensures in
    subst (λ n. n < length c.args.shape.now.classes) (sym c.class.ensures) (class_below c.args.shape.now 0 c.args.path.now c.requires.path (not_root c.args.self.now c.args.path.now c.requires.parent absent))

pub returns-in_err-record-clause-there : goal.returns-in_err-record-clause-there
returns-in_err-record-clause-there c =
    λ there. absurd (true≢false (sym there ∙ there_by c.self.inside.contexts.entries c.args.path.now c.args.self.now false c.self.view_is c.if-contains_key.ensures))

pub returns-in_err-insert-clause-there : goal.returns-in_err-insert-clause-there
returns-in_err-insert-clause-there c =
    λ there. absurd (true≢false (sym there ∙ there_by c.self.inside.contexts.entries c.args.path.now c.args.self.now false c.self.view_is c.if-contains_key.ensures))

pub returns-clause-ok : goal.returns-clause-ok
returns-clause-ok c =
    let es = c.self.inside.contexts.entries in
    let none : lookup (path_eq c.args.path.now) es ≡ None = no_value _ c.if-contains_key.ensures in
    let initial = c.in_ok-record.ensures.fields ∙ ap (fields_of_class c.args.shape.now) c.class.ensures in
    tree_joined c.args.shape.now es c.insert.new.self.entries c.args.path.now c.in_ok-record.record c.in_ok-insert.ensures.updates.0 initial none
    ∙ ap (λ (t : Contexts). enter (tree_of c.args.shape.now t) c.args.path.now) c.self.view_is

pub returns-clause-joined : goal.returns-clause-joined
returns-clause-joined c =
    let es = c.self.inside.contexts.entries in
    let none : lookup (path_eq c.args.path.now) es ≡ None = no_value _ c.if-contains_key.ensures in
    joins_last c.args.path.now c.in_ok-record.record es c.insert.new.self.entries none (c.in_ok-insert.ensures.entries ∙ insert_entry-new path_eq c.self.inside.contexts c.args.path.now c.in_ok-record.record none)
    ∙ ap (λ (t : Contexts). joins t.joined c.args.path.now) c.self.view_is

use Rattle.std.proofs.Common.{rules, ◌≡◌, List, sym, ap, ◌∙◌, subst}
use Rattle.std.proofs.lemmas.Fn.{filter_same}
use Rattle.std.specs.List.{filter}
use Rattle.std.specs.List.Sorted.{IsStrictlySortedBy}
use Rattle.std.specs.Map.{keys_of}
use Rattle.wave_base.specs.declared.path.Path.{Path}
use Rattle.wave_base.specs.Paths.{path_cmp}
use Rattle.wave_states.specs.Desks.{not_at}
use Rattle.wave_base.specs.PathLaws.{path_cmp_total, same_path}
use Rattle.event_cells.specs.declared.held.Hold.{Hold}
use Rattle.event_cells.proofs.Sorted.{sorted_kept}
use Rattle.event_cells.proofs.held.Held.remove.Goals as goal

kept : (c : goal.After-retain) → c.retain.new.self.items ≡ filter (λ (x : Path × Hold). not_at c.args.path.now x.0) c.self.inside.holds.items
kept c = filter_same _ (λ x. not_at c.args.path.now x.0) _ (λ x b f r. search rules) _ _ c.retain.ensures.filtered

pub invariant_of-self : goal.invariant_of-self
invariant_of-self c = subst (λ (l : List (Path × Hold)). IsStrictlySortedBy path_cmp (keys_of l)) (sym (kept c)) (sorted_kept path_cmp path_cmp_total same_path (λ x. not_at c.args.path.now x.0) _ c.self.invariant)

pub returns-clause-holds : goal.returns-clause-holds
returns-clause-holds c = kept c ∙ ap (λ v. filter (λ (x : Path × Hold). not_at c.args.path.now x.0) v.holds) c.self.view_is

use Rattle.std.proofs.Common.{◌≡◌, true, sym, ap, ◌∙◌}
use mathlib.Core.Bool.{true≢false}
use Rattle.wave_base.specs.Starts.{shown_fields}
use Rattle.context_tree.specs.Contexts.{Contexts, is_there}
use Rattle.context_tree.proofs.SlotLemmas.{near_there, near_shown}
use Rattle.context_tree.proofs.tree.Tree.get_near.Goals as goal

pub returns-then-eq-clause-none : goal.returns-then-eq-clause-none
returns-then-eq-clause-none c =
    let p = c.args.path.now in
    let found = near_there c.self.inside.contexts.entries p c.in-Some.at.now c.in-Some.record.now c.in-Some.ensures.value (sym c.eq.ensures ∙ c.if-eq.true) in
    let there : is_there c.args.self.now p ≡ true = ap (λ (t : Contexts). is_there t p) (sym c.self.view_is) ∙ found in
    (λ n. absurd (true≢false n), λ a. sym there ∙ a)

pub returns-then-eq-clause-some : goal.returns-then-eq-clause-some
returns-then-eq-clause-some c =
    λ shape.
    let p = c.args.path.now in
    near_shown c.self.inside.contexts.entries p c.in-Some.at.now c.in-Some.record.now c.in-Some.ensures.value (sym c.eq.ensures ∙ c.if-eq.true) shape
    ∙ ap (λ (t : Contexts). shown_fields shape t.shots p) c.self.view_is

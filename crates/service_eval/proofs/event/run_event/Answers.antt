use Rattle.std.proofs.Common.{◌≡◌, ℕ, ◌≤◌, List, [], ◌∷◌, length, None, refl, ap, sym, subst, ◌∙◌, arith, zero, suc}
use Rattle.std.specs.Prelude.{slice_get, IfOk}
use Rattle.context_tree.specs.Contexts.{tree_of as shown}
use Rattle.resolved_service.specs.Jobs.{Meant, call_meaning, meant_event, meant_by, first_world}
use Rattle.wave_base.specs.declared.limits.TheConstants.{TICKS}
use Rattle.resolved_service.specs.Meaning.{event_run}
use Rattle.service_eval.specs.Events.{Means}
use Rattle.service_eval.proofs.event.run_event.Goals as goal

past_all : {A : Type 0} (xs : List A) (n : ℕ) → length xs ≤ n → slice_get xs n ≡ None
past_all [] n h = refl
past_all (x ∷ xs) zero h = absurd (omega arith)
past_all (x ∷ xs) (suc n) h = past_all xs n (omega arith)

pub returns-in-Some-clause-means : goal.returns-in-Some-clause-means
unfolding call_meaning
returns-in-Some-clause-means c =
    let T = shown c.args.shape.now c.args.contexts.now in
    let U = shown c.args.shape.now c.run_as.new.contexts in
    let call = c.args.call.now in
    let is : meant_by (event_run c.as_slice.result.now TICKS c.in-Some.event.now call.args (first_world call.generation T)) ≡ call_meaning c.args.service.now T call =
    ap (λ ms. meant_by (event_run ms TICKS c.in-Some.event.now call.args (first_world call.generation T))) c.as_slice.ensures
    ∙ ap (λ o. meant_event c.args.service.now o call T) (sym c.in-Some.ensures.some) in
    subst (λ meant. IfOk c.run_as.result (λ ran. Means meant ran U)) is c.run_as.ensures.means

pub returns-in-None-clause-means : goal.returns-in-None-clause-means
unfolding call_meaning
returns-in-None-clause-means c =
    let T = shown c.args.shape.now c.args.contexts.now in
    let call = c.args.call.now in
    let none : slice_get c.args.service.now.events call.event ≡ None = past_all c.args.service.now.events call.event (c.in-None.ensures.none.0 refl) in
    let is : call_meaning c.args.service.now T call ≡ meant_event c.args.service.now None call T = ap (λ o. meant_event c.args.service.now o call T) none in
    (ap (λ (m : Meant). m.ran.tree) is, ap (λ (m : Meant). m.ran.result) is ∙ sym c.only.ensures, ap (λ (m : Meant). m.ran.entered) is ∙ sym c.new.ensures)

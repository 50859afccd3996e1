-- The laws of traps and of ticks, from those of events.
use Rattle.std.proofs.Common.{◌≡◌, inl, inr, ℕ, ◌≤◌, List, [], ◌∷◌, slice_get, Option, Some, None, refl, ◌∙◌, ap, subst, arith}
use Rattle.std.specs.List.{Contains}
use Rattle.std.proofs.lemmas.List.Elements.{Contains-push, Contains-append_left, Contains-append_right}
use Rattle.wave_base.specs.declared.limits.TheConstants.{TICKS}
use Rattle.wave_base.specs.declared.outcome.Outcome.TheVariants as out
use Rattle.wave_base.specs.declared.trap.Trap.{Trap}
use Rattle.wave_base.specs.declared.value.Value.{Value}
use Rattle.resolved_service.specs.declared.service.Event.{Event}
use Rattle.resolved_service.specs.declared.service.Method.{Method}
use Rattle.resolved_service.specs.declared.service.Resolved.{Resolved}
use Rattle.resolved_service.specs.Jobs.{call_meaning, first_world, meant_by, meant_event}
use Rattle.resolved_service.specs.Meaning.{Outcome, Done, Trapped, Left, Returned, Finished, event_run}
use Rattle.resolved_service.specs.World.{World}
use Rattle.trap_laws.specs.Fuel.{MeansAsWithMore}
use Rattle.trap_laws.specs.Traps.{ComesOf, TrapsStand, event_traps, method_traps}
use Rattle.trap_laws.proofs.Standing.{Each, Good, event_good}

each_of : (P : Trap → Type 0) (xs : List Trap) → ((x : Trap) → Contains xs x → P x) → Each P xs
each_of P [] f = tt
each_of P (x ∷ xs) f = (f x (Contains-append_left (x ∷ []) xs x (Contains-push [] x)), each_of P xs (λ y c. f y (Contains-append_right (x ∷ []) xs y c)))

trap_at : (P : Trap → Type 0) (k : ℕ) (o : Outcome (Option Value)) (trap : Trap) → Good P k o → (meant_by o).ran.result.outcome ≡ out.Trapped trap → P trap
trap_at P k (Done None st) trap h e = cc
trap_at P k (Done (Some x) st) trap h e = cc
trap_at P k (Left (Returned None) st) trap h e = cc
trap_at P k (Left (Returned (Some x)) st) trap h e = cc
trap_at P k (Left (Finished None) st) trap h e = cc
trap_at P k (Left (Finished (Some x)) st) trap h e = cc
trap_at P k (Trapped t at w) trap h e = (let same : ◌≡◌ {A = Trap} (record { kind = t; at = at }) trap = cc in subst P same h)

pub traps_stand : (service : Resolved) → TrapsStand service
unfolding call_meaning
traps_stand service tree call trap = by (slice_get service.events call.event) refl
  where
    P : Trap → Type 0
    P x = ComesOf service call.event x

    by : (o : Option Event) → slice_get service.events call.event ≡ o → (meant_event service o call tree).ran.result.outcome ≡ out.Trapped trap → P trap
    by None is e = cc
    by (Some event) is e =
        trap_at P TICKS (event_run service.methods TICKS event call.args (first_world call.generation tree)) trap
        (event_good P service.methods (λ k m there. each_of P (method_traps m) (λ x c. inr (k, m, there, c))) TICKS event call.args (first_world call.generation tree) (omega arith)
        (each_of P (event_traps event) (λ x c. inl (event, is, c))))
        e

pub means_as_with_more : (service : Resolved) →
    ((methods : List Method) (n m : ℕ) (e : Event) (given : List Value) (w : World) → w.ticks ≤ n → w.ticks ≤ m → event_run methods n e given w ≡ event_run methods m e given w) → MeansAsWithMore service
unfolding call_meaning
means_as_with_more service enough tree call e fuel is le =
    ap (λ o. meant_event service o call tree) is ∙ ap meant_by (enough service.methods TICKS fuel e call.args (first_world call.generation tree) (omega arith) le)

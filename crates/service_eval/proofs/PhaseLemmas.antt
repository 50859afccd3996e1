-- A phase of an event: its key, the way down, its statements, and then the other phases.
use Rattle.std.proofs.Common.{◌≡◌, ◌≤◌, List, ◌∷◌, Option, Result, Ok, Err, refl, sym, ap, subst, ◌∙◌, arith}
use Rattle.wave_base.specs.declared.limits.TheConstants.{TICKS}
use Rattle.wave_base.specs.declared.path.Path.{Path}
use Rattle.wave_base.specs.declared.value.Value.{Value}
use Rattle.resolved_service.specs.declared.service.Last.{Last}
use Rattle.resolved_service.specs.declared.service.Method.{Method}
use Rattle.resolved_service.specs.declared.service.Phase.{Phase}
use Rattle.resolved_service.specs.Meaning.{State, Outcome, Done, Act, and_then, ◌>>◌, enter_at, release, value, effects, phases_run, call_act}
use Rattle.resolved_service.specs.Steps.{steps_in}
use Rattle.resolved_service.specs.View.{tree_of}
use Rattle.resolved_service.specs.World.{World, child}
use Rattle.service_eval.specs.declared.stop.Stop.{Stop}
use Rattle.service_eval.specs.inner.Parts.{Comes, went_down}
use Rattle.service_eval.specs.inner.Traces.{uncounted_outcome, Fails}
use Rattle.service_eval.proofs.Likeness.{counted, Like, then_like, enter_like, same_value, same_effects, same_phases}
use Rattle.service_eval.proofs.Outcomes.{assoc, regroup, fails_then}

-- an act that came to its end, changes of place uncounted, and what comes behind it
pub then_on : {A B : Type 0} (a : Act A) (f : A → Act B) (st : State) (x : A) (st' : State) → Like TICKS a a → ((x : A) → Like TICKS (f x) (f x)) → st.world.ticks ≤ TICKS → uncounted_outcome (a st) ≡ uncounted_outcome (Done x st') → uncounted_outcome (and_then (a st) f) ≡ uncounted_outcome (f x st')
then_on a f st x st' h g few e = (then_like TICKS (a st) (Done x st') f f (e, (h st st.world.changes few).1) g).0

pub same_comes : {A : Type 0} (o o' : Outcome A) (r : Result A Stop) (st : State) → uncounted_outcome o ≡ uncounted_outcome o' → Comes o' r st → Comes o r st
same_comes o o' (Ok a) st e h = e ∙ h
same_comes o o' (Err x) st e h = subst (λ o. Fails o x st.world) (sym e) h

module _ (methods : List Method) (f : Phase) (fs : List Phase) (last : Option Last) (p : Path) (st : State) (few : st.world.ticks ≤ TICKS) where
  abbrev whole : Outcome (Option Value)
  whole = phases_run (call_act methods TICKS) TICKS (f ∷ fs) last p st

  pub no_key : (e : Stop) (w : World) → Fails (uncounted_outcome (value (call_act methods TICKS) p (tree_of f.key) st)) e w → Fails (uncounted_outcome whole) e w
  no_key e w h = fails_then (value (call_act methods TICKS) p (tree_of f.key) st) _ e w h

  module _ (k : Value) where
    abbrev q : Path
    q = child p f.class.0 k

    abbrev others : Act (Option Value)
    others = phases_run (call_act methods TICKS) TICKS fs last (child p f.class.0 k)

    abbrev here : Act (Option Value)
    here = effects (call_act methods TICKS) TICKS (child p f.class.0 k) (steps_in f.body) >> phases_run (call_act methods TICKS) TICKS fs last (child p f.class.0 k)

    others_like : Like TICKS others others
    others_like = same_phases methods TICKS fs last (child p f.class.0 k) TICKS (omega arith)

    here_like : Like TICKS here here
    here_like st c h =
        then_like TICKS (effects (call_act methods TICKS) TICKS (child p f.class.0 k) (steps_in f.body) st) (effects (call_act methods TICKS) TICKS (child p f.class.0 k) (steps_in f.body) (counted c st)) _ _
        (same_effects methods TICKS (child p f.class.0 k) (steps_in f.body) TICKS (omega arith) st c h) (λ u. others_like)

    down_like : Like TICKS (went_down q f.at) (went_down q f.at)
    down_like st c h = then_like TICKS (enter_at q f.at st) (enter_at q f.at (counted c st)) _ _ (enter_like TICKS q f.at st c h) (λ u st c h. (refl, h))

    below_like : Like TICKS (went_down q f.at >> here) (went_down q f.at >> here)
    below_like st c h = then_like TICKS (went_down q f.at st) (went_down q f.at (counted c st)) _ _ (down_like st c h) (λ u. here_like)

  -- the key's value, and then the phase
  whole_is : whole ≡ and_then (value (call_act methods TICKS) p (tree_of f.key) st) (λ k. went_down (child p f.class.0 k) f.at >> here k)
  whole_is = regroup (value (call_act methods TICKS) p (tree_of f.key) st) _ _ (λ k st. sym (assoc (enter_at (child p f.class.0 k) f.at st) (λ _. release (child p f.class.0 k)) (λ _. here k)))

  module _ (k : Value) (st1 : State) (few1 : st1.world.ticks ≤ TICKS) (found : uncounted_outcome (value (call_act methods TICKS) p (tree_of f.key) st) ≡ uncounted_outcome (Done k st1)) where
    keyed : uncounted_outcome whole ≡ uncounted_outcome (and_then (went_down (child p f.class.0 k) f.at st1) (λ _. here k))
    keyed =
        ap uncounted_outcome whole_is
        ∙ then_on (value (call_act methods TICKS) p (tree_of f.key)) (λ k. went_down (child p f.class.0 k) f.at >> here k) st k st1 (same_value methods TICKS p (tree_of f.key) TICKS (omega arith)) below_like few found

    pub not_down : (e : Stop) (w : World) → Fails (uncounted_outcome (went_down (child p f.class.0 k) f.at st1)) e w → Fails (uncounted_outcome whole) e w
    not_down e w h = subst (λ o. Fails o e w) (sym keyed) (fails_then (went_down (child p f.class.0 k) f.at st1) (λ _. here k) e w h)

    module _ (st2 : State) (few2 : st2.world.ticks ≤ TICKS) (down : uncounted_outcome (went_down (child p f.class.0 k) f.at st1) ≡ uncounted_outcome (Done tt st2)) where
      below : uncounted_outcome whole ≡ uncounted_outcome (and_then (effects (call_act methods TICKS) TICKS (child p f.class.0 k) (steps_in f.body) st2) (λ _. others k))
      below = keyed ∙ then_on (went_down (child p f.class.0 k) f.at) (λ _. here k) st1 tt st2 (down_like k) (λ _. here_like k) few1 down

      pub not_through : (e : Stop) (w : World) → Fails (uncounted_outcome (effects (call_act methods TICKS) TICKS (child p f.class.0 k) (steps_in f.body) st2)) e w → Fails (uncounted_outcome whole) e w
      not_through e w h = subst (λ o. Fails o e w) (sym below) (fails_then (effects (call_act methods TICKS) TICKS (child p f.class.0 k) (steps_in f.body) st2) (λ _. others k) e w h)

      pub goes_on : (st3 : State) (r : Result (Option Value) Stop) (st4 : State) → uncounted_outcome (effects (call_act methods TICKS) TICKS (child p f.class.0 k) (steps_in f.body) st2) ≡ uncounted_outcome (Done tt st3) → Comes (others k st3) r st4 → Comes whole r st4
      goes_on st3 r st4 done h =
          same_comes whole (others k st3) r st4
          (below ∙ then_on (effects (call_act methods TICKS) TICKS (child p f.class.0 k) (steps_in f.body)) (λ _. others k) st2 tt st3 (same_effects methods TICKS (child p f.class.0 k) (steps_in f.body) TICKS (omega arith)) (λ _. others_like k) few2 done) h

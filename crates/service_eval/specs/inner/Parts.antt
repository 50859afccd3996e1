-- What the parts of an event come to: its statements, its phases and its reply.
use Rattle.std.specs.Prelude.{◌≡◌, ℕ, List, [], Option, Result, Ok, Err}
use Rattle.wave_base.specs.declared.path.Path.{Path}
use Rattle.wave_base.specs.declared.span.Span.{Span}
use Rattle.wave_base.specs.declared.value.Value.{Value}
use Rattle.context_tree.specs.Contexts.{Contexts}
use Rattle.resolved_service.specs.declared.service.Event.{Event}
use Rattle.resolved_service.specs.Meaning.{State, Outcome, Done, Act, ◌>>◌, enter_at, release, effects, phases_run}
use Rattle.resolved_service.specs.Steps.{steps_in}
use Rattle.service_eval.specs.declared.code.Code.{Code}
use Rattle.service_eval.specs.declared.machine.Machine.{Machine}
use Rattle.service_eval.specs.declared.stop.Stop.{Stop}
use Rattle.service_eval.specs.inner.Ready.{Ready}
use Rattle.service_eval.specs.inner.Traces.{uncounted_outcome, Fails}
use Rattle.service_eval.specs.inner.Turns.{mach}

-- nothing is left to do, and no value waits
pub record Rests (code : Code) (contexts : Contexts) (m : Machine) : Type 0 where
  pub ready : Ready code.shape.now code.methods.now (mach code contexts m)
  pub items : (mach code contexts m).items ≡ []
  pub values : m.values.items ≡ []

-- an act came to its end in this state, or failed; nothing is said of how often the event changed its place
abbrev pub Comes : {A : Type 0} → Outcome A → Result A Stop → State → Type 0
Comes out (Ok a) st = uncounted_outcome out ≡ uncounted_outcome (Done a st)
Comes out (Err e) st = Fails (uncounted_outcome out) e st.world

-- into a child, and all is given up that lies outside
abbrev pub went_down : Path → Span → Act (Unit {0})
went_down q at = enter_at q at >> release q

-- the root's statements, and then the phases and the reply
abbrev pub event_act : (ℕ → Path → List Value → Act (Option Value)) → ℕ → Event → Act (Option Value)
event_act call n e = effects call n [] (steps_in e.here) >> phases_run call n e.phases e.last []

-- Statements that are done one after the other, as far as they can be at once.
use Rattle.std.specs.Prelude.{◌≡◌, ◌≤◌, ◌<◌, ℕ, List, Option, Some, None, Result, Ok, Err}
use denote.Bor.{Bor}
use Rattle.wave_base.specs.declared.limits.TheConstants.{TICKS}
use Rattle.wave_base.specs.declared.shape.Shape.{Shape}
use Rattle.wave_base.specs.Shapes.{class_of}
use Rattle.context_tree.specs.Contexts.{Contexts}
use Rattle.resolved_service.specs.declared.service.Method.{Method}
use Rattle.resolved_service.specs.declared.stmt.Stmt.{Stmt}
use Rattle.resolved_service.specs.Fits.{FitsStep, FitsSteps}
use Rattle.resolved_service.specs.Meaning.{effect, effects, call_act}
use Rattle.resolved_service.specs.Steps.{Step, Steps, steps_in}
use Rattle.service_eval.specs.declared.code.Code.{Code}
use Rattle.service_eval.specs.declared.machine.Machine.{Machine}
use Rattle.service_eval.specs.declared.stop.Stop.{Stop}
use Rattle.service_eval.specs.inner.Machines.{in_state}
use Rattle.service_eval.specs.inner.Ready.{Ready}
use Rattle.service_eval.specs.inner.Turns.{mach, Does}
use Rattle.service_eval.specs.inner.Traces.{Traps}
use Rattle.service_eval.specs.inner.Weight.{step_weight, steps_weight}

-- some statements were done, and those that are left come to what all of them do
pub record Advances (code : Code) (contexts : Contexts) (m : Machine) (all : Steps) (contexts' : Contexts) (m' : Machine) (left : Steps) : Type 0 where
  pub same : effects (call_act code.methods.now TICKS) TICKS m.path all (mach code contexts m).state ≡ effects (call_act code.methods.now TICKS) TICKS m.path left (mach code contexts' m').state
  pub to : mach code contexts' m' ≡ in_state (mach code contexts' m').state (mach code contexts m)
  pub ready : Ready code.shape.now code.methods.now (mach code contexts' m')
  pub fits : FitsSteps code.shape.now code.methods.now (class_of m.path) left
  pub fewer : m'.trace.ticks ≤ m.trace.ticks
  pub less : (n : ℕ) → steps_weight n left ≤ steps_weight n all

-- the same where something was done; or nothing was
abbrev pub AdvancesBy : Code → Contexts → Machine → Steps → Contexts → Machine → Option (Bor (List Stmt)) → Type 0
AdvancesBy code contexts m all contexts' m' (Some left) = Advances code contexts m all contexts' m' (steps_in left.now) × (steps_weight 0 (steps_in left.now) < steps_weight 0 all)
AdvancesBy code contexts m all contexts' m' None = mach code contexts' m' ≡ mach code contexts m

-- the statements fail
abbrev pub StopsIn : Code → Contexts → Machine → Steps → Contexts → Machine → Stop → Type 0
StopsIn code contexts m all contexts' m' e = Does code contexts m (effects (call_act code.methods.now TICKS) TICKS m.path all) (Err e) contexts' m'

-- a block does what a statement does, and weighs less
pub record Stands (code : Code) (contexts : Contexts) (m : Machine) (whole : Step) (block : Steps) : Type 0 where
  pub same : effect (call_act code.methods.now TICKS) TICKS m.path whole (mach code contexts m).state ≡ effects (call_act code.methods.now TICKS) TICKS m.path block (mach code contexts m).state
  pub fits : (shape : Shape) (methods : List Method) (class : ℕ) → FitsStep shape methods class whole → FitsSteps shape methods class block
  pub less : (n : ℕ) → steps_weight n block < step_weight n whole

-- a block that stands for the statement; or nothing is said
abbrev pub Chooses : Code → Contexts → Machine → Step → Result (Option (Bor (List Stmt))) Stop → Type 0
Chooses code contexts m whole (Ok (Some block)) = Stands code contexts m whole (steps_in block.now)
Chooses code contexts m whole (Ok None) = Unit {0}
Chooses code contexts m whole (Err e) = Traps (effect (call_act code.methods.now TICKS) TICKS m.path whole (mach code contexts m).state) e (mach code contexts m).state.world

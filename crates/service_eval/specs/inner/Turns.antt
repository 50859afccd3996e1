-- What a call that does an item asks, and what it does.
use Rattle.std.specs.Prelude.{◌≡◌, ◌≤◌, suc, Bool, true, false, List, [], Option, Result, Ok, Err}
use Rattle.wave_base.specs.declared.limits.TheConstants.{TICKS}
use Rattle.wave_base.specs.declared.span.Span.{Span}
use Rattle.wave_base.specs.declared.value.Value.{Value}
use Rattle.value_ops.specs.Kinds.{Answer}
use Rattle.context_tree.specs.Contexts.{Contexts, tree_of as shown}
use Rattle.service_eval.specs.declared.code.Code.{Code}
use Rattle.service_eval.specs.declared.machine.Machine.{Machine}
use Rattle.service_eval.specs.declared.look.View.{View}
use Rattle.service_eval.specs.declared.operand.Operand.{Operand}
use Rattle.service_eval.specs.declared.stop.Stop.{Stop}
use Rattle.service_eval.specs.declared.stop.Stop.TheVariants as stop
use Rattle.service_eval.specs.inner.Answers.{Looks}
use Rattle.service_eval.specs.inner.Items.{Item}
use Rattle.service_eval.specs.inner.Machines.{Mach, state_of, mach_of, on_top, before_all, in_state, rest_at, come_of, comes_to}
use Rattle.resolved_service.specs.Meaning.{Act, Leave, Done, Left, value, effect, call_act}
use Rattle.resolved_service.specs.Steps.{Step}
use Rattle.resolved_service.specs.View.{Tree}
use Rattle.service_eval.specs.inner.Ready.{Ready, Follows, Turned}
use Rattle.service_eval.specs.Worlds.{Holds}
use Rattle.service_eval.specs.inner.Traces.{uncounted_outcome, Traps, Fails}
use Rattle.service_eval.specs.inner.Weight.{load}

abbrev pub mach : Code → Contexts → Machine → Mach
mach code contexts m = mach_of (shown code.shape.now contexts) m

-- the value of an expression where it is looked at
abbrev pub Sees : View → Tree → Result (Option Operand) Stop → Type 0
Sees view t result =
    let st = state_of (shown view.code.shape.now view.contexts.now) view.m.now in
    Looks (value (call_act view.code.methods.now TICKS) view.m.now.path t st) st result

-- the expression has this value where it is looked at
abbrev pub IsWorth : View → Tree → Value → Type 0
IsWorth view t v =
    let st = state_of (shown view.code.shape.now view.contexts.now) view.m.now in
    value (call_act view.code.methods.now TICKS) view.m.now.path t st ≡ Done v st

-- the item is the next thing to be done
abbrev pub IsNext : Code → Contexts → Machine → Item → Type 0
IsNext code contexts m item = Ready code.shape.now code.methods.now (on_top item (mach code contexts m))

-- it was done
abbrev pub Goes : Code → Contexts → Machine → Item → Result (Unit {0}) Stop → Contexts → Machine → Type 0
Goes code contexts m item result contexts' m' = Turned code.shape.now code.methods.now (on_top item (mach code contexts m)) result (mach code contexts' m')

-- these are the next things to be done, the first one first
abbrev pub AreNext : Code → Contexts → Machine → List Item → Type 0
AreNext code contexts m items = Ready code.shape.now code.methods.now (before_all items (mach code contexts m))

-- they were done, or some of them, or none
abbrev pub GoOn : Code → Contexts → Machine → List Item → Result (Unit {0}) Stop → Contexts → Machine → Type 0
GoOn code contexts m items result contexts' m' =
    let before = before_all items (mach code contexts m) in
    Follows code.shape.now code.methods.now (comes_to code.methods.now before) (suc (load code.methods.now before)) result (mach code contexts' m')

-- they were done, and other things are to be done next; or all that was to be done of them was
abbrev pub GoesTo : Code → Contexts → Machine → List Item → List Item → Result Bool Stop → Contexts → Machine → Type 0
GoesTo code contexts m items next (Ok true) contexts' m' = Turned code.shape.now code.methods.now (before_all items (mach code contexts m)) (Ok tt) (before_all next (mach code contexts' m'))
GoesTo code contexts m items next (Ok false) contexts' m' = Turned code.shape.now code.methods.now (before_all items (mach code contexts m)) (Ok tt) (mach code contexts' m')
GoesTo code contexts m items next (Err e) contexts' m' = Turned code.shape.now code.methods.now (before_all items (mach code contexts m)) (Err e) (mach code contexts' m')

-- the rest of what is running is left out
abbrev pub Leaves : Code → Contexts → Machine → Leave → Result (Unit {0}) Stop → Contexts → Machine → Type 0
Leaves code contexts m why result contexts' m' =
    Follows code.shape.now code.methods.now (come_of code.methods.now (mach code contexts m).items m.path (Left why (mach code contexts m).state)) (load code.methods.now (mach code contexts m)) result (mach code contexts' m')

-- a change of a value in place: the new value; or its trap at a place, which leaves it, as want of memory does
abbrev pub Alters : Answer Value → Span → Value → Result (Unit {0}) Stop → Value → Type 0
Alters answer at before (Ok _) after = answer ≡ Ok after
Alters answer at before (Err (stop.Trapped t)) after = (answer ≡ Err t.kind) × (t.at ≡ at) × (after ≡ before)
Alters answer at before (Err (stop.OutOfMemory _)) after = after ≡ before
Alters answer at before (Err (stop.Ended _)) after = ⊥

-- an act was done, and is all that changed; or it failed
abbrev pub Does : Code → Contexts → Machine → Act (Unit {0}) → Result (Unit {0}) Stop → Contexts → Machine → Type 0
Does code contexts m act (Ok _) contexts' m' =
    (act (mach code contexts m).state ≡ Done tt (mach code contexts' m').state)
    × (mach code contexts' m' ≡ in_state (mach code contexts' m').state (mach code contexts m))
    × Ready code.shape.now code.methods.now (mach code contexts' m')
    × (m'.trace.ticks ≤ m.trace.ticks)
Does code contexts m act (Err e) contexts' m' = Traps (act (mach code contexts m).state) e (mach code contexts' m').state.world × Holds code.shape.now (mach code contexts' m').state.world.tree

-- a statement was done at once; or nothing was done
abbrev pub AtOnce : Code → Contexts → Machine → Step → Result Bool Stop → Contexts → Machine → Type 0
AtOnce code contexts m s (Ok true) contexts' m' = Does code contexts m (effect (call_act code.methods.now TICKS) TICKS m.path s) (Ok tt) contexts' m'
AtOnce code contexts m s (Ok false) contexts' m' = mach code contexts' m' ≡ mach code contexts m
AtOnce code contexts m s (Err e) contexts' m' = Does code contexts m (effect (call_act code.methods.now TICKS) TICKS m.path s) (Err e) contexts' m'

-- all was done: nothing is left to do
abbrev pub Ran : Code → Mach → Result (Unit {0}) Stop → Mach → Type 0
Ran code before (Ok _) after = (comes_to code.methods.now before ≡ uncounted_outcome (Done (rest_at after.path after.values) after.state)) × (after.items ≡ []) × Ready code.shape.now code.methods.now after
Ran code before (Err e) after = Fails (comes_to code.methods.now before) e after.state.world × Holds code.shape.now after.state.world.tree

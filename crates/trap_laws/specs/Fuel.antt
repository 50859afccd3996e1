-- That a call never comes to where the calls and turns that may still come are used up.
use Rattle.std.specs.Prelude.{◌≡◌, ◌≤◌, ℕ, List, Some, slice_get}
use Rattle.wave_base.specs.declared.call.Call.{Call}
use Rattle.wave_base.specs.declared.limits.TheConstants.{TICKS}
use Rattle.wave_base.specs.declared.value.Value.{Value}
use Rattle.wave_base.specs.Tree.{Tree}
use Rattle.resolved_service.specs.declared.service.Event.{Event}
use Rattle.resolved_service.specs.declared.service.Resolved.{Resolved}
use Rattle.resolved_service.specs.Jobs.{call_meaning, first_world, meant_by}
use Rattle.resolved_service.specs.Meaning.{event_run}

-- With as much fuel as there are ticks, or any more, a call means what it means.
abbrev pub MeansAsWithMore : Resolved → Type 0
MeansAsWithMore service = (tree : Tree (List Value)) (call : Call) (e : Event) (fuel : ℕ) → slice_get service.events call.event ≡ Some e → TICKS ≤ fuel →
    call_meaning service tree call ≡ meant_by (event_run service.methods fuel e call.args (first_world call.generation tree))

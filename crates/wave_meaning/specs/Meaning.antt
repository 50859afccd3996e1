-- What a script means for a service: the fold of its jobs, where calls do what the service says.
use Rattle.std.specs.Prelude.{List, IsTrue}
use Rattle.wave_base.specs.declared.call.Call.{Call}
use Rattle.wave_base.specs.declared.finished.Finished.{Finished}
use Rattle.wave_base.specs.declared.outcome.EventResult.{EventResult}
use Rattle.wave_base.specs.declared.script.Script.{Script}
use Rattle.wave_base.specs.declared.shape.Shape.{Shape}
use Rattle.wave_base.specs.declared.start.Start.{Start}
use Rattle.wave_base.specs.declared.value.Value.{Value}
use Rattle.wave_base.specs.Fold.{Ran, is_over}
use Rattle.wave_base.specs.Shapes.{IsShape}
use Rattle.wave_base.specs.Starts.{first_start}
use Rattle.wave_base.specs.Tree.{Tree}
use Rattle.resolved_service.specs.declared.service.Resolved.{Resolved}
use Rattle.resolved_service.specs.Fits.{FitsService}
use Rattle.resolved_service.specs.Jobs.{call_meaning}
use Rattle.script_fold.specs.Runs.{whole_run, finished_of}

-- what a call of an event does on a tree
abbrev pub call_ran : Resolved → Tree (List Value) → Call → Ran (List Value) EventResult
call_ran service tree call = (call_meaning service tree call).ran

-- what a script gives, from a Start
abbrev pub results_at : Shape → Resolved → Start → Script → Finished
results_at shape service start script = finished_of (call_ran service) shape start script

-- and from the first one
abbrev pub results_of : Shape → Resolved → Script → Finished
results_of shape service script = results_at shape service (first_start shape) script

-- its fold comes to its end: no job is left
abbrev pub IsWholeAt : Shape → Resolved → Start → Script → Type 0
IsWholeAt shape service start script = IsTrue (is_over (whole_run (call_ran service) shape start script))

abbrev pub IsWhole : Shape → Resolved → Script → Type 0
IsWhole shape service script = IsWholeAt shape service (first_start shape) script

-- a shape, and a service that fits it
abbrev pub IsFit : Shape → Resolved → Type 0
IsFit shape service = IsShape shape × FitsService shape service

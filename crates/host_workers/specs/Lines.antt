-- The lines of a plan's events.
use Rattle.std.specs.Prelude.{ℕ, List}
use Rattle.std.specs.List.{concat}
use Rattle.wave_base.specs.declared.finished.Finished.{Finished}
use Rattle.wave_base.specs.declared.start.Start.{Start}
use Rattle.script_fold.specs.Runs.{finished_of}
use Rattle.plan_actors.specs.Calls.{code_ran}
use Rattle.listing_out.specs.Listing.{lines_from, shown_of}
use Rattle.wave_effects.specs.declared.plan.Plan.{Plan}

-- what the script gives from this Start, each call run by its code
abbrev pub told_by : Plan → Start → Finished
told_by plan start = finished_of (code_ran plan.program) plan.program.shape start plan.script

-- the lines of all its tickets
abbrev pub event_lines : Plan → Start → List ℕ
event_lines plan start = concat (lines_from plan.program.shape start.next.0 (shown_of (told_by plan start)))

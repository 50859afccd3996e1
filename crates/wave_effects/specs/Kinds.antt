-- What the job of a line is, as cells say it.
use Rattle.std.specs.Prelude.{ℕ, Bool, true, false, Option, Some, None}
use Rattle.wave_base.specs.declared.script.Line.{Line}
use Rattle.wave_base.specs.declared.script.Line.TheVariants as line
use Rattle.event_cells.specs.declared.cell.JobKind.{JobKind}
use Rattle.event_cells.specs.declared.cell.JobKind.TheVariants.{Event, Move, Snapshot}

abbrev pub job_kind : Line → JobKind
job_kind (line.Request call) = Event call.event
job_kind (line.Move p h) = Move
job_kind line.Snapshot = Snapshot

-- the number of an event
abbrev pub name_in : JobKind → Option ℕ
name_in (Event name) = Some name
name_in Move = None
name_in Snapshot = None

abbrev pub is_move : JobKind → Bool
is_move (Event name) = false
is_move Move = true
is_move Snapshot = false

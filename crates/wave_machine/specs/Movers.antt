-- Which tickets are moves, read off what is kept.
use Rattle.std.specs.Prelude.{◌-◌, ℕ, Bool, false, Option, Some, None, slice_get}
use Rattle.wave_base.specs.declared.script.Line.{Line}
use Rattle.event_cells.specs.declared.cell.JobKind.{JobKind}
use Rattle.head_tickets.specs.Heads.{next_line}
use Rattle.wave_effects.specs.Kinds.{is_move, job_kind}
use Rattle.wave_effects.specs.Machines.{Kept}

abbrev pub line_moves : Option Line → Bool
line_moves None = false
line_moves (Some line) = is_move (job_kind line)

-- that of an admitted ticket, else of the one that is admitted next
abbrev pub moves_by : Option JobKind → Option Line → Bool
moves_by (Some kind) next = is_move kind
moves_by None next = line_moves next

abbrev pub moves_in : Kept → ℕ → Bool
moves_in m t = moves_by (slice_get m.settled.kinds (t - m.first)) (next_line m.head)

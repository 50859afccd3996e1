-- A whole run of a script, and what it gives.
use Rattle.std.specs.Prelude.{◌≤◌, ◌+◌, ℕ, List, length, map}
use Rattle.std.specs.List.{zip}
use Rattle.wave_base.specs.declared.finished.Finished.{Finished}
use Rattle.wave_base.specs.declared.finished.Place.{Place}
use Rattle.wave_base.specs.declared.limits.TheConstants.{START_CONTEXTS, START_TICKET}
use Rattle.wave_base.specs.declared.numbers.Ticket.{Ticket}
use Rattle.wave_base.specs.declared.outcome.EventResult.{EventResult}
use Rattle.wave_base.specs.declared.path.Path.{Path}
use Rattle.wave_base.specs.declared.script.Line.{Line}
use Rattle.wave_base.specs.declared.script.Script.{Script}
use Rattle.wave_base.specs.declared.shape.Shape.{Shape}
use Rattle.wave_base.specs.declared.start.Start.{Start}
use Rattle.wave_base.specs.declared.value.Value.{Value}
use Rattle.wave_base.specs.Fold.{Progress, first_head, first_progress, fold_jobs, created_tickets, created_lines}
use Rattle.wave_base.specs.Places.{places_after, move_of, load_of}
use Rattle.wave_base.specs.Starts.{start_tree, start_places}
use Rattle.wave_base.specs.Tree.{Tree, shots}
use Rattle.resolved_service.specs.Jobs.{shot_of}
use Rattle.script_fold.specs.Lines.{Meaning, line_by, name_of, most_jobs}

-- after so many jobs, or at the end
abbrev pub after_jobs : Meaning → Shape → Start → Script → ℕ → Progress (List Value) EventResult Line
after_jobs meaning shape start script n = fold_jobs start.next.0 (line_by meaning) created_lines n (first_progress (start_tree shape start) script.batches)

-- at the end
unfoldable pub whole_run : Meaning → Shape → Start → Script → Progress (List Value) EventResult Line
whole_run meaning shape start script = after_jobs meaning shape start script (most_jobs script.batches)

-- the hosts of the contexts, after the jobs that are done
abbrev pub hosts_after : Start → Progress (List Value) EventResult Line → Tree ℕ
hosts_after start w = places_after (start_places start) (zip w.entered (map move_of w.results))

abbrev pub ticket_of : ℕ → Ticket
ticket_of n = record { 0 = n }

abbrev pub place_of : Path × ℕ → Place
place_of x = record { path = x.0; host = record { 0 = x.1 } }

-- the results in the order of tickets, with the tickets of what they created and the numbers of the events; and in path
-- order the places, the contexts with their fields, and how many jobs of this run entered each
abbrev pub finished_by : Start → Script → Progress (List Value) EventResult Line → Finished
finished_by start script w = record {
  results = w.results;
  made = map (map ticket_of) (created_tickets start.next.0 (first_head script.batches) (map created_lines w.results));
  names = map name_of w.head.known;
  places = map place_of (shots (hosts_after start w));
  shots = map shot_of (shots w.tree);
  loads = map (load_of w.entered) (hosts_after start w).paths;
}

abbrev pub finished_of : Meaning → Shape → Start → Script → Finished
finished_of meaning shape start script = finished_by start script (whole_run meaning shape start script)

-- ---- what a run leaves, another can begin with

-- its contexts, their hosts, and the ticket behind its last
abbrev pub start_after : Start → Finished → Start
start_after start f = record { shots = f.shots; places = f.places; next = record { 0 = start.next.0 + length f.results } }

-- its contexts and its next ticket are few enough for a start
abbrev pub IsFew : Start → Type 0
IsFew start = (length start.shots ≤ START_CONTEXTS) × (start.next.0 ≤ START_TICKET)

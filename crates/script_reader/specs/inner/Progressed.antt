-- How far the reader of a script has come.
use Rattle.std.specs.Prelude.{◌+◌, ◌∷◌, [], ◌++◌, List, true}
use Rattle.script_reader.specs.declared.earlier.Earlier.{Earlier}
use Rattle.script_reader.specs.declared.progress.Progress.{Progress}
use Rattle.script_reader.specs.declared.taken.Taken.{Taken}
use Rattle.script_reader.specs.declared.taken.Taken.TheVariants.{Skipped, Hosts, Event, Settle}
use Rattle.script_reader.specs.Judged.{hosts_of, has_begun, event_lines}
use Rattle.script_reader.specs.Scripts.{open_batch, closed_batches, with_batch}

-- after these lines, the last one first
abbrev pub progress_of : Earlier → List Taken → Progress
progress_of earlier before = record {
  hosts = hosts_of earlier before;
  begun = has_begun earlier before;
  events = event_lines earlier before;
  closed = closed_batches before;
  open_lines = open_batch before;
}

-- one line more
abbrev pub with_taken : Progress → Taken → Progress
with_taken p Skipped = p
with_taken p (Hosts n) = record { hosts = n; begun = true; events = p.events; closed = p.closed; open_lines = p.open_lines }
with_taken p (Event l) = record { hosts = p.hosts; begun = true; events = p.events + 1; closed = p.closed; open_lines = p.open_lines ++ l ∷ [] }
with_taken p Settle = record { hosts = p.hosts; begun = true; events = p.events; closed = with_batch p.closed p.open_lines; open_lines = [] }

-- How far the reader of a script with policies has come.
use Rattle.std.specs.Prelude.{◌≡◌, ◌+◌, ◌∷◌, [], ◌++◌, List, Bool, true, false, Some}
use Rattle.script_reader.specs.declared.elastic.Elastic.{Elastic}
use Rattle.script_reader.specs.declared.elastic.Part.{Part}
use Rattle.script_reader.specs.declared.elastic_progress.ElasticProgress.{ElasticProgress}
use Rattle.script_reader.specs.declared.taken.Taken.{Taken}
use Rattle.script_reader.specs.declared.taken.Taken.TheVariants.{Event, Settle}
use Rattle.script_reader.specs.declared.told.Told.{Told}
use Rattle.script_reader.specs.declared.told.Told.TheVariants.{Plain, Policed}
use Rattle.script_reader.specs.declared.worded.Worded.{Worded}
use Rattle.script_reader.specs.declared.worded.Worded.TheVariants as worded
use Rattle.script_reader.specs.Elastics.{told_hosts, has_spoken, event_count, is_under_way, last_lines, last_policy, ended_parts}
use Rattle.script_reader.specs.Policies.{is_policy_form}
use Rattle.script_reader.specs.Scripts.{IsWellFormed, open_batch, closed_batches, with_batch}
use Rattle.script_reader.specs.inner.Progressed.{with_taken}

abbrev pub IsWellWorded : Worded → Type 0
IsWellWorded (worded.Plain said) = IsWellFormed said
IsWellWorded (worded.Policy form) = is_policy_form form ≡ true

-- after these lines, the last one first
abbrev pub elastic_progress_of : List Told → ElasticProgress
elastic_progress_of before = record {
  parts = ended_parts before;
  policy = last_policy before;
  under_way = is_under_way before;
  plain = record {
    hosts = told_hosts before;
    begun = has_spoken before;
    events = event_count before;
    closed = closed_batches (last_lines before);
    open_lines = open_batch (last_lines before);
  };
}

-- an event line begins a batch, and a `settle` ends it
abbrev pub under_way_after : Bool → Taken → Bool
under_way_after b (Event l) = true
under_way_after b Settle = false
under_way_after b t = b

-- the last part
abbrev pub part_with : ElasticProgress → Part
part_with p = record { policy = p.policy; batches = with_batch p.plain.closed p.plain.open_lines }

-- one line more
abbrev pub with_told : ElasticProgress → Told → ElasticProgress
with_told p (Plain t) = record { parts = p.parts; policy = p.policy; under_way = under_way_after p.under_way t; plain = with_taken p.plain t }
with_told p (Policed q) = record {
  parts = p.parts ++ part_with p ∷ [];
  policy = Some q;
  under_way = true;
  plain = record { hosts = p.plain.hosts; begun = true; events = p.plain.events + 1; closed = []; open_lines = [] };
}

abbrev pub elastic_with : ElasticProgress → Elastic
elastic_with p = record { hosts = p.plain.hosts; parts = p.parts ++ part_with p ∷ [] }

-- The script that a script with policies stands for: computed examples.
use Rattle.std.proofs.Common.{◌≡◌, ℕ, pos, List, [], ◌∷◌, ◌++◌, Some, None, refl}
use Rattle.wave_base.specs.declared.outcome.EventResult.{EventResult}
use Rattle.wave_base.specs.declared.outcome.Outcome.TheVariants as out
use Rattle.wave_base.specs.declared.path.Path.{Path}
use Rattle.wave_base.specs.declared.policy.Policy.{Policy}
use Rattle.wave_base.specs.declared.policy.Policy.TheVariants.{Balance, Drain}
use Rattle.wave_base.specs.declared.script.Line.{Line}
use Rattle.wave_base.specs.declared.script.Line.TheVariants.{Request, Move, Snapshot}
use Rattle.wave_base.specs.declared.shape.Shape.{Shape}
use Rattle.wave_base.specs.declared.start.Start.{Start}
use Rattle.wave_base.specs.Tree.{enter}
use Rattle.script_fold.specs.Lines.{Meaning, most_events}
use Rattle.script_fold.specs.Runs.{whole_run}
use Rattle.script_reader.specs.declared.elastic.Elastic.{Elastic}
use Rattle.script_reader.specs.declared.elastic.Part.{Part}
use Rattle.script_reader.specs.Elastics.{plain_elastic}
use Rattle.elastic_policy.specs.Expansions.{script_of, entries, entries_in, expansion}

abbrev hall : ℕ → Path
hall n = record { class = record { 0 = 1 }; key = pos n } ∷ []

-- a call of event n enters hall n, and nothing comes of it
abbrev done : EventResult
done = record { outcome = out.Done; messages = []; created = [] }

abbrev meaning : Meaning
meaning tree c = record { tree = enter tree (hall c.event); result = done; entered = hall c.event ∷ [] }

abbrev event : ℕ → Line
event n = Request (record { event = n; args = []; generation = 4 })

abbrev to : Path → ℕ → Line
to path host = Move path (record { 0 = host })

-- from the root alone, on host 0
abbrev start : Start
start = record {
  shots = record { path = []; fields = [] } ∷ [];
  places = record { path = []; host = record { 0 = 0 } } ∷ [];
  next = record { 0 = 1 };
}

abbrev under : Policy → List (List Line) → Part
under policy batches = record { policy = Some policy; batches = batches }

-- two batches without a policy, which load hall 1 once, hall 2 twice and hall 3 three times
abbrev first_batches : List (List Line)
first_batches = (event 1 ∷ event 2 ∷ event 2 ∷ []) ∷ (event 3 ∷ event 3 ∷ event 3 ∷ []) ∷ []

abbrev first_part : Part
first_part = record { policy = None; batches = first_batches }

abbrev later_batch : List Line
later_batch = event 2 ∷ event 1 ∷ event 1 ∷ []

-- Two halls move. The part has no batches, and its own moves are no load: so the balance behind it asks for none. The next one goes by what
-- stands between them alone, and the drain by where all are then.
abbrev elastic : Elastic
elastic = record {
  hosts = 2;
  parts = first_part ∷ under (Balance 3) [] ∷ under (Balance 3) (later_batch ∷ []) ∷ under (Balance 1) ((Snapshot ∷ []) ∷ []) ∷ under (Drain (record { 0 = 0 }) (record { 0 = 1 })) ((Snapshot ∷ []) ∷ []) ∷ [];
}

expands : (shape : Shape) → expansion meaning shape start elastic ≡ script_of 2 (
    (event 1 ∷ event 2 ∷ event 2 ∷ []) ∷ (event 3 ∷ event 3 ∷ event 3 ∷ []) ∷ (to (hall 1) 1 ∷ to (hall 2) 1 ∷ [])
    ∷ later_batch
    ∷ (to (hall 1) 0 ∷ []) ∷ (Snapshot ∷ [])
    ∷ (to [] 1 ∷ to (hall 1) 1 ∷ to (hall 3) 1 ∷ []) ∷ (Snapshot ∷ [])
    ∷ []
    )
unfolding expansion whole_run most_events
expands shape = refl

-- how many tickets entered hall 2: in all, and in the last batch
entered_both : (shape : Shape) → entries meaning shape start 2 (first_batches ++ later_batch ∷ []) (hall 2) ≡ 3
unfolding whole_run most_events
entered_both shape = refl

entered_last : (shape : Shape) → entries_in meaning shape start 2 first_batches (later_batch ∷ []) (hall 2) ≡ 1
unfolding whole_run most_events
entered_last shape = refl

-- a policy in the first part: nothing has entered a context, and the root alone is there
begins_with_policy : (shape : Shape) → expansion meaning shape start (record { hosts = 2; parts = under (Balance 5) [] ∷ under (Drain (record { 0 = 0 }) (record { 0 = 1 })) [] ∷ [] }) ≡ script_of 2 ((to [] 1 ∷ []) ∷ [])
unfolding expansion whole_run most_events
begins_with_policy shape = refl

-- without a policy
no_policy : (shape : Shape) → expansion meaning shape start (plain_elastic (script_of 2 first_batches)) ≡ script_of 2 first_batches
unfolding expansion whole_run most_events
no_policy shape = refl

-- Two scripts, run one behind the other and as one: computed examples of the definitions.
use Rattle.std.proofs.Common.{◌≡◌, ℕ, [], ◌∷◌, List, Some, None, pos, refl}
use Rattle.std.specs.Prelude.{◌==◌, if◌then◌else◌, map}
use Rattle.wave_base.specs.declared.call.Call.{Call}
use Rattle.wave_base.specs.declared.finished.Finished.{Finished}
use Rattle.wave_base.specs.declared.finished.Place.{Place}
use Rattle.wave_base.specs.declared.numbers.Host.{Host}
use Rattle.wave_base.specs.declared.outcome.EventResult.{EventResult}
use Rattle.wave_base.specs.declared.outcome.Outcome.TheVariants as out
use Rattle.wave_base.specs.declared.path.Path.{Path}
use Rattle.wave_base.specs.declared.script.Line.{Line}
use Rattle.wave_base.specs.declared.script.Line.TheVariants.{Request, Move, Snapshot}
use Rattle.wave_base.specs.declared.script.Script.{Script}
use Rattle.wave_base.specs.declared.start.Start.{Start}
use Rattle.wave_base.specs.declared.value.Value.{Value}
use Rattle.wave_base.specs.declared.value.Value.TheVariants as v
use Rattle.wave_base.specs.Fold.{Progress}
use Rattle.wave_base.specs.Places.{load_of}
use Rattle.wave_base.specs.Tree.{Tree, enter, put}
use Rattle.resolved_service.specs.Jobs.{only}
use Rattle.script_fold.specs.Lines.{Meaning, most_events}
use Rattle.script_fold.specs.Runs.{whole_run, finished_of}
use Rattle.service_verify.proofs.Samples.{market_shape}
use Rattle.fold_laws.specs.Cuts.{both, joint_progress, start_behind}
use Rattle.fold_laws.specs.Growth.{most_added, most_contexts}

abbrev hall : ℕ → Path
hall n = record { class = record { 0 = 1 }; key = pos n } ∷ []

abbrev call : ℕ → ℕ → Call
call event generation = record { event = event; args = []; generation = generation }

abbrev host : ℕ → Host
host h = record { 0 = h }

-- ---- what lines may add

-- 256 for each of the 341 jobs that a request may make, and for a created call of the last generation its own; none for a move or a snapshot
lines_add : map most_added (Request (call 0 0) ∷ Request (call 0 3) ∷ Request (call 0 4) ∷ Move (hall 1) (host 1) ∷ Snapshot ∷ []) ≡ 87296 ∷ 1280 ∷ 256 ∷ 0 ∷ 0 ∷ []
unfolding most_events
lines_add = refl

batches_add : most_contexts ((Request (call 0 4) ∷ Snapshot ∷ []) ∷ (Request (call 0 3) ∷ []) ∷ []) ≡ 1536
unfolding most_events
batches_add = refl

-- ---- two scripts

-- event n enters the root and hall n, and leaves n there; event 5 creates event 1
abbrev result : Call → EventResult
result c = record { outcome = out.Done; messages = []; created = if c.event == 5 then call 1 4 ∷ [] else [] }

abbrev meaning : Meaning
meaning tree c = record { tree = put (enter tree (hall c.event)) (hall c.event) (v.Int (pos c.event) ∷ []); result = result c; entered = [] ∷ hall c.event ∷ [] }

-- with the root alone, on host 2, from ticket 7 on
abbrev start : Start
start = record {
  shots = record { path = []; fields = v.Int (pos 40) ∷ [] } ∷ [];
  places = record { path = []; host = host 2 } ∷ [];
  next = record { 0 = 7 };
}

-- event 5 and what comes of it, and then a move of its hall; and behind it event 5 once more, a move of another hall, and event 2
abbrev one : Script
one = record { hosts = 3; batches = (Request (call 5 3) ∷ []) ∷ (Move (hall 5) (host 1) ∷ []) ∷ [] }

abbrev other : Script
other = record { hosts = 3; batches = (Request (call 5 3) ∷ Move (hall 1) (host 0) ∷ []) ∷ (Request (call 2 4) ∷ []) ∷ [] }

abbrev whole : Finished
whole = finished_of meaning market_shape start (both one other)

abbrev first_told : Finished
first_told = finished_of meaning market_shape start one

abbrev other_told : Finished
other_told = finished_of meaning market_shape (start_behind meaning market_shape start one) other

-- tickets 7 to 9 are the one's, and the other begins with 10: what its event 5 creates has 12
next_is : (start_behind meaning market_shape start one).next ≡ record { 0 = 10 }
unfolding whole_run most_events
next_is = refl

made_first : first_told.made ≡ (record { 0 = 8 } ∷ []) ∷ [] ∷ [] ∷ []
unfolding whole_run most_events
made_first = refl

made_other : other_told.made ≡ (record { 0 = 12 } ∷ []) ∷ [] ∷ [] ∷ [] ∷ []
unfolding whole_run most_events
made_other = refl

-- both as one
made_whole : whole.made ≡ (record { 0 = 8 } ∷ []) ∷ [] ∷ [] ∷ (record { 0 = 12 } ∷ []) ∷ [] ∷ [] ∷ [] ∷ []
unfolding whole_run most_events
made_whole = refl

names_whole : whole.names ≡ Some 5 ∷ Some 1 ∷ None ∷ Some 5 ∷ None ∷ Some 1 ∷ Some 2 ∷ []
unfolding whole_run most_events
names_whole = refl

-- hall 5 is where the one moved it, hall 1 where the other did, and hall 2 joined where the root is
abbrev place : Path → ℕ → Place
place p h = record { path = p; host = host h }

places_other : other_told.places ≡ place [] 2 ∷ place (hall 1) 0 ∷ place (hall 2) 2 ∷ place (hall 5) 1 ∷ []
unfolding whole_run most_events
places_other = refl

places_whole : whole.places ≡ place [] 2 ∷ place (hall 1) 0 ∷ place (hall 2) 2 ∷ place (hall 5) 1 ∷ []
unfolding whole_run most_events
places_whole = refl

-- how many jobs entered the root, and hall 5: in the one, in the other, and in both
abbrev entered_by : Start → Script → Path → ℕ
entered_by s script p = load_of (whole_run meaning market_shape s script).entered p

loads : entered_by start one [] ∷ entered_by (start_behind meaning market_shape start one) other [] ∷ entered_by start (both one other) [] ∷ [] ≡ 3 ∷ 4 ∷ 7 ∷ []
unfolding whole_run most_events
loads = refl

loads_of_hall : entered_by start one (hall 5) ∷ entered_by (start_behind meaning market_shape start one) other (hall 5) ∷ entered_by start (both one other) (hall 5) ∷ [] ≡ 2 ∷ 1 ∷ 3 ∷ []
unfolding whole_run most_events
loads_of_hall = refl

-- ---- one run behind another

abbrev run_of : List Line → List (List Line) → ℕ → Tree (List Value) → Progress (List Value) EventResult Line
run_of known later done tree = record { head = record { known = known; later = later; done = done }; tree = tree; results = only out.Done ∷ []; entered = ([] ∷ []) ∷ [] }

abbrev bare_tree : Tree (List Value)
bare_tree = record { paths = [] ∷ []; fields = λ p. [] }

-- the jobs of both, the batches and the tree of the other, and the jobs that both have done
follows : joint_progress (run_of (Snapshot ∷ []) [] 1 (enter bare_tree (hall 1))) (run_of (Request (call 2 0) ∷ Snapshot ∷ []) ((Snapshot ∷ []) ∷ []) 1 bare_tree)
    ≡ record {
      head = record { known = Snapshot ∷ Request (call 2 0) ∷ Snapshot ∷ []; later = (Snapshot ∷ []) ∷ []; done = 2 };
      tree = bare_tree;
      results = only out.Done ∷ only out.Done ∷ [];
      entered = ([] ∷ []) ∷ ([] ∷ []) ∷ [];
    }
follows = refl

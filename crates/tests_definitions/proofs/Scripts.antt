-- A script of two batches, run whole: what it comes to, ticket by ticket, and what the next run begins with.
use Rattle.std.proofs.Common.{◌≡◌, ℕ, true, false, [], ◌∷◌, Some, None, refl}
use Rattle.std.specs.Prelude.{◌==◌, if◌then◌else◌, map}
use Rattle.wave_base.specs.declared.call.Call.{Call}
use Rattle.wave_base.specs.declared.finished.Finished.{Finished}
use Rattle.wave_base.specs.declared.finished.Place.{Place}
use Rattle.wave_base.specs.declared.numbers.Host.{Host}
use Rattle.wave_base.specs.declared.outcome.EventResult.{EventResult}
use Rattle.wave_base.specs.declared.outcome.Outcome.TheVariants as out
use Rattle.wave_base.specs.declared.path.Path.{Path}
use Rattle.wave_base.specs.declared.script.Line.TheVariants.{Request, Move, Snapshot}
use Rattle.wave_base.specs.declared.script.Script.{Script}
use Rattle.wave_base.specs.declared.shot.Shot.{Shot}
use Rattle.wave_base.specs.declared.start.Start.{Start}
use Rattle.wave_base.specs.Fold.{is_over}
use Rattle.wave_base.specs.Tree.{enter, put}
use Rattle.resolved_service.specs.Jobs.{only}
use Rattle.script_fold.specs.Lines.{Meaning, name_of, most_events, most_of, most_jobs}
use Rattle.script_fold.specs.Runs.{after_jobs, whole_run, finished_by, finished_of, start_after}
use Rattle.service_verify.proofs.Samples.{market_shape}
use Rattle.tests_definitions.proofs.Market.{num, hall}

abbrev call : ℕ → ℕ → Call
call event generation = record { event = event; args = []; generation = generation }

abbrev host : ℕ → Host
host h = record { 0 = h }

-- event n enters the root and hall n, and leaves n there; event 5 creates event 1
abbrev result : Call → EventResult
result c = record { outcome = out.Reply (num c.event); messages = []; created = if c.event == 5 then call 1 4 ∷ [] else [] }

abbrev meaning : Meaning
meaning tree c = record { tree = put (enter tree (hall c.event)) (hall c.event) (num c.event ∷ []); result = result c; entered = [] ∷ hall c.event ∷ [] }

-- From ticket 7 on, with the root on host 2 and hall 3 on host 0. In the first batch event 5, and a move of the hall that it enters; in the second
-- one a snapshot, and event 2.
abbrev start : Start
start = record {
  shots = record { path = []; fields = num 40 ∷ [] } ∷ record { path = hall 3; fields = num 3 ∷ [] } ∷ [];
  places = record { path = []; host = host 2 } ∷ record { path = hall 3; host = host 0 } ∷ [];
  next = record { 0 = 7 };
}

abbrev script : Script
script = record { hosts = 3; batches = (Request (call 5 3) ∷ Move (hall 5) (host 1) ∷ []) ∷ (Snapshot ∷ Request (call 2 3) ∷ []) ∷ [] }

-- ---- how many jobs

-- an event and what may come of it: at most four for each, so many generations on
most : map most_events (0 ∷ 1 ∷ 2 ∷ 4 ∷ []) ≡ 1 ∷ 5 ∷ 21 ∷ 341 ∷ []
unfolding most_events
most = refl

-- by its generation; a move and a snapshot are one
most_of_lines : map most_of (Request (call 5 0) ∷ Request (call 5 3) ∷ Request (call 5 4) ∷ Move (hall 5) (host 1) ∷ Snapshot ∷ []) ≡ 341 ∷ 5 ∷ 1 ∷ 1 ∷ 1 ∷ []
unfolding most_events
most_of_lines = refl

most_of_script : most_jobs script.batches ≡ 12
unfolding most_events
most_of_script = refl

names : map name_of (Request (call 5 3) ∷ Move (hall 5) (host 1) ∷ Snapshot ∷ []) ≡ Some 5 ∷ None ∷ None ∷ []
names = refl

-- ---- the run

-- five jobs: with four it is not over, and with five it is, as whole
five_jobs : is_over (after_jobs meaning market_shape start script 4) ∷ is_over (after_jobs meaning market_shape start script 5) ∷ [] ≡ false ∷ true ∷ []
five_jobs = refl

whole_is_over : is_over (whole_run meaning market_shape start script) ≡ true
unfolding whole_run most_events
whole_is_over = refl

abbrev done : Finished
done = finished_of meaning market_shape start script

abbrev shot : Path → ℕ → Shot
shot p n = record { path = p; fields = num n ∷ [] }

abbrev place : Path → ℕ → Place
place p h = record { path = p; host = host h }

-- in the order of tickets: the created event behind the move, and before the second batch, whose snapshot shows its hall
results : done.results ≡ result (call 5 3) ∷ only (out.Moved (hall 5) (host 1)) ∷ result (call 1 4) ∷ only (out.Shots (shot [] 40 ∷ shot (hall 1) 1 ∷ shot (hall 3) 3 ∷ shot (hall 5) 5 ∷ [])) ∷ result (call 2 3) ∷ []
unfolding whole_run most_events
results = refl

-- event 5 has ticket 7, the move 8, and so what it creates 9
made : done.made ≡ (record { 0 = 9 } ∷ []) ∷ [] ∷ [] ∷ [] ∷ [] ∷ []
unfolding whole_run most_events
made = refl

names_of : done.names ≡ Some 5 ∷ None ∷ Some 1 ∷ None ∷ Some 2 ∷ []
unfolding whole_run most_events
names_of = refl

-- in path order: halls 1 and 2 joined where the root is, hall 3 stayed on its own host, and hall 5 was moved
places : done.places ≡ place [] 2 ∷ place (hall 1) 2 ∷ place (hall 2) 2 ∷ place (hall 3) 0 ∷ place (hall 5) 1 ∷ []
unfolding whole_run most_events
places = refl

shots : done.shots ≡ shot [] 40 ∷ shot (hall 1) 1 ∷ shot (hall 2) 2 ∷ shot (hall 3) 3 ∷ shot (hall 5) 5 ∷ []
unfolding whole_run most_events
shots = refl

-- in path order, how many of the five jobs entered each: all the root; hall 1 its event and the snapshot; hall 5 its event, the move and the snapshot
loads : done.loads ≡ 5 ∷ 2 ∷ 1 ∷ 1 ∷ 3 ∷ []
unfolding whole_run most_events
loads = refl

-- of a run that stops after three jobs
after_three : (finished_by start script (after_jobs meaning market_shape start script 3)).loads ≡ 3 ∷ 1 ∷ 0 ∷ 2 ∷ []
after_three = refl

-- ---- and on

-- behind five jobs comes ticket 12
next_ticket : (start_after start done).next ≡ record { 0 = 12 }
unfolding whole_run most_events
next_ticket = refl

-- The same event then has ticket 12, in a hall that has not moved since; what it creates has 13.
abbrev again : Finished
again = finished_of meaning market_shape (start_after start done) (record { hosts = 3; batches = (Request (call 5 3) ∷ []) ∷ [] })

again_made : again.made ≡ (record { 0 = 13 } ∷ []) ∷ [] ∷ []
unfolding whole_run most_events
again_made = refl

again_places : again.places ≡ place [] 2 ∷ place (hall 1) 2 ∷ place (hall 2) 2 ∷ place (hall 3) 0 ∷ place (hall 5) 1 ∷ []
unfolding whole_run most_events
again_places = refl

-- the loads are those of the second run alone
again_loads : again.loads ≡ 2 ∷ 1 ∷ 0 ∷ 0 ∷ 1 ∷ []
unfolding whole_run most_events
again_loads = refl

-- A small plan, computed: events that create others, moves and a snapshot, in the fold and in the machine. And short wrong runs.
use Rattle.std.proofs.Common.{◌≡◌, ℕ, true, List, [], ◌∷◌, ◌++◌, length, Option, Some, None, pos, refl}
use Rattle.std.specs.Prelude.{codes, option_map, map}
use Rattle.wave_base.specs.declared.call.Call.{Call}
use Rattle.wave_base.specs.declared.numbers.Host.{Host}
use Rattle.wave_base.specs.declared.outcome.EventResult.{EventResult}
use Rattle.wave_base.specs.declared.outcome.Outcome.TheVariants as out
use Rattle.wave_base.specs.declared.path.Path.{Path}
use Rattle.wave_base.specs.declared.path.Step.{Step}
use Rattle.wave_base.specs.declared.script.Line.{Line}
use Rattle.wave_base.specs.declared.script.Line.TheVariants.{Request, Move, Snapshot}
use Rattle.wave_base.specs.declared.shot.Shot.{Shot}
use Rattle.wave_base.specs.declared.start.Start.{Start}
use Rattle.wave_base.specs.declared.value.Value.{Value}
use Rattle.wave_base.specs.declared.value.Value.TheVariants as v
use Rattle.wave_base.specs.Fold.{next_job, created_lines}
use Rattle.wave_base.specs.Paths.{parent_of}
use Rattle.wave_base.specs.Tree.{Tree, enter, put, shots}
use Rattle.wave_base.specs.Trees.{first_tree}
use Rattle.resolved_service.specs.Jobs.{only, move_ran}
use Rattle.value_ops.specs.Operators.{operators, takes_of, gives_of, apply_row}
use Rattle.service_code.specs.declared.instr.Instr.TheVariants.{PushInt, Field, SetField, Op, Spawn, Go, End}
use Rattle.service_code.specs.declared.program.Program.{Program}
use Rattle.service_verify.specs.Boxes.{first_box}
use Rattle.service_verify.specs.Looks.{peeks, is_quiet_function}
use Rattle.service_verify.specs.Points as points
use Rattle.service_verify.specs.Points.{judged_function, judged_from, point_after}
use Rattle.service_verify.specs.Reads.{read_marks}
use Rattle.service_verify.specs.Rules.{effect_of, levels_above}
use Rattle.service_verify.specs.Segments.{weight, enough, steps, segment}
use Rattle.service_verify.specs.Steps.{act_move, one_step}
use Rattle.service_verify.proofs.Samples.{class, function, one_int}
use Rattle.wave_states.specs.Actors.{Actors, Left, Down, Back, Over}
use Rattle.wave_states.specs.Alone.{run_alone, fold_alone, places_alone, after_segments}
use Rattle.wave_states.specs.Begins.{Begin, begin_of, start_state}
use Rattle.wave_states.specs.Canonical.{enabled_labels}
use Rattle.wave_states.specs.Movers as mover
use Rattle.wave_states.specs.Movers.{Mover, MoveEnd, advance_on}
use Rattle.wave_states.specs.Runs.{run, drive, seed}
use Rattle.wave_states.specs.States.{State}
use Rattle.wave_states.specs.Steps as machine
use Rattle.wave_states.specs.Walkers.{Walker, first_of, last_step, steps_left, visit, walkers}
use Rattle.wave_states.specs.Work.{work_after}
use Rattle.code_actor.specs.CodeActors.{Fields}
use Rattle.plan_actors.specs.PlanActors.{Actor, plan_actors}

-- service Shop { var seen: int = 0; class Hall { var count: int = 0; }
-- event open() { here { } down Hall[1] { count = count + 1; spawn close(); } } event close() { here { seen = seen + 1; } }
-- event again() { here { spawn again(); } } }
abbrev shop : Program
shop = record {
  shape = record {
    classes = record { name = codes "Shop"; parent = None; fields = one_int (codes "seen") 0 ∷ [] } ∷ record { name = codes "Hall"; parent = Some (class 0); fields = one_int (codes "count") 0 ∷ [] } ∷ [];
    events = record { name = codes "open"; params = []; reply = None } ∷ record { name = codes "close"; params = []; reply = None } ∷ record { name = codes "again"; params = []; reply = None } ∷ [];
  };
  functions =
      function (codes "open") 0 true [] None [] 2 (PushInt (pos 1) ∷ Go (class 1) ∷ Field 0 ∷ PushInt (pos 1) ∷ Op 0 ∷ SetField 0 ∷ Spawn 1 ∷ End ∷ [])
      ∷ function (codes "close") 0 true [] None [] 2 (Field 0 ∷ PushInt (pos 1) ∷ Op 0 ∷ SetField 0 ∷ End ∷ [])
      ∷ function (codes "again") 0 true [] None [] 0 (Spawn 2 ∷ End ∷ []) ∷ [];
  texts = [];
  events = 0 ∷ 1 ∷ 2 ∷ [];
}

abbrev call : ℕ → ℕ → Call
call event generation = record { event = event; args = []; generation = generation }

abbrev int : ℕ → Value
int n = v.Int (pos n)

abbrev host : ℕ → Host
host h = record { 0 = h }

abbrev hall : ℕ → Path
hall n = record { class = class 1; key = pos n } ∷ []

-- after seven earlier tickets; the root has seen 5, and is on host 1
abbrev start : Start
start = record { shots = record { path = []; fields = int 5 ∷ [] } ∷ []; places = record { path = []; host = host 1 } ∷ []; next = record { 0 = 8 } }

abbrev begin : Begin Fields
begin = begin_of shop.shape start

-- an event that creates another; then a move of the hall that it entered, one of a hall that is not there, and a snapshot
abbrev batches : List (List Line)
batches = (Request (call 0 0) ∷ []) ∷ (Move (hall 1) (host 0) ∷ Move (hall 9) (host 0) ∷ Snapshot ∷ []) ∷ []

-- the plan's actors, where nine segments are enough
abbrev brief : Actors Actor Fields EventResult Line
brief = record (plan_actors shop) { enough = λ j t tree. 9 }

abbrev shot : Path → ℕ → Shot
shot p n = record { path = p; fields = int n ∷ [] }

abbrev results : List EventResult
results =
    record { outcome = out.Done; messages = []; created = call 1 1 ∷ [] }
    ∷ only out.Done
    ∷ only (out.Moved (hall 1) (host 0))
    ∷ only (out.Absent (hall 9))
    ∷ only (out.Shots (shot [] 6 ∷ shot (hall 1) 1 ∷ [])) ∷ []

abbrev jobs : List Line
jobs = Request (call 0 0) ∷ Request (call 1 1) ∷ Move (hall 1) (host 0) ∷ Move (hall 9) (host 0) ∷ Snapshot ∷ []

-- in the fold: the created call comes before the second batch
folded : (fold_alone brief begin batches 5).results ≡ results
unfolding after_segments segment steps enough weight one_step act_move first_box takes_of gives_of apply_row operators read_marks peeks is_quiet_function judged_function judged_from points.visit point_after effect_of levels_above
folded = refl

folded_jobs : (fold_alone brief begin batches 5).head ≡ record { known = jobs; later = []; done = 5 }
unfolding after_segments segment steps enough weight one_step act_move first_box takes_of gives_of apply_row operators read_marks peeks is_quiet_function judged_function judged_from points.visit point_after effect_of levels_above
folded_jobs = refl

folded_paths : (fold_alone brief begin batches 5).entered ≡ ([] ∷ hall 1 ∷ []) ∷ ([] ∷ []) ∷ ([] ∷ hall 1 ∷ []) ∷ ([] ∷ []) ∷ ([] ∷ hall 1 ∷ []) ∷ []
unfolding after_segments segment steps enough weight one_step act_move first_box takes_of gives_of apply_row operators read_marks peeks is_quiet_function judged_function judged_from points.visit point_after effect_of levels_above
folded_paths = refl

folded_hosts : shots (places_alone brief begin batches 5) ≡ ([], 1) ∷ (hall 1, 0) ∷ []
unfolding after_segments segment steps enough weight one_step act_move first_box takes_of gives_of apply_row operators read_marks peeks is_quiet_function judged_function judged_from points.visit point_after effect_of levels_above
folded_hosts = refl

-- five tickets; two segments down, one at the root, two and one of the moves, and three of the snapshot
folded_work : work_after brief begin batches 5 ≡ record { tickets = 5; segments = 9; entered = 8; moves = 1 }
unfolding after_segments segment steps enough weight one_step act_move first_box takes_of gives_of apply_row operators read_marks peeks is_quiet_function judged_function judged_from points.visit point_after effect_of levels_above
folded_work = refl

-- in the machine, by two workers on two hosts
abbrev driven : Option (State Actor Fields EventResult Line)
driven = run (plan_actors shop) 2 (start_state begin batches) (drive (plan_actors shop) 2 2 seed 100 3 (start_state begin batches))

abbrev all_results : State Actor Fields EventResult Line → List (Option EventResult)
all_results s = (s.cells 8).result ∷ (s.cells 9).result ∷ (s.cells 10).result ∷ (s.cells 11).result ∷ (s.cells 12).result ∷ []

driven_results : option_map all_results driven ≡ Some (map (λ r. Some r) results)
unfolding machine.step run enabled_labels drive segment steps enough weight one_step act_move first_box takes_of gives_of apply_row operators read_marks peeks is_quiet_function judged_function judged_from points.visit point_after effect_of levels_above
driven_results = refl

driven_jobs : option_map (λ s. s.head) driven ≡ Some (record { known = jobs; later = []; done = 5 })
unfolding machine.step run enabled_labels drive segment steps enough weight one_step act_move first_box takes_of gives_of apply_row operators read_marks peeks is_quiet_function judged_function judged_from points.visit point_after effect_of levels_above
driven_jobs = refl

-- ---- wrong actors

abbrev tree : Tree Fields
tree = put (enter (first_tree shop.shape) (hall 1)) (hall 1) (int 4 ∷ [])

-- A mover that stops one step above its target: it did not enter what it moves.
abbrev stops_above : mover.Move → Fields → List Step → List Step → Left Mover Fields MoveEnd
stops_above m f cs (s ∷ []) = advance_on m f cs []
stops_above m f cs ss = advance_on m f cs ss

abbrev short_movers : Actors Mover Fields MoveEnd mover.Move
short_movers = record (mover.movers (λ p. [])) { segment = λ a f cs. stops_above a.move f cs a.rest }

short_enters : (run_alone short_movers 1 tree (record { path = hall 1; to = 0 })).entered ≡ [] ∷ []
unfolding after_segments
short_enters = refl

move_enters : (move_ran tree (hall 1) (host 0)).entered ≡ [] ∷ hall 1 ∷ []
move_enters = refl

-- and it moves a hall that is not there
short_moves : (run_alone short_movers 1 tree (record { path = hall 9; to = 0 })).result ≡ mover.Moved (hall 9) 0
unfolding after_segments
short_moves = refl

-- A walker that copies a context at its last visit: the shots are not in path order.
abbrev late_on : Walker Fields → Fields → Option Step → Option Step → Left (Walker Fields) Fields (List (Path × Fields))
late_on a f (Some s) up = record { actor = record { at = a.at ++ s ∷ []; from = None; copied = a.copied }; fields = f; pause = Down s }
late_on a f None (Some s) = record { actor = record { at = parent_of a.at; from = Some s; copied = a.copied ++ (a.at, f) ∷ [] }; fields = f; pause = Back }
late_on a f None None = record { actor = a; fields = f; pause = Over (a.copied ++ (a.at, f) ∷ []) }

abbrev late_walkers : Actors (Walker Fields) Fields (List (Path × Fields)) (Unit {0})
late_walkers = record (walkers (λ p. [])) { segment = λ a f cs. late_on a f (first_of (steps_left cs a.from)) (last_step a.at) }

late_tells : (run_alone late_walkers 1 tree tt).result ≡ (hall 1, int 4 ∷ []) ∷ ([], int 0 ∷ []) ∷ []
unfolding after_segments visit
late_tells = refl

snapshot_tells : shots tree ≡ ([], int 0 ∷ []) ∷ (hall 1, int 4 ∷ []) ∷ []
snapshot_tells = refl

-- A created call that loses its generation: an event that creates itself ends at the fifth, for want of a generation; by the
-- wrong rule a sixth comes.
abbrev endless : List (List Line)
endless = (Request (call 2 0) ∷ []) ∷ []

no_sixth : next_job (fold_alone brief begin endless 5).head ≡ None
unfolding after_segments segment steps enough weight one_step act_move first_box takes_of gives_of apply_row operators read_marks peeks is_quiet_function judged_function judged_from points.visit point_after effect_of levels_above
no_sixth = refl

abbrev young : Line → Line
young (Request c) = Request (call c.event 0)
young l = l

abbrev forgetful : Actors Actor Fields EventResult Line
forgetful = record brief { created = λ r. map young (created_lines r) }

a_sixth : next_job (fold_alone forgetful begin endless 5).head ≡ Some (Request (call 2 0))
unfolding after_segments segment steps enough weight one_step act_move first_box takes_of gives_of apply_row operators read_marks peeks is_quiet_function judged_function judged_from points.visit point_after effect_of levels_above
a_sixth = refl

-- Created calls that are left out: a result is missing.
abbrev barren : Actors Actor Fields EventResult Line
barren = record brief { created = λ r. [] }

one_missing : length (fold_alone barren begin batches 5).results ≡ 4
unfolding after_segments segment steps enough weight one_step act_move first_box takes_of gives_of apply_row operators read_marks peeks is_quiet_function judged_function judged_from points.visit point_after effect_of levels_above
one_missing = refl

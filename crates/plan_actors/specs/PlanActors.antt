-- The jobs of a plan as actors of the machine: an event runs its code, a move goes down to its context, a snapshot walks through all.
use Rattle.std.specs.Prelude.{◌≡◌, ◌<◌, ℕ, true, Bool, List}
use Rattle.wave_base.specs.declared.numbers.Host.{Host}
use Rattle.wave_base.specs.declared.outcome.EventResult.{EventResult}
use Rattle.wave_base.specs.declared.path.Path.{Path}
use Rattle.wave_base.specs.declared.path.Step.{Step}
use Rattle.wave_base.specs.declared.script.Line.{Line}
use Rattle.wave_base.specs.declared.script.Line.TheVariants.{Request, Move, Snapshot}
use Rattle.wave_base.specs.Fold.{created_lines}
use Rattle.wave_base.specs.Places.{move_of}
use Rattle.wave_base.specs.Shapes.{is_path, initial_fields}
use Rattle.wave_base.specs.Tree.{Tree}
use Rattle.service_code.specs.declared.program.Program.{Program}
use Rattle.service_verify.specs.Segments.{Event}
use Rattle.service_verify.specs.Standing.{HasFields}
use Rattle.wave_states.specs.Actors.{Actors, Left}
use Rattle.wave_states.specs.Kinds.{Kind}
use Rattle.wave_states.specs.Movers as mover
use Rattle.wave_states.specs.Movers.{Mover, MoveEnd, movers, IsMover}
use Rattle.wave_states.specs.Results.{end_of, shots_of}
use Rattle.wave_states.specs.Walkers.{Walker, walkers, IsWalker}
use Rattle.code_actor.specs.CodeActors as code
use Rattle.code_actor.specs.CodeActors.{Fields, no_result, code_actors}
use Rattle.plan_actors.specs.Renamed.{left_as}

pub data Actor : Type 0 where
  Serves : Event → Actor
  Moves : Mover → Actor
  Walks : Walker Fields → Actor

abbrev pub same : EventResult → EventResult
same r = r

-- where a move goes
abbrev pub move_to : Path → Host → mover.Move
move_to p h = record { path = p; to = h.0 }

module _ (program : Program) where
  abbrev pub moving : Actors Mover Fields MoveEnd mover.Move
  moving = movers (initial_fields program.shape)

  abbrev pub walking : Actors (Walker Fields) Fields (List (Path × Fields)) (Unit {0})
  walking = walkers (initial_fields program.shape)

  -- the actor of a job and its ticket
  abbrev pub actor_of : Line → ℕ → Actor
  actor_of (Request call) t = Serves ((code_actors program).make call t)
  actor_of (Move p h) t = Moves (moving.make (move_to p h) t)
  actor_of Snapshot t = Walks (walking.make tt t)

  abbrev pub segment_of : Actor → Fields → List Step → Left Actor Fields EventResult
  segment_of (Serves e) f cs = left_as Serves same ((code_actors program).segment e f cs)
  segment_of (Moves a) f cs = left_as Moves end_of (moving.segment a f cs)
  segment_of (Walks a) f cs = left_as Walks shots_of (walking.segment a f cs)

  abbrev pub peeks_in : Actor → Bool
  peeks_in (Serves e) = (code_actors program).peeks e
  peeks_in (Moves a) = moving.peeks a
  peeks_in (Walks a) = walking.peeks a

  abbrev pub enough_for : Line → ℕ → Tree Fields → ℕ
  enough_for (Request call) t tree = (code_actors program).enough call t tree
  enough_for (Move p h) t tree = moving.enough (move_to p h) t tree
  enough_for Snapshot t tree = walking.enough tt t tree

  -- what stands for no result says that the root is absent, which is no job's
  abbrev pub plan_actors : Actors Actor Fields EventResult Line
  plan_actors = record {
    make = actor_of;
    segment = segment_of;
    peeks = peeks_in;
    initial = initial_fields program.shape;
    created = created_lines;
    moved = move_of;
    enough = enough_for;
    unended = no_result;
  }

  -- the jobs that may stand in a script over so many hosts, or come of one: a created call may be of a later generation
  abbrev pub IsJob : ℕ → Line → Type 0
  IsJob hosts (Request call) = code.IsJob program call
  IsJob hosts (Move p h) = (is_path program.shape p ≡ true) × (h.0 < hosts)
  IsJob hosts Snapshot = Unit {0}

  -- the actor may run a segment at a path, with so many calls open
  abbrev pub IsFine : ℕ → Actor → Path → ℕ → Type 0
  IsFine hosts (Serves e) p n = code.IsFine program e p n
  IsFine hosts (Moves a) p n = IsMover hosts a p n
  IsFine hosts (Walks a) p n = IsWalker a p n

  -- as a kind of actors
  abbrev pub plan_kind : ℕ → Kind Actor Fields EventResult Line
  plan_kind hosts = record { system = plan_actors; hosts = hosts; fits = HasFields program.shape; is_job = IsJob hosts; may_run = IsFine hosts }

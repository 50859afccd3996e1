-- Actors as programs have them, and the actors of the theory that they stand for.
use Rattle.std.specs.Prelude.{◌≡◌, ◌≤◌, ℕ, Bool, false, List, [], length}
use Rattle.wave_base.specs.declared.children.Child.{Child}
use Rattle.wave_base.specs.declared.path.Path.{Path}
use Rattle.wave_base.specs.declared.path.Step.{Step}
use Rattle.wave_base.specs.declared.pause.Pause.{Pause}
use Rattle.wave_base.specs.declared.record.Record.{Record}
use Rattle.service_code.specs.declared.program.Program.{Program}
use Rattle.service_verify.specs.Standing.{Stands, HasFields}
use Rattle.wave_states.specs.States.{steps_of}
use Rattle.code_actor.specs.CodeActors.{Fields, pause_of}
use Rattle.plan_actors.specs.PlanActors as theory
use Rattle.wave_effects.specs.declared.actor.Actor.{Actor}
use Rattle.wave_effects.specs.declared.actor.Actor.TheVariants.{Service, Mover, Walker}

abbrev pub actor_of : Actor → theory.Actor
actor_of (Service e) = theory.Serves e.value.event
actor_of (Mover m) = theory.Moves m.value.mover
actor_of (Walker w) = theory.Walks w.value.walker

-- whether it is marked as one that only looks
abbrev pub peeks_now : Actor → Bool
peeks_now (Service e) = e.value.peeking
peeks_now (Mover m) = false
peeks_now (Walker w) = false

-- the ticks that it has left: a move and a snapshot have none
abbrev pub ticks_now : Actor → ℕ
ticks_now (Service e) = e.value.event.box.ticks
ticks_now (Mover m) = 0
ticks_now (Walker w) = 0

-- it stands for one of the theory, and is marked as the theory has it
pub record IsActor (program : Program) (a : Actor) (b : theory.Actor) : Type 0 where
  pub same : b ≡ actor_of a
  pub peeks : peeks_now a ≡ theory.peeks_in program b

-- what one segment leaves of an actor, run on these fields with these children: the actor, the record, and why it paused
pub record HasActed (program : Program) (b : theory.Actor) (fields : Fields) (children : List (Step × Child)) (a : Actor) (body : Record) (why : Pause) : Type 0 where
  pub actor : IsActor program a (theory.segment_of program b fields (steps_of children)).actor
  pub left : body.fields ≡ (theory.segment_of program b fields (steps_of children)).fields
  pub kept : body.children ≡ children
  pub pause : pause_of why ≡ (theory.segment_of program b fields (steps_of children)).pause

-- it may run a segment on this record: an event stands where the record's fields fit, and a walker doesn't find a child below the
-- deepest class
abbrev pub MayRun : Program → Actor → Record → Type 0
MayRun program (Service e) body = (path : Path) × (calls : ℕ) × Stands program path calls e.value.event × HasFields program.shape path body.fields
MayRun program (Mover m) body = Unit {0}
MayRun program (Walker w) body = 8 ≤ length w.value.walker.at → body.children ≡ []

-- Scripts with policies that are run for a command, piece by piece.
use Rattle.std.specs.Prelude.{◌≡◌, Bool, Some}
use Rattle.wave_base.specs.declared.script.Script.{Script}
use Rattle.wave_base.specs.declared.start.Start.{Start}
use Rattle.resolved_service.specs.declared.service.Resolved.{Resolved}
use Rattle.service_code.specs.declared.program.Program.{Program}
use Rattle.script_reader.specs.declared.elastic.Elastic.{Elastic}
use Rattle.plan_actors.specs.Plans.{Plan}
use Rattle.command_words.specs.declared.command.Command.{Command}
use Rattle.command_words.specs.declared.command.Places.{Places}
use Rattle.command_words.specs.Inputs.{runs_workers}
use Rattle.elastic_policy.specs.Progress.{come_to}
use Rattle.elastic_policy.specs.Stages.{Staged, IsStaged, MayFollow, staged_after}
use Rattle.due_parts.specs.declared.answer.Answer.{Answer}
use Rattle.due_parts.specs.Runs.{nearest_workers}
use Rattle.due_parts.specs.Told.{any_trap}
use Rattle.due_stages.specs.declared.work.StagedWork.{StagedWork}
use Rattle.due_stages.specs.Accepted.{CanStage}
use Rattle.due_stages.specs.Elastic.{listed_of}
use Rattle.due_answer.specs.declared.task.Engine.{Engine}
use Rattle.due_answer.specs.Tasks.{staged_of, workers_of}
use Rattle.eventwave.specs.declared.made.Made.{Made}
use Rattle.eventwave.specs.declared.pieces.Behind.{Behind}
use Rattle.eventwave.specs.inner.Engines.{CanMake, IsMade, given_by}

-- the script with policies of which no piece was run
abbrev pub elastic_of : Staged → Elastic
elastic_of s = record { hosts = s.hosts; parts = s.left }

-- its listing, with the places or without
abbrev pub listing_of : StagedWork → Places → Answer
listing_of work places = listed_of work.program.shape work.service (elastic_of work.stages) places

-- a command asks for this listing, by this engine, and workers run it or do not; the script can be run piece by piece
pub record IsStagedBy (by_workers : Bool) (places : Places) (engine : Engine) (work : StagedWork) : Type 0 where
  pub command : Command
  pub who : runs_workers command ≡ by_workers
  pub asked : staged_of command ≡ Some (places, engine)
  pub can : CanStage (elastic_of work.stages) work

-- ---- a piece

-- its plan, for as many workers as the engine has
abbrev pub piece_plan : Program → Script → Engine → Plan
piece_plan program script engine = record { program = program; script = script; workers = nearest_workers (workers_of engine) }

-- the engine made this of its plan, from there
pub record IsPieceMade (engine : Engine) (plan : Plan) (start : Start) (it : Made) : Type 0 where
  pub workers : plan.workers ≡ nearest_workers (workers_of engine)
  pub made : IsMade engine plan start it

-- it can be run from where the script has come, which stands without it, and the script may go on behind it
pub record CanRunPiece (service : Resolved) (plan : Plan) (s : Staged) : Type 0 where
  pub can : CanMake service plan s.start
  pub staged : IsStaged s
  pub follows : MayFollow s (given_by plan s.start)

-- what is behind it
pub record IsBehind (plan : Plan) (s : Staged) (behind : Behind) : Type 0 where
  pub program : behind.program ≡ plan.program
  pub after : come_to behind.stages ≡ staged_after s (given_by plan s.start)
  pub staged : IsStaged (come_to behind.stages)
  pub trapped : behind.trapped ≡ any_trap (given_by plan s.start).results

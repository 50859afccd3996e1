-- Workers that have passes of their own.
use Rattle.std.specs.Prelude.{◌≡◌, ◌≤◌, ℕ, List, Option}
use Rattle.std.specs.Io.KnownBytes.{Appends}
use Rattle.wave_base.specs.declared.numbers.Ticket.{Ticket}
use Rattle.wave_base.specs.declared.numbers.Worker.{Worker}
use Rattle.wave_io.specs.Causes.{Rose}
use Rattle.wave_io.specs.Streams.{AppendsFront}
use Rattle.kept_lock.specs.declared.view.Known.{Known}
use Rattle.kept_lock.specs.declared.lock.KeptLock.{KeptLock}
use Rattle.kept_lock.specs.declared.lock.Pass.{Pass}
use Rattle.kept_lock.specs.Locks.{name_of, knowledge, IsPassOf}
use Rattle.wave_effects.specs.declared.plan.Plan.{Plan}
use Rattle.wave_board.specs.declared.board.Board.{Board}
use Rattle.wave_board.specs.declared.origin.Origin.{Origin}
use Rattle.wave_board.specs.declared.trail.Trail.{Trail}
use Rattle.host_workers.specs.declared.ending.WorkerEnd.{WorkerEnd}
use Rattle.host_workers.specs.declared.ending.WorkerEnd.TheVariants as ending
use Rattle.host_workers.specs.Endings.{Ended}
use Rattle.host_workers.specs.Lines.{event_lines}
use Rattle.host_workers.specs.Passes.{IsReady}

-- the pass is of the lock, whose plan is this one, and the worker may begin with it
pub record IsSeated (lock : KeptLock Board Origin Trail) (pass : Pass Board Origin Trail) (plan : Plan) (worker : Worker) : Type 0 where
  pub of_lock : IsPassOf lock pass
  pub plan_is : (name_of lock).plan.now ≡ plan
  pub ready : IsReady (name_of lock) (knowledge pass) worker

-- the worker is the one that writes, from the first ticket of the origin's Start, and the plan is the origin's
pub record IsAtPost (origin : Origin) (plan : Plan) (worker : Worker) (from : Ticket) : Type 0 where
  pub plan_is : origin.plan.now ≡ plan
  pub from_is : origin.start.now.next ≡ from
  pub writes : worker.0 ≡ 0

-- how worker 0 ended, and what was written of the lines of the plan's events
pub record HasEnded (origin : Origin) (plan : Plan) (pass : Known Trail) (old new : Option (List ℕ)) (faults faults' : ℕ) (e : WorkerEnd) : Type 0 where
  pub number : pass.number ≡ 0
  pub ended : Ended origin pass e
  pub whole : e ≡ ending.Finished → Appends old new (event_lines plan origin.start.now)
  pub front : AppendsFront old new (event_lines plan origin.start.now)
  pub fault : e ≡ ending.WriteFault → Rose faults faults'
  pub later : faults ≤ faults'

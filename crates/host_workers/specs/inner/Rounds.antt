-- What a worker's pass knows within a round, and after it.
use Rattle.std.specs.Prelude.{◌≡◌, ◌≢◌, ◌<◌, suc, length, Option, Some, None, Result, Ok, Err}
use Rattle.std.specs.List.{filter}
use Rattle.wave_base.specs.declared.memory.OutOfMemory.{OutOfMemory}
use Rattle.wave_base.specs.declared.numbers.Worker.{Worker}
use Rattle.wave_base.specs.declared.pause.Pause.{Pause}
use Rattle.kept_lock.specs.declared.view.Known.{Known}
use Rattle.kept_lock.specs.History.{entries_of}
use Rattle.wave_effects.specs.declared.lease.Lease.{Lease}
use Rattle.wave_effects.specs.Actors.{MayRun}
use Rattle.wave_effects.specs.Machines.{IsFinishedRun, TheState}
use Rattle.wave_effects.specs.Plans.{plan_of}
use Rattle.wave_effects.specs.Running.{IsBack, IsInHand}
use Rattle.wave_board.specs.declared.board.Board.{Board}
use Rattle.wave_board.specs.declared.origin.Origin.{Origin}
use Rattle.wave_board.specs.declared.trail.Trail.{Trail}
use Rattle.wave_board.specs.Boards.{IsAt, history_of, labels_in, owner_of}
use Rattle.wave_board.specs.Taking.{begins, ends}
use Rattle.host_workers.specs.declared.ending.WorkerEnd.{WorkerEnd}
use Rattle.host_workers.specs.declared.ending.WorkerEnd.TheVariants as ending
use Rattle.host_workers.specs.declared.packet.Packet.{Packet}
use Rattle.host_workers.specs.declared.task.Task.{Task}
use Rattle.host_workers.specs.declared.task.Task.TheVariants.{Segment, Again, Rest, Finished, Stopped}
use Rattle.host_workers.specs.Endings.{Ended, IsHaltedBy}
use Rattle.host_workers.specs.Passes.{IsReady, NoHalts}

module _ (origin : Origin) (pass : Known Trail) (worker : Worker) where
  -- the pass has the worker's number and made no Halt
  pub record IsCalm : Type 0 where
    pub number : pass.number ≡ worker.0
    pub no_halts : NoHalts pass.made

  -- A segment is out: the pass made one Start more than Stops, and has seen the history of a board to its end.
  pub record HasOut : Type 0 where
    pub calm : IsCalm
    pub is_worker : worker.0 < origin.plan.now.workers
    pub odd : length (filter begins pass.made) ≡ suc (length (filter ends pass.made))
    pub board : Board
    pub state : TheState
    pub at : IsAt board origin state
    pub seen : pass.seen ≡ history_of board
    pub own : entries_of owner_of pass.number (history_of board) ≡ pass.made

  -- the lease is what the worker has in its hand there, and a segment of it may run
  pub record HasLease (lease : Lease) : Type 0 where
    pub out : HasOut
    pub worker_is : lease.worker ≡ worker
    pub in_hand : IsInHand origin.plan.now.program lease (out.state.hands worker.0)
    pub may_run : MayRun origin.plan.now.program lease.actor lease.body

  -- lease and pause are what one segment gave on what the worker has in its hand there
  pub record HasPaused (lease : Lease) (why : Pause) : Type 0 where
    pub out : HasOut
    pub worker_is : lease.worker ≡ worker
    pub back : IsBack origin.plan.now.program out.state lease why

  -- what the worker brings to its next visit: a segment that was run, or nothing
  abbrev pub Brings : Option Packet → Type 0
  Brings None = IsReady origin pass worker
  Brings (Some p) = HasPaused p.reply.lease p.reply.pause

  -- what a worker got, and what its pass knows then
  abbrev pub Asked : Result Task OutOfMemory → Type 0
  Asked (Ok (Segment lease)) = HasLease lease
  Asked (Ok Again) = IsReady origin pass worker
  Asked (Ok Rest) = IsReady origin pass worker
  Asked (Ok Finished) = IsReady origin pass worker × IsFinishedRun (plan_of origin.plan.now) origin.start.now (labels_in pass.seen)
  Asked (Ok (Stopped why)) = IsReady origin pass worker × IsHaltedBy pass.number why pass.seen
  Asked (Err e) = IsCalm

  -- the worker goes on with what it brings, or has ended
  abbrev pub Rounded : Result (Option Packet) WorkerEnd → Type 0
  Rounded (Ok packet) = Brings packet
  Rounded (Err e) = (pass.number ≡ worker.0) × Ended origin pass e × (e ≢ ending.WriteFault)

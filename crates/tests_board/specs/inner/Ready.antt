-- What the tests hold of a board between two calls.
use Rattle.std.specs.Prelude.{◌≡◌, ◌+◌, ℕ, nat_eq, false, Bool, List, length, filter}
use Rattle.wave_base.specs.declared.numbers.Worker.{Worker}
use Rattle.wave_base.specs.declared.pause.Pause.{Pause}
use Rattle.kept_lock.specs.History.{entries_of}
use Rattle.wave_effects.specs.declared.lease.Lease.{Lease}
use Rattle.wave_effects.specs.declared.plan.Plan.{Plan}
use Rattle.wave_effects.specs.Actors.{MayRun}
use Rattle.wave_effects.specs.Machines.{TheState}
use Rattle.wave_effects.specs.Plans.{plan_of}
use Rattle.wave_effects.specs.Running.{IsBack, IsInHand}
use Rattle.wave_board.specs.declared.board.Board.{Board}
use Rattle.wave_board.specs.declared.origin.Origin.{Origin}
use Rattle.wave_board.specs.declared.trail.Trail.{Trail}
use Rattle.wave_board.specs.Boards.{IsAt, history_of, owner_of}
use Rattle.wave_board.specs.Taking.{AreEven, begins, ends}

abbrev pub the_worker : Worker
the_worker = record { 0 = 0 }

-- the board is of this plan, and stands for a state
pub record IsOf (plan : Plan) (b : Board) : Type 0 where
  pub origin : Origin
  pub state : TheState
  pub at : IsAt b origin state
  pub plan_is : b.machine.kept.plan ≡ plan_of plan

-- this worker has given back each segment that it got
abbrev pub GaveBack : ℕ → List Trail → Type 0
GaveBack w entries = AreEven (entries_of owner_of w entries)

-- each worker has
pub record IsReady (plan : Plan) (b : Board) : Type 0 where
  pub stands : IsOf plan b
  pub gave : (w : ℕ) → GaveBack w (history_of b)

-- so many of a worker's entries pass a test
abbrev pub many : (Trail → Bool) → ℕ → List Trail → ℕ
many p w entries = length (filter p (entries_of owner_of w entries))

-- each worker has given back each segment that it got, but for the last one of this worker
pub record GaveAllBut (worker : ℕ) (entries : List Trail) : Type 0 where
  pub others : (w : ℕ) → nat_eq worker w ≡ false → GaveBack w entries
  pub own : many begins worker entries ≡ many ends worker entries + 1

-- a lease is in its worker's hand, and a segment of it may run
pub record IsOut (plan : Plan) (b : Board) (lease : Lease) : Type 0 where
  pub stands : IsOf plan b
  pub in_hand : IsInHand b.machine.kept.plan.program lease (stands.state.hands lease.worker.0)
  pub may_run : MayRun plan.program lease.actor lease.body
  pub gave : GaveAllBut lease.worker.0 (history_of b)

-- a segment of it ran to this pause
pub record HasRun (plan : Plan) (b : Board) (lease : Lease) (why : Pause) : Type 0 where
  pub stands : IsOf plan b
  pub back : IsBack b.machine.kept.plan.program stands.state lease why
  pub gave : GaveAllBut lease.worker.0 (history_of b)

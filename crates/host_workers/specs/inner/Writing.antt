-- What the worker that writes knows of its lines.
use Rattle.std.specs.Prelude.{◌≡◌, ◌+◌, ◌≤◌, ◌<◌, ◌^◌, ◌++◌, ℕ, List, [], length, Option, Some, None, Result, Ok, Err}
use Rattle.std.specs.Io.KnownBytes.{Appends}
use Rattle.wave_base.specs.declared.finished.Finished as declared
use Rattle.wave_base.specs.declared.memory.OutOfMemory.{OutOfMemory}
use Rattle.wave_base.specs.declared.numbers.Worker.{Worker}
use Rattle.wave_base.specs.declared.shown.Shown.{Shown}
use Rattle.kept_lock.specs.declared.view.Known.{Known}
use Rattle.kept_lock.specs.History.{StartsWith}
use Rattle.wave_io.specs.Causes.{Rose}
use Rattle.wave_io.specs.Streams.{AppendsFront}
use Rattle.listing_out.specs.Parts.{AreShownFrom, first_lines}
use Rattle.wave_effects.specs.Machines.{TheState}
use Rattle.wave_board.specs.declared.board.Board.{Board}
use Rattle.wave_board.specs.declared.origin.Origin.{Origin}
use Rattle.wave_board.specs.declared.trail.Trail.{Trail}
use Rattle.wave_board.specs.Boards.{IsAt, history_of}
use Rattle.host_workers.specs.declared.begun.Begun.{Begun}
use Rattle.host_workers.specs.declared.ending.WorkerEnd.{WorkerEnd}
use Rattle.host_workers.specs.declared.ending.WorkerEnd.TheVariants as ending
use Rattle.host_workers.specs.declared.offer.Offer.{Offer}
use Rattle.host_workers.specs.declared.offer.Offer.TheVariants.{Lines, Task}
use Rattle.host_workers.specs.declared.packet.Packet.{Packet}
use Rattle.host_workers.specs.declared.task.Task.TheVariants.{Segment, Again, Rest, Finished, Stopped}
use Rattle.host_workers.specs.Endings.{Ended}
use Rattle.host_workers.specs.Lines.{told_by, event_lines}
use Rattle.host_workers.specs.Passes.{IsReady}
use Rattle.host_workers.specs.inner.Rounds.{Asked, Brings, IsCalm}

-- what the origin's run gives
abbrev pub told_of : Origin → declared.Finished
told_of origin = told_by origin.plan.now origin.start.now

-- the lines of its first tickets
abbrev pub lines_of : Origin → ℕ → List ℕ
lines_of origin count = first_lines origin.plan.now.program.shape origin.start.now.next.0 (told_of origin) count

-- in each board whose history goes on from what was seen, so many tickets are committed at least
abbrev pub AreCommitted : Origin → Known Trail → ℕ → Type 0
AreCommitted origin pass count = (b : Board) (s : TheState) → IsAt b origin s → StartsWith (history_of b) pass.seen → count ≤ s.head.done

-- these lines come next, of tickets that are committed
pub record AreNext (origin : Origin) (pass : Known Trail) (written : ℕ) (lines : List Shown) : Type 0 where
  pub shown : AreShownFrom (told_of origin) written lines
  pub committed : AreCommitted origin pass (written + length lines)
  pub some : 0 < length lines
  pub from_one : 1 ≤ origin.start.now.next.0
  pub few : origin.start.now.next.0 + (written + length lines) ≤ 2 ^ 32

-- of the worker that writes: so many tickets are committed; of another nothing is said
abbrev pub AreToldOf : Origin → Known Trail → Option ℕ → Type 0
AreToldOf origin pass None = Unit {0}
AreToldOf origin pass (Some written) = AreCommitted origin pass written

-- it alone is offered lines, those that come next
abbrev pub MayWrite : Origin → Known Trail → Option ℕ → List Shown → Type 0
MayWrite origin pass None lines = ⊥
MayWrite origin pass (Some written) lines = AreNext origin pass written lines

-- and it has written all of them
abbrev pub WroteAll : Origin → Option ℕ → Type 0
WroteAll origin None = Unit {0}
WroteAll origin (Some written) = written ≡ length (told_of origin).results

module _ (origin : Origin) (pass : Known Trail) (worker : Worker) (written : Option ℕ) where
  -- what a worker was offered: where it is finished, all lines are written
  abbrev pub Offered : Result Offer OutOfMemory → Type 0
  Offered (Ok (Lines lines)) = IsReady origin pass worker × MayWrite origin pass written lines
  Offered (Ok (Task (Segment lease))) = Asked origin pass worker (Ok (Segment lease))
  Offered (Ok (Task Again)) = Asked origin pass worker (Ok Again)
  Offered (Ok (Task Rest)) = Asked origin pass worker (Ok Rest)
  Offered (Ok (Task Finished)) = Asked origin pass worker (Ok Finished) × WroteAll origin written
  Offered (Ok (Task (Stopped why))) = Asked origin pass worker (Ok (Stopped why))
  Offered (Err e) = IsCalm origin pass worker

-- the lines of so many tickets are written
abbrev pub AreWritten : Origin → ℕ → Option (List ℕ) → Option (List ℕ) → Type 0
AreWritten origin written old new = Appends old new (lines_of origin written)

-- so the worker that writes stands, at something that it was offered
pub record Stands (origin : Origin) (pass : Known Trail) (worker : Worker) (begun : Begun) : Type 0 where
  pub offered : Offered origin pass worker (Some begun.written) begun.offer
  pub committed : AreCommitted origin pass begun.written

-- and so it came there
pub record HasBegun (origin : Origin) (pass : Known Trail) (worker : Worker) (begun : Begun) (old new : Option (List ℕ)) : Type 0 where
  pub stands : Stands origin pass worker begun
  pub written : AreWritten origin begun.written old new

-- behind the lines of so many tickets came those up to another number
pub record WritesUpTo (origin : Origin) (written more : ℕ) (old new : Option (List ℕ)) : Type 0 where
  pub bytes : List ℕ
  pub appended : Appends old new bytes
  pub next : lines_of origin written ++ bytes ≡ lines_of origin more

-- behind the lines of so many tickets came a front of the rest
pub record BreaksOff (origin : Origin) (written : ℕ) (old new : Option (List ℕ)) : Type 0 where
  pub rest : List ℕ
  pub all : lines_of origin written ++ rest ≡ event_lines origin.plan.now origin.start.now
  pub front : AppendsFront old new rest

-- a round of the worker that writes: what it brings then, and how many tickets' lines are written; or how it ended
abbrev pub HasWritten : Origin → Known Trail → Worker → ℕ → Option (List ℕ) → Option (List ℕ) → ℕ → ℕ → Result (Option Packet × ℕ) WorkerEnd → Type 0
HasWritten origin pass worker written old new faults faults' (Ok r) = Brings origin pass worker r.0 × AreCommitted origin pass r.1 × WritesUpTo origin written r.1 old new
HasWritten origin pass worker written old new faults faults' (Err e) =
    (pass.number ≡ worker.0) × Ended origin pass e × BreaksOff origin written old new
    × (e ≡ ending.Finished → (written ≡ length (told_of origin).results) × Appends old new [])
    × (e ≡ ending.WriteFault → Rose faults faults')

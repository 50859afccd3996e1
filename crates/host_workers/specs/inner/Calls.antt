-- What workers note of themselves as they leave, and whom they call.
use Rattle.std.specs.Prelude.{◌≡◌, ◌≢◌, ◌⊎◌, [], Bool, true, false, None, Result, Ok, Err}
use Rattle.wave_base.specs.declared.memory.OutOfMemory.{OutOfMemory}
use Rattle.wave_base.specs.declared.numbers.Worker.{Worker}
use Rattle.wave_effects.specs.Machines.{TheState}
use Rattle.wave_machine.specs.Readies.{ready_in}
use Rattle.wave_board.specs.declared.board.Board.{Board}
use Rattle.wave_board.specs.declared.crew.Crew.{Crew}
use Rattle.wave_board.specs.declared.seat.Seat.TheVariants.{Awake}
use Rattle.wave_board.specs.declared.trail.StopCause.{StopCause}
use Rattle.wave_board.specs.Boards.{InEachState, IsStanding, history_of}
use Rattle.wave_board.specs.Crews.{IsAnother, IsHeavy}
use Rattle.wave_board.specs.Taking.{HasNothing}
use Rattle.host_workers.specs.declared.offer.Offer.{Offer}
use Rattle.host_workers.specs.declared.offer.Offer.TheVariants.{Lines, Task}
use Rattle.host_workers.specs.declared.task.Task.TheVariants.{Segment, Again, Rest, Finished, Stopped}

-- ---- what a worker leaves with

-- it has a segment to run, or lines to write
abbrev pub is_busy : Result Offer OutOfMemory → Bool
is_busy (Ok (Lines lines)) = true
is_busy (Ok (Task (Segment lease))) = true
is_busy (Ok (Task Again)) = false
is_busy (Ok (Task Rest)) = false
is_busy (Ok (Task Finished)) = false
is_busy (Ok (Task (Stopped why))) = false
is_busy (Err e) = false

-- it naps
abbrev pub Naps : Result Offer OutOfMemory → Type 0
Naps told = told ≡ Ok (Task Rest)

-- the run is over for it: all is done, or the workers were stopped
abbrev pub IsOver : Result Offer OutOfMemory → Type 0
IsOver told = (told ≡ Ok (Task Finished)) ⊎ ((why : StopCause) × (told ≡ Ok (Task (Stopped why))))

-- ---- the others

-- in the state for which a board stands something is ready for whoever is idle, and the workers go on
abbrev pub HasReady : Board → TheState → Type 0
HasReady b s = (b.word ≡ None) × (ready_in b.machine.kept.plan s ≢ [])

-- ---- when a worker naps

-- what is ready it leaves to another that is awake, where segments are light
pub record Leaves (b : Board) (crew : Crew) (worker : Worker) : Type 0 where
  pub light : IsHeavy crew → ⊥
  pub other : Worker
  pub awake : IsAnother crew worker Awake other
  pub ready : InEachState b (HasReady b)

-- at a board with the history of this one it can take nothing
pub record IsIdle (b : Board) (worker : Worker) : Type 0 where
  pub found : Board
  pub standing : IsStanding found
  pub history : history_of b ≡ history_of found
  pub nothing : InEachState found (HasNothing found worker)

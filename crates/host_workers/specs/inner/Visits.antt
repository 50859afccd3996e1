-- What a worker does at the board in one visit.
use Rattle.std.specs.Prelude.{◌≡◌, ◌⊎◌, ◌++◌, ◌∷◌, [], ℕ, true, List, map, All, IsSome, Option, Some, None, Result, Ok, Err}
use Rattle.wave_base.specs.declared.memory.OutOfMemory.{OutOfMemory}
use Rattle.wave_base.specs.declared.numbers.Worker.{Worker}
use Rattle.wave_base.specs.declared.shown.Shown.{Shown}
use Rattle.wave_labels.specs.declared.label.Label.{Label}
use Rattle.wave_effects.specs.Acts.{is_step}
use Rattle.wave_board.specs.declared.board.Board.{Board}
use Rattle.wave_board.specs.declared.crew.Crew.{Crew}
use Rattle.wave_board.specs.declared.trail.StopCause.{StopCause}
use Rattle.wave_board.specs.declared.trail.Trail.TheVariants.{Halt, Step}
use Rattle.wave_board.specs.declared.turn.Turn.TheVariants as work
use Rattle.wave_board.specs.Boards.{IsStanding, StandsStill, history_of}
use Rattle.wave_board.specs.Fresh.{CanTell, TellsFresh}
use Rattle.wave_board.specs.Giving.{CanGive, Gives, IsGiven}
use Rattle.wave_board.specs.Taking.{MayTake, Took}
use Rattle.host_workers.specs.declared.offer.Offer.{Offer}
use Rattle.host_workers.specs.declared.offer.Offer.TheVariants as offer
use Rattle.host_workers.specs.declared.packet.Packet.{Packet}
use Rattle.host_workers.specs.declared.task.Task.{Task}
use Rattle.host_workers.specs.declared.task.Task.TheVariants.{Segment, Again, Rest, Finished, Stopped}

-- ---- what is given back

-- what the worker brings may be given back
abbrev pub CanBring : Board → Option Packet → Type 0
CanBring before None = Unit {0}
CanBring before (Some p) = CanGive before p.reply.lease p.reply.pause

-- it was given back; with nothing the board is as it was
abbrev pub IsBrought : Board → Option Packet → Board → Type 0
IsBrought before None after = after ≡ before
IsBrought before (Some p) after = Gives before p.reply.lease p.reply.pause after × IsGiven before after p.reply.lease

-- ---- what is taken

-- labels of this worker were appended, of which none is a Start or a Stop
pub record Walked (before : Board) (worker : Worker) (after : Board) : Type 0 where
  pub stands : StandsStill before after
  pub labels : List Label
  pub own : All (λ l. l.worker ≡ worker) labels
  pub steps : All (λ l. is_step l.act ≡ true) labels
  pub history : history_of after ≡ history_of before ++ map Step labels

-- some labels or none, and where a segment came that behind them
abbrev pub HasWalked : Board → Worker → Board → Task → Type 0
HasWalked before worker after (Segment lease) = (mid : Board) × Walked before worker mid × Took mid worker after (work.Segment lease)
HasWalked before worker after Again = Walked before worker after
HasWalked before worker after Rest = Walked before worker after
HasWalked before worker after Finished = ⊥
HasWalked before worker after (Stopped why) = ⊥

-- what a worker took: such labels; or it found that all is done, or that the workers were stopped
abbrev pub HasTaken : Board → Worker → Board → Result Task OutOfMemory → Type 0
HasTaken before worker after (Ok (Segment lease)) = HasWalked before worker after (Segment lease)
HasTaken before worker after (Ok Again) = HasWalked before worker after Again
HasTaken before worker after (Ok Rest) = HasWalked before worker after Rest
HasTaken before worker after (Ok Finished) = Took before worker after work.Finished
HasTaken before worker after (Ok (Stopped why)) = Took before worker after (work.Stopped why)
HasTaken before worker after (Err e) = history_of after ≡ history_of before

-- ---- what is written

-- to the worker that writes, which says of how many tickets lines are written; no lines are told to another
abbrev pub CanTellTo : Board → Option ℕ → Type 0
CanTellTo before None = Unit {0}
CanTellTo before (Some written) = CanTell before written

abbrev pub TellsTo : Board → Option ℕ → Option (List Shown) → Type 0
TellsTo before None told = told ≡ None
TellsTo before (Some written) told = TellsFresh before written told

-- what was found: lines that are new; or there are none, and what the worker took
abbrev pub HasFound : Board → Worker → Board → Option ℕ → Result Offer OutOfMemory → Type 0
HasFound before worker after written (Ok (offer.Lines lines)) = TellsTo before written (Some lines) × (history_of after ≡ history_of before)
HasFound before worker after written (Ok (offer.Task task)) = TellsTo before written None × HasTaken before worker after (Ok task)
HasFound before worker after written (Err e) = history_of after ≡ history_of before

-- ---- all in one

-- it was noted who is awake
abbrev pub IsNoted : Board → Board → Type 0
IsNoted before after = (crew : Crew) × (after ≡ record before { crew = crew })

-- the worker may ask
pub record MayAsk (before : Board) (worker : Worker) (written : Option ℕ) : Type 0 where
  pub stands : IsStanding before
  pub may : MayTake before worker
  pub can : CanTellTo before written

-- it may once it has given back what it brings
pub record MayTurn (before : Board) (worker : Worker) (packet : Option Packet) (written : Option ℕ) : Type 0 where
  pub brings : CanBring before packet
  pub then : (given : Board) → IsBrought before packet given → MayAsk given worker written

-- it gave that back, and then it found something
pub record Turned (before : Board) (worker : Worker) (packet : Option Packet) (written : Option ℕ) (after : Board) (told : Result Offer OutOfMemory) : Type 0 where
  pub given : Board
  pub left : Board
  pub brought : IsBrought before packet given
  pub stands : StandsStill given left
  pub found : HasFound given worker left written told
  pub noted : IsNoted left after

-- or there was no memory to give it back
pub record TurnedAway (before after : Board) (told : Result Offer OutOfMemory) : Type 0 where
  pub error : OutOfMemory
  pub told_is : told ≡ Err error
  pub stands : StandsStill before after
  pub same : history_of after ≡ history_of before

abbrev pub HasTurned : Board → Worker → Option Packet → Option ℕ → Board → Result Offer OutOfMemory → Type 0
HasTurned before worker packet written after told = Turned before worker packet written after told ⊎ TurnedAway before after told

-- the workers were stopped: now, or before
pub record HasStopped (before : Board) (worker : Worker) (why : StopCause) (after : Board) : Type 0 where
  pub stands : StandsStill before after
  pub first : before.word ≡ None → history_of after ≡ history_of before ++ Halt worker why ∷ []
  pub again : IsSome before.word → after ≡ before

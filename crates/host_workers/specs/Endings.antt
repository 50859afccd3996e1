-- What a worker's ending says of what its pass has seen and made.
use Rattle.std.specs.Prelude.{◌≡◌, ◌≢◌, ℕ, List, Contains}
use Rattle.wave_base.specs.declared.numbers.Worker.{Worker}
use Rattle.kept_lock.specs.declared.view.Known.{Known}
use Rattle.wave_effects.specs.Machines.{IsFinishedRun}
use Rattle.wave_effects.specs.Plans.{plan_of}
use Rattle.wave_board.specs.declared.origin.Origin.{Origin}
use Rattle.wave_board.specs.declared.trail.StopCause.{StopCause}
use Rattle.wave_board.specs.declared.trail.StopCause.TheVariants.{Memory, SinkFault}
use Rattle.wave_board.specs.declared.trail.Trail.{Trail}
use Rattle.wave_board.specs.declared.trail.Trail.TheVariants.{Halt}
use Rattle.wave_board.specs.Boards.{labels_in}
use Rattle.host_workers.specs.declared.ending.WorkerEnd.{WorkerEnd}
use Rattle.host_workers.specs.declared.ending.WorkerEnd.TheVariants.{Finished, Stopped, WriteFault, OutOfMemory}
use Rattle.host_workers.specs.Passes.{NoHalts, OnlyHalts}

-- the workers were stopped
abbrev pub IsHalted : List Trail → Type 0
IsHalted seen = (who : Worker) × (why : StopCause) × Contains seen (Halt who why)

-- another worker stopped them for this cause: worker 0, where that one could not write
pub record IsHaltedBy (worker : ℕ) (why : StopCause) (seen : List Trail) : Type 0 where
  pub who : Worker
  pub other : who.0 ≢ worker
  pub writer : why ≡ SinkFault → who.0 ≡ 0
  pub halted : Contains seen (Halt who why)

-- Finished: what was seen is a finished run. Stopped: another worker's Halt of that cause was seen. Else a Halt was seen, and one that the
-- worker made has the ending's cause; with the other endings it made none.
abbrev pub Ended : Origin → Known Trail → WorkerEnd → Type 0
Ended origin pass Finished = IsFinishedRun (plan_of origin.plan.now) origin.start.now (labels_in pass.seen) × NoHalts pass.made
Ended origin pass (Stopped why) = IsHaltedBy pass.number why pass.seen × NoHalts pass.made
Ended origin pass WriteFault = IsHalted pass.seen × OnlyHalts pass.made SinkFault
Ended origin pass (OutOfMemory refused) = IsHalted pass.seen × OnlyHalts pass.made (Memory refused)

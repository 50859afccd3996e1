-- What a worker's pass knows between its visits.
use Rattle.std.specs.Prelude.{◌≡◌, ◌<◌, List, Contains}
use Rattle.wave_base.specs.declared.numbers.Worker.{Worker}
use Rattle.kept_lock.specs.declared.view.Known.{Known}
use Rattle.kept_lock.specs.History.{StartsWith}
use Rattle.wave_board.specs.declared.origin.Origin.{Origin}
use Rattle.wave_board.specs.declared.trail.StopCause.{StopCause}
use Rattle.wave_board.specs.declared.trail.Trail.{Trail}
use Rattle.wave_board.specs.declared.trail.Trail.TheVariants.{Halt}
use Rattle.wave_board.specs.Taking.{AreEven}

-- none of these entries is a Halt
abbrev pub NoHalts : List Trail → Type 0
NoHalts entries = (who : Worker) (why : StopCause) → Contains entries (Halt who why) → ⊥

-- each Halt among these entries has this cause
abbrev pub OnlyHalts : List Trail → StopCause → Type 0
OnlyHalts entries cause = (who : Worker) (why : StopCause) → Contains entries (Halt who why) → why ≡ cause

-- The pass has the worker's number, which is one of the plan's, and made as many Stops as Starts and no Halt.
pub record IsReady (origin : Origin) (pass : Known Trail) (worker : Worker) : Type 0 where
  pub number : pass.number ≡ worker.0
  pub is_worker : worker.0 < origin.plan.now.workers
  pub even : AreEven pass.made
  pub no_halts : NoHalts pass.made

-- the pass has the same number, and has seen what it had seen and maybe more
pub record GoesOn (before after : Known Trail) : Type 0 where
  pub number : after.number ≡ before.number
  pub seen : StartsWith after.seen before.seen

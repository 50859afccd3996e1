-- Movers, and how their pauses are told.
use Rattle.std.specs.Prelude.{ℕ}
use Rattle.wave_base.specs.declared.pause.Pause.{Pause}
use Rattle.wave_base.specs.declared.pause.Pause.TheVariants as pause
use Rattle.wave_base.specs.declared.path.Path.{Path}
use Rattle.wave_states.specs.Actors as theory
use Rattle.wave_states.specs.Movers.{Mover, MoveEnd}
use Rattle.wave_states.specs.Results.{end_of}

-- a mover with its ticket
pub record Moving : Type 0 where
  pub ticket : ℕ
  pub mover : Mover

-- at the root, with all steps to go
abbrev pub start_of : Path → ℕ → Mover
start_of p to = record { move = record { path = p; to = to }; rest = p }

-- the pause that tells one of the theory: how the move ended is the result, with no messages and no calls
abbrev pub pause_of : theory.Pause MoveEnd → Pause
pause_of (theory.Go s) = pause.Go s
pause_of (theory.Down s) = pause.Down s
pause_of theory.Back = pause.Back
pause_of (theory.Over e) = pause.Over (end_of e)

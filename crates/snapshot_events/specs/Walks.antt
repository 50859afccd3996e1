-- Walkers, and how their pauses are told.
use Rattle.std.specs.Prelude.{ℕ, List}
use Rattle.wave_base.specs.declared.path.Path.{Path}
use Rattle.wave_base.specs.declared.pause.Pause.{Pause}
use Rattle.wave_base.specs.declared.pause.Pause.TheVariants as pause
use Rattle.wave_base.specs.declared.shot.Shot.{Shot}
use Rattle.wave_base.specs.declared.value.Value.{Value}
use Rattle.wave_states.specs.Actors as theory
use Rattle.wave_states.specs.Results.{shots_of}
use Rattle.wave_states.specs.Walkers.{Walker}

-- a walker with its ticket
pub record Walking : Type 0 where
  pub ticket : ℕ
  pub walker : Walker (List Value)

-- a copy, as the theory has it
abbrev pub as_pair : Shot → Path × List Value
as_pair s = (s.path, s.fields)

-- the pause that tells one of the theory: what was copied is the result, with no messages and no calls
abbrev pub pause_of : theory.Pause (List (Path × List Value)) → Pause
pause_of (theory.Go s) = pause.Go s
pause_of (theory.Down s) = pause.Down s
pause_of theory.Back = pause.Back
pause_of (theory.Over copied) = pause.Over (shots_of copied)

-- What is new to whoever writes the lines.
use Rattle.std.specs.Prelude.{◌≡◌, ◌⊎◌, ◌≤◌, ◌<◌, ◌+◌, ◌-◌, ℕ, List, length, min, Option, Some, None, slice_get}
use Rattle.script_fold.specs.Runs.{finished_of}
use Rattle.plan_actors.specs.Calls.{code_ran}
use Rattle.wave_base.specs.declared.shown.Shown.{Shown}
use Rattle.wave_effects.specs.Machines.{TheState}
use Rattle.wave_effects.specs.Showing.{IsLineOf}
use Rattle.wave_board.specs.declared.board.Board.{Board}
use Rattle.wave_board.specs.declared.origin.Origin.{Origin}
use Rattle.wave_board.specs.Boards.{IsAt}
use Rattle.wave_board.specs.Taking.{IsFinished}

-- no more were written than are committed
pub record CanTell (b : Board) (written : ℕ) : Type 0 where
  pub origin : Origin
  pub state : TheState
  pub at : IsAt b origin state
  pub committed : written ≤ state.head.done

module _ (b : Board) (o : Origin) (s : TheState) (written : ℕ) where
  -- some are new, and 64 of them or all that will be
  abbrev pub IsDue : Type 0
  IsDue = (written < s.head.done) × ((written + 64 ≤ s.head.done) ⊎ IsFinished b s)

  -- the first 64 that are new, or all of them, each as the whole run gives it
  pub record AreNew (lines : List Shown) : Type 0 where
    pub count : length lines ≡ min 64 (s.head.done - written)
    pub each : (i : ℕ) (x : Shown) → slice_get lines i ≡ Some x → IsLineOf (finished_of (code_ran o.plan.now.program) o.plan.now.program.shape o.start.now o.plan.now.script) (written + i) x

  -- they are told exactly where they are due
  abbrev pub Tells : Option (List Shown) → Type 0
  Tells None = IsDue → ⊥
  Tells (Some lines) = IsDue × AreNew lines

-- in each state for which the board stands
abbrev pub TellsFresh : Board → ℕ → Option (List Shown) → Type 0
TellsFresh b written told = (o : Origin) (s : TheState) → IsAt b o s → Tells b o s written told

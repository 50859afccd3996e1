-- The lines behind a snapshot's head.
use Rattle.std.specs.Prelude.{◌≡◌, ℕ, ◌+◌, ◌⊎◌, true, List, [], ◌++◌, length, All, Result, Ok, Err}
use Rattle.wave_base.specs.declared.shape.Shape.{Shape}
use Rattle.wave_base.specs.declared.shot.Shot.{Shot}
use Rattle.snapshot_text.specs.declared.error.Fault.{Fault}
use Rattle.snapshot_text.specs.declared.error.ShotError.{ShotError}
use Rattle.snapshot_text.specs.declared.error.ShotError.TheVariants as error
use Rattle.snapshot_text.specs.Refusals.{error_at}
use Rattle.snapshot_text.specs.Shots.{IsShot, are_in_order, comes_next, paths_of}
use Rattle.snapshot_text.specs.SnapshotTexts.{shots_text}
use Rattle.snapshot_text.specs.Verdicts.{IsLineOf, IsFault, BeginsWithFault}
use Rattle.snapshot_text.specs.inner.Guesses.{IsOnlyLineOf}
use Rattle.wave_base.specs.Memory.{the_refusal}

-- ---- one line

-- it is that of this shot alone, which comes next
pub record IsNextLine (shape : Shape) (before : List Shot) (line : List ℕ) (s : Shot) : Type 0 where
  pub line_of : IsOnlyLineOf shape line s
  pub next : comes_next (paths_of before) s.path ≡ true

-- this is wrong with it, and nothing else
pub record IsOnlyFault (shape : Shape) (before : List Shot) (line : List ℕ) (f : Fault) : Type 0 where
  pub fault : IsFault shape before line f
  pub only : (g : Fault) → IsFault shape before line g → g ≡ f
  pub not_next : (s : Shot) → IsLineOf shape line s → comes_next (paths_of before) s.path ≡ true → ⊥

-- want of memory says nothing
abbrev pub IsRefusal : Shape → List Shot → List ℕ → ℕ → ShotError → Type 0
IsRefusal shape before line n e = (e ≡ error.OutOfMemory the_refusal) ⊎ ((f : Fault) × IsOnlyFault shape before line f × (e ≡ error_at f n))

-- ---- all lines

-- the lines of these shots begin it, and this stands behind them
pub record IsParted (shape : Shape) (tail : List ℕ) (before : List Shot) (rest : List ℕ) : Type 0 where
  pub spelled : tail ≡ shots_text shape before ++ rest
  pub each : All (IsShot shape) before
  pub order : are_in_order [] (paths_of before) ≡ true

-- nothing, or a line that has a fault
abbrev pub IsEnd : Shape → List Shot → List ℕ → Type 0
IsEnd shape before rest = (rest ≡ []) ⊎ ((f : Fault) × BeginsWithFault shape before rest f)

-- and it can be parted at an end in no other way
pub record IsOnlyParted (shape : Shape) (tail : List ℕ) (before : List Shot) (rest : List ℕ) : Type 0 where
  pub parted : IsParted shape tail before rest
  pub only : (others : List Shot) (left : List ℕ) → IsParted shape tail others left → IsEnd shape others left → (others ≡ before) × (left ≡ rest)

-- the lines of these shots stand before one that has this fault and no other
pub record StopsWith (shape : Shape) (tail : List ℕ) (before : List Shot) (f : Fault) : Type 0 where
  pub rest : List ℕ
  pub parted : IsOnlyParted shape tail before rest
  pub wrong : BeginsWithFault shape before rest f
  pub only : (g : Fault) → BeginsWithFault shape before rest g → g ≡ f

-- all lines are those of shots, or one has a fault; want of memory says nothing
abbrev pub AreRead : Shape → List ℕ → Result (List Shot) ShotError → Type 0
AreRead shape tail (Ok shots) = IsOnlyParted shape tail shots []
AreRead shape tail (Err e) = (e ≡ error.OutOfMemory the_refusal) ⊎ ((before : List Shot) × (f : Fault) × StopsWith shape tail before f × (e ≡ error_at f (length before + 2)))

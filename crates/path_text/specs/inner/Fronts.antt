-- The step at the front of a text.
use Rattle.std.specs.Prelude.{◌≡◌, ℕ, true, List, ◌∷◌, ◌++◌}
use Rattle.wave_text.specs.Splits.{IsSplit}
use Rattle.path_text.specs.declared.written.Written.{Written}
use Rattle.path_text.specs.Steps.{is_step, step_text}

-- the text begins with this step
pub record IsFront (text : List ℕ) (step : Written) (rest : List ℕ) : Type 0 where
  pub spelled : text ≡ step_text step ++ rest
  pub form : is_step step ≡ true

-- with this step and no other
pub record IsOnlyFront (text : List ℕ) (step : Written) (rest : List ℕ) : Type 0 where
  pub front : IsFront text step rest
  pub only : (other : Written) (left : List ℕ) → IsFront text other left → (other ≡ step) × (left ≡ rest)

-- with no step
abbrev pub HasNoFront : List ℕ → Type 0
HasNoFront text = (step : Written) (rest : List ℕ) → IsFront text step rest → ⊥

-- behind a slash the text is split at both brackets
pub record AreParts (text name key rest : List ℕ) : Type 0 where
  pub behind : List ℕ
  pub inner : List ℕ
  pub slash : text ≡ 47 ∷ behind
  pub bracket : IsSplit 91 behind name inner
  pub close : IsSplit 93 inner key rest

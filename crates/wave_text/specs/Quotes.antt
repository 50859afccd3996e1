-- Texts between quotes, as a service and a script have them.
use Rattle.std.specs.Prelude.{◌≡◌, ℕ, ◌==◌, ◌&&◌, ◌||◌, nat_le, nat_lt, if◌then◌else◌, List, [], ◌∷◌, ◌++◌, All}
use Rattle.wave_base.specs.Text.{IsPrintable}
use Rattle.wave_base.specs.Text.{escaped_text}

-- behind an opening quote stands this text, its closing quote, and then the rest
pub record Quotes (bytes text rest : List ℕ) : Type 0 where
  pub spelled : bytes ≡ escaped_text text ++ 34 ∷ rest
  pub printable : All IsPrintable text

-- behind an opening quote stands no text with its closing quote
abbrev pub QuotesNone : List ℕ → Type 0
QuotesNone bytes = (text rest : List ℕ) → Quotes bytes text rest → ⊥

-- nothing else is the text, and nothing else stands behind it
abbrev pub QuotesOnly : List ℕ → List ℕ → List ℕ → Type 0
QuotesOnly bytes text rest = (t r : List ℕ) → Quotes bytes t r → (t ≡ text) × (r ≡ rest)

-- ---- what stands next inside a text: a byte that is meant, or the closing quote, with what stands behind it; or neither

pub data Next : Type 0 where
  Byte : ℕ → List ℕ → Next
  Close : List ℕ → Next
  Wrong : Next

abbrev pub next_escaped : List ℕ → Next
next_escaped [] = Wrong
next_escaped (b ∷ bs) = if b == 34 || b == 92 then Byte b bs else Wrong

abbrev pub next_in : List ℕ → Next
next_in [] = Wrong
next_in (b ∷ bs) =
    if b == 34 then Close bs
    else if b == 92 then next_escaped bs
    else if nat_le 32 b && nat_lt b 127 then Byte b bs
    else Wrong

-- The texts that a set of byte lists keeps.
use Rattle.std.specs.Prelude.{ℕ, List, map, All, Vec}
use Rattle.std.specs.Global.{Global}
use Rattle.wave_base.specs.Text.{IsText}

abbrev pub texts_of : List (Vec ℕ Global) → List (List ℕ)
texts_of ks = map (λ k. k.items) ks

abbrev pub AreTexts : List (Vec ℕ Global) → Type 0
AreTexts ks = All IsText (texts_of ks)

-- What is asked of an edition, and that each version's has it.
use Rattle.std.proofs.Common.{◌≡◌, ℕ, List, true, false, ◌&&◌, not, ap}
use Rattle.wave_base.specs.declared.version.Version.{Version}
use Rattle.wave_base.specs.declared.version.Version.TheVariants.{First, Second}
use Rattle.mace_grammar.specs.Words.{Edition, first, second, edition_of, is_finish}

-- what is the word `finish` is no name
pub record IsSound (edition : Edition) : Type 0 where
  pub apart : (t : List ℕ) → (edition.early && is_finish t) ≡ true → edition.is_name t ≡ false

pub first_sound : IsSound first
first_sound = record { apart = λ t h. cc }

pub second_sound : IsSound second
second_sound = record { apart = λ t h. ap not h }

pub edition_sound : (version : Version) → IsSound (edition_of version)
edition_sound First = first_sound
edition_sound Second = second_sound

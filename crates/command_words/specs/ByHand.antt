-- The words that were read by hand before `clap` read them, and what they ask for.
use Rattle.std.specs.Prelude.{◌≡◌, ℕ, List, [], ◌∷◌, codes, Some, None}
use Rattle.command_words.specs.declared.command.Command.{Command}
use Rattle.command_words.specs.declared.command.Command.TheVariants.{Run, Seq, Check, Print, Code}
use Rattle.command_words.specs.declared.command.Places.TheVariants.{Unlisted, Listed}
use Rattle.command_words.specs.Choice.{crew_of}
use Rattle.command_words.specs.Reading.{command_of}

abbrev pub by_hand : List (List (List ℕ) × Command)
by_hand =
    (codes "run" ∷ [], Run Unlisted (crew_of None None))
    ∷ (codes "run" ∷ codes "--map" ∷ [], Run Listed (crew_of None None))
    ∷ (codes "seq" ∷ [], Seq Unlisted)
    ∷ (codes "seq" ∷ codes "--map" ∷ [], Seq Listed)
    ∷ (codes "check" ∷ [], Check)
    ∷ (codes "print" ∷ [], Print)
    ∷ (codes "code" ∷ [], Code)
    ∷ []

-- each asks for the same still
abbrev pub AreKept : List (List (List ℕ) × Command) → Type 0
AreKept [] = Unit {0}
AreKept (p ∷ ps) = (command_of p.0 ≡ Some p.1) × AreKept ps

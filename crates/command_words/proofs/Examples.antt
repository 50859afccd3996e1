-- Lists of words, and the commands that they ask for, computed.
use Rattle.std.proofs.Common.{◌≡◌, List, ℕ, [], ◌∷◌, Some, None, refl}
use Rattle.std.specs.Prelude.{codes}
use Rattle.clap.proofs.OnLiterals.{clap_on_literals}
use Rattle.command_words.specs.declared.command.Command.TheVariants.{Run, Gen}
use Rattle.command_words.specs.declared.command.Places.TheVariants.{Listed}
use Rattle.command_words.specs.declared.command.Schedule.TheVariants.{Oldest}
use Rattle.command_words.specs.Reading.{command_line, command_of}

options_anywhere : command_of (codes "--map" ∷ codes "run" ∷ codes "--workers=16" ∷ []) ≡ Some (Run Listed (record { workers = 16; schedule = None }))
unfolding command_of command_line clap_on_literals
options_anywhere = refl

a_rule_and_a_last_mark : command_of (codes "--map" ∷ codes "--schedule" ∷ codes "oldest" ∷ codes "--" ∷ codes "run" ∷ []) ≡ Some (Run Listed (record { workers = 4; schedule = Some Oldest }))
unfolding command_of command_line clap_on_literals
a_rule_and_a_last_mark = refl

a_number : command_of (codes "gen" ∷ codes "007" ∷ []) ≡ Some (Gen 7)
unfolding command_of command_line clap_on_literals
a_number = refl

a_number_too_many : command_of (codes "run" ∷ codes "7" ∷ []) ≡ None
unfolding command_of command_line clap_on_literals
a_number_too_many = refl

a_flag_twice : command_of (codes "run" ∷ codes "--map" ∷ codes "--map" ∷ []) ≡ None
unfolding command_of command_line clap_on_literals
a_flag_twice = refl

a_prefix : command_of (codes "run" ∷ codes "--work" ∷ codes "4" ∷ []) ≡ None
unfolding command_of command_line clap_on_literals
a_prefix = refl

help : command_of (codes "--help" ∷ []) ≡ None
unfolding command_of command_line clap_on_literals
help = refl

nothing : command_of [] ≡ None
unfolding command_of command_line clap_on_literals
nothing = refl

-- The words of a command line, as `clap` reads them.
use Rattle.std.specs.Prelude.{ℕ, Bool, true, false, if◌then◌else◌, List, [], ◌∷◌, map, codes, Option, Some, None}
use Rattle.wave_base.specs.Names.{same_bytes}
use Rattle.clap.specs.Words.{App, Kinds, Row, Rule, Shape, fault_of, first_of, matches_of, new_app, new_rule, with_rule}
use Rattle.clap.specs.Simple.{on_top}
use Rattle.clap.specs.declared.builder.action.ArgAction.TheVariants.{SetTrue}
use Rattle.command_words.specs.declared.command.Command.{Command}
use Rattle.command_words.specs.declared.command.Places.{Places}
use Rattle.command_words.specs.declared.command.Places.TheVariants.{Unlisted, Listed}
use Rattle.command_words.specs.Choice.{choice_of}

-- ---- the command line

-- a name, which has to be there, and perhaps a number
abbrev pub name_rule : Rule
name_rule = record (new_rule (codes "command")) { required = true }

abbrev pub number_rule : Rule
number_rule = new_rule (codes "number")

-- `--workers` and `--schedule`, each with one value
abbrev pub workers_rule : Rule
workers_rule = record (new_rule (codes "workers")) { long = Some (codes "workers") }

abbrev pub schedule_rule : Rule
schedule_rule = record (new_rule (codes "schedule")) { long = Some (codes "schedule") }

-- `--map`, with none
abbrev pub map_rule : Rule
map_rule = record (new_rule (codes "map")) { long = Some (codes "map"); action = Some SetTrue }

-- the words begin behind the program's name; there is no `--help` and no `--version`
abbrev pub bare_shape : Shape → Shape
bare_shape s = record s { no_binary_name = true; disable_help_flag = true; disable_version_flag = true }

unfoldable pub command_line : App
command_line = with_rule (with_rule (with_rule (with_rule (with_rule (on_top bare_shape (new_app (codes "eventwave"))) name_rule) number_rule) workers_rule) schedule_rule) map_rule

-- ---- what it asks for

abbrev pub places_of : Option (List ℕ) → Places
places_of None = Unlisted
places_of (Some word) = if same_bytes word (codes "true") then Listed else Unlisted

abbrev pub asked_command : Option (List ℕ) → Option (List ℕ) → Option (List ℕ) → Option (List ℕ) → Option (List ℕ) → Option Command
asked_command None number workers schedule map = None
asked_command (Some name) number workers schedule map = choice_of name number workers schedule (places_of map)

-- what the values that were found ask for
abbrev pub asked_by : List Row → Option Command
asked_by rows = asked_command (first_of (codes "command") rows) (first_of (codes "number") rows) (first_of (codes "workers") rows)
    (first_of (codes "schedule") rows) (first_of (codes "map") rows)

abbrev pub are_none : Kinds → Bool
are_none [] = true
are_none (k ∷ ks) = false

-- the command that the words ask for: `clap` finds no fault in them, and what it finds is a command
unfoldable pub command_of : List (List ℕ) → Option Command
command_of words = if are_none (fault_of command_line words) then asked_by (matches_of command_line words) else None

-- What the words behind a command and its options stand for.
use Rattle.std.specs.Prelude.{ℕ, ◌^◌, ◌&&◌, Bool, nat_le, nat_lt, if◌then◌else◌, List, length, codes, Option, Some, None, option_map}
use Rattle.std.specs.Str.Parse.{digits_value}
use Rattle.wave_base.specs.declared.limits.TheConstants.{WORKERS}
use Rattle.wave_base.specs.Names.{is_digits, same_bytes}
use Rattle.command_words.specs.declared.command.Schedule.{Schedule}
use Rattle.command_words.specs.declared.command.Schedule.TheVariants.{Seed, Oldest, Newest, Movers, MailLast}

-- digits alone, at most 20 of them, that stand for a number of 64 bits; there may be zeros before
abbrev pub is_number : List ℕ → Bool
is_number word = nat_le (length word) 20 && is_digits word && nat_lt (digits_value 10 word) (2 ^ 64)

abbrev pub number_of : List ℕ → Option ℕ
number_of word = if is_number word then Some (digits_value 10 word) else None

abbrev pub among_workers : ℕ → Option ℕ
among_workers n = if nat_le 1 n && nat_le n WORKERS then Some n else None

abbrev pub workers_in : Option ℕ → Option ℕ
workers_in None = None
workers_in (Some n) = among_workers n

-- 1 to 16 workers
abbrev pub workers_of : List ℕ → Option ℕ
workers_of word = workers_in (number_of word)

-- a rule of picking by its name, or a seed
abbrev pub schedule_of : List ℕ → Option Schedule
schedule_of word =
    if same_bytes word (codes "oldest") then Some Oldest
    else if same_bytes word (codes "newest") then Some Newest
    else if same_bytes word (codes "movers") then Some Movers
    else if same_bytes word (codes "maillast") then Some MailLast
    else option_map Seed (number_of word)

-- Which command a name asks for, and what may be given with it.
use Rattle.std.specs.Prelude.{ℕ, if◌then◌else◌, List, codes, Option, Some, None, unwrap_or, option_map, option_and_then}
use Rattle.wave_base.specs.Names.{same_bytes}
use Rattle.command_words.specs.declared.choice.Verb.{Verb}
use Rattle.command_words.specs.declared.choice.Verb.TheVariants as verb
use Rattle.command_words.specs.declared.command.Command.{Command}
use Rattle.command_words.specs.declared.command.Command.TheVariants.{Run, Seq, Trace, Save, Resume, Replay, Check, Print, Code, Gen, Load}
use Rattle.command_words.specs.declared.command.Crew.{Crew}
use Rattle.command_words.specs.declared.command.Places.{Places}
use Rattle.command_words.specs.declared.command.Places.TheVariants.{Unlisted, Listed}
use Rattle.command_words.specs.declared.command.Schedule.{Schedule}
use Rattle.command_words.specs.Values.{number_of, schedule_of, workers_of}

abbrev pub verb_of : List ℕ → Option Verb
verb_of word =
    if same_bytes word (codes "run") then Some verb.Run
    else if same_bytes word (codes "seq") then Some verb.Seq
    else if same_bytes word (codes "trace") then Some verb.Trace
    else if same_bytes word (codes "save") then Some verb.Save
    else if same_bytes word (codes "resume") then Some verb.Resume
    else if same_bytes word (codes "replay") then Some verb.Replay
    else if same_bytes word (codes "check") then Some verb.Check
    else if same_bytes word (codes "print") then Some verb.Print
    else if same_bytes word (codes "code") then Some verb.Code
    else if same_bytes word (codes "gen") then Some verb.Gen
    else if same_bytes word (codes "load") then Some verb.Load
    else None

-- four workers where none are given
abbrev pub crew_of : Option ℕ → Option Schedule → Crew
crew_of workers schedule = record { workers = unwrap_or workers 4; schedule = schedule }

-- `run`, `trace` and `resume` take workers, a schedule and the places; `seq` the places; `save` workers; `gen` wants a number; `load` and `replay`
-- want one and take workers
abbrev pub command_with : Verb → Option ℕ → Option ℕ → Option Schedule → Places → Option Command
command_with verb.Run None workers schedule places = Some (Run places (crew_of workers schedule))
command_with verb.Seq None None None places = Some (Seq places)
command_with verb.Trace None workers schedule places = Some (Trace places (crew_of workers schedule))
command_with verb.Save None workers None Unlisted = Some (Save (crew_of workers None))
command_with verb.Resume None workers schedule places = Some (Resume places (crew_of workers schedule))
command_with verb.Replay (Some n) workers None Unlisted = Some (Replay n (crew_of workers None))
command_with verb.Check None None None Unlisted = Some Check
command_with verb.Print None None None Unlisted = Some Print
command_with verb.Code None None None Unlisted = Some Code
command_with verb.Gen (Some n) None None Unlisted = Some (Gen n)
command_with verb.Load (Some n) workers None Unlisted = Some (Load n (crew_of workers None))
command_with _ _ _ _ _ = None

-- what is given stands for something, or nothing is given
abbrev pub given_value : {X : Type 0} → (List ℕ → Option X) → Option (List ℕ) → Option (Option X)
given_value read None = Some None
given_value read (Some word) = option_map Some (read word)

-- the command of this name, with the number, the workers, the schedule and the places that are given
abbrev pub choice_of : List ℕ → Option (List ℕ) → Option (List ℕ) → Option (List ℕ) → Places → Option Command
choice_of name number workers schedule places =
    option_and_then (λ v. option_and_then (λ n. option_and_then (λ w. option_and_then (λ s. command_with v n w s places)
    (given_value schedule_of schedule)) (given_value workers_of workers)) (given_value number_of number)) (verb_of name)

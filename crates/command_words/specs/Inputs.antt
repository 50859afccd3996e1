-- Which commands read standard input and how much of it, and which are run by workers.
use Rattle.std.specs.Prelude.{ℕ, Bool, true, false, is_none}
use Rattle.wave_base.specs.declared.limits.TheConstants.{INPUT_BYTES, LONG_INPUT_BYTES}
use Rattle.command_words.specs.declared.command.Command.{Command}
use Rattle.command_words.specs.declared.command.Command.TheVariants.{Run, Trace, Save, Resume, Replay, Gen, Load}
use Rattle.command_words.specs.declared.command.Crew.{Crew}

-- `gen` and `load` are about a number alone
abbrev pub reads_input : Command → Bool
reads_input (Gen n) = false
reads_input (Load n crew) = false
reads_input _ = true

-- how many bytes the input of a command may have: more where a checkpoint or a journal stands in it
abbrev pub input_bytes : Command → ℕ
input_bytes (Resume places crew) = LONG_INPUT_BYTES
input_bytes (Replay n crew) = LONG_INPUT_BYTES
input_bytes _ = INPUT_BYTES

-- no schedule binds the crew
abbrev pub is_free : Crew → Bool
is_free crew = is_none crew.schedule

-- `run`, `trace` and `resume` without a schedule, `save` and `load` are run by workers, each in a thread of its own
abbrev pub runs_workers : Command → Bool
runs_workers (Run places crew) = is_free crew
runs_workers (Trace places crew) = is_free crew
runs_workers (Resume places crew) = is_free crew
runs_workers (Save crew) = true
runs_workers (Load n crew) = true
runs_workers _ = false

-- Which commands run a script: by what, and what is told of it.
use Rattle.std.specs.Prelude.{ℕ, Option, Some, None}
use Rattle.command_words.specs.declared.command.Command.{Command}
use Rattle.command_words.specs.declared.command.Command.TheVariants.{Run, Seq, Trace, Save, Resume, Load}
use Rattle.command_words.specs.declared.command.Crew.{Crew}
use Rattle.command_words.specs.declared.command.Places.{Places}
use Rattle.command_words.specs.declared.command.Schedule.{Schedule}
use Rattle.due_parts.specs.declared.report.Report.TheVariants.{Listing, Summary, Point}
use Rattle.due_parts.specs.declared.telling.Telling.TheVariants.{Reports, Traces}
use Rattle.due_parts.specs.Runs.{rule_by}
use Rattle.due_answer.specs.declared.task.Engine.{Engine}
use Rattle.due_answer.specs.declared.task.Engine.TheVariants.{Evaluator, Drive, Workers}
use Rattle.due_answer.specs.declared.task.Task.{Task}

-- a schedule is driven, and without one so many workers run
abbrev pub engine_by : ℕ → Option Schedule → Engine
engine_by workers (Some schedule) = Drive workers (rule_by schedule)
engine_by workers None = Workers workers

abbrev pub engine_of : Crew → Engine
engine_of crew = engine_by crew.workers crew.schedule

abbrev pub workers_of : Engine → ℕ
workers_of Evaluator = 1
workers_of (Drive n rule) = n
workers_of (Workers n) = n

-- `run` and `seq` list a script with policies, with the places of the contexts or without, and this runs it
abbrev pub staged_of : Command → Option (Places × Engine)
staged_of (Run places crew) = Some (places, engine_of crew)
staged_of (Seq places) = Some (places, Evaluator)
staged_of _ = None

-- Of the other commands `resume` lists what its script does, `trace` lists it with the journal, `save` writes the point that it leaves, and `load` sums
-- it up; no other runs a script.
abbrev pub task_of : Command → Option Task
task_of (Trace places crew) = Some (record { telling = Traces places crew; engine = engine_of crew })
task_of (Save crew) = Some (record { telling = Reports Point; engine = Workers crew.workers })
task_of (Resume places crew) = Some (record { telling = Reports (Listing places); engine = engine_of crew })
task_of (Load n crew) = Some (record { telling = Reports Summary; engine = Workers crew.workers })
task_of _ = None

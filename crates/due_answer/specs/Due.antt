-- What is due for a command and the bytes of its input. Statuses, notes and output are read off it.
use Rattle.std.specs.Prelude.{◌≡◌, ℕ, List, [], ◌∷◌, ◌++◌, codes}
use Rattle.mace_ast.specs.Decls.{ServiceTree, SameUpToSpans}
use Rattle.mace_grammar.specs.Spelled.{Spelled}
use Rattle.mace_printer.specs.Canon.{service_words}
use Rattle.mace_printer.specs.Layout.{layout}
use Rattle.mace_printer.specs.Written.{IsCutInto}
use Rattle.input_parts.specs.Parts.{service_of}
use Rattle.resolved_service.specs.declared.service.Resolved.{Resolved}
use Rattle.type_rules.specs.Known.{shape_of}
use Rattle.type_rules.specs.Services.{resolve_service}
use Rattle.type_rules.specs.Views.{resolved_view}
use Rattle.service_code.specs.Listing.{program_text}
use Rattle.code_scheme.specs.Programs.{scheme_program}
use Rattle.command_words.specs.declared.command.Command.{Command}
use Rattle.command_words.specs.declared.command.Command.TheVariants.{Run, Seq, Trace, Save, Resume, Replay, Check, Print, Code, Gen, Load}
use Rattle.command_words.specs.Inputs.{input_bytes}
use Rattle.wave_base.specs.declared.limits.TheConstants.{INPUT_BYTES}
use Rattle.wave_gen.specs.Load.{load_text}
use Rattle.due_parts.specs.declared.answer.Answer.{Answer}
use Rattle.due_parts.specs.declared.report.Report.TheVariants.{Listing, Summary, Point}
use Rattle.due_parts.specs.declared.telling.Telling.TheVariants.{Reports, Traces}
use Rattle.due_parts.specs.Answers.{Only, text_answer}
use Rattle.due_parts.specs.Scripts.{IsDueScripted, IsDueSized}
use Rattle.due_parts.specs.Services.{IsDueService}
use Rattle.due_points.specs.Resumed.{IsDueResumed}
use Rattle.due_stages.specs.Elastic.{IsDueElastic}
use Rattle.due_replay.specs.Replayed.{IsDueReplayed}

-- a service that is typed is told so
abbrev pub approval : Answer
approval = text_answer (codes "ok" ++ 10 ∷ [])

-- ---- a service that is printed

-- the text is cut into the words of the service, which spell it and, but for places, no other
abbrev pub IsReadBack : ServiceTree → List ℕ → Type 0
IsReadBack tree text =
    IsCutInto text (service_words tree) × Spelled tree (service_words tree) × ((s : ServiceTree) → Spelled s (service_words tree) → SameUpToSpans s tree)

-- the service in canonical layout, which is read back as that service
pub record IsPrinted (tree : ServiceTree) (due : Answer) : Type 0 where
  pub due_is : due ≡ text_answer (layout (service_words tree))
  pub again : IsReadBack tree due.text

-- ---- commands

-- the code of a service, function by function
pub record IsListedCode (tree : ServiceTree) (due : Answer) : Type 0 where
  pub service : Resolved
  pub resolved : resolved_view service ≡ resolve_service tree
  pub due_is : due ≡ text_answer (program_text (scheme_program (shape_of tree) service))

-- of the input of a command, which may be more than it may have
abbrev pub IsDueInput : Command → (List ℕ → Answer → Type 0) → List ℕ → Answer → Type 0
IsDueInput c P bytes due = IsDueSized (input_bytes c) P bytes due

-- `run` and `seq` take scripts with policies, and all others know none. What runs a script, and how many workers or which schedule, is nothing to what
-- `run`, `seq` and `resume` owe; but `trace` tells the run of its crew, and `replay` what a crew of so many can take. `gen` writes the load of a number, and `load` runs it and sums it up, whatever the input is; all
-- others are about their input. Who calls the top call is told that an answer is due, and need not know what all commands owe: this is looked into only
-- where it is asked for.
unfoldable pub IsDue : Command → List ℕ → Answer → Type 0
IsDue (Run places crew) bytes due = IsDueInput (Run places crew) (IsDueElastic places) bytes due
IsDue (Seq places) bytes due = IsDueInput (Seq places) (IsDueElastic places) bytes due
IsDue (Trace places crew) bytes due = IsDueInput (Trace places crew) (IsDueScripted (Traces places crew)) bytes due
IsDue (Save crew) bytes due = IsDueInput (Save crew) (IsDueScripted (Reports Point)) bytes due
IsDue (Resume places crew) bytes due = IsDueInput (Resume places crew) (IsDueResumed (Reports (Listing places))) bytes due
IsDue (Replay show crew) bytes due = IsDueInput (Replay show crew) (IsDueReplayed show crew) bytes due
IsDue Check bytes due = IsDueInput Check (λ b. IsDueService (λ tree a. a ≡ approval) (service_of b)) bytes due
IsDue Code bytes due = IsDueInput Code (λ b. IsDueService IsListedCode (service_of b)) bytes due
IsDue Print bytes due = IsDueInput Print (λ b. IsDueService IsPrinted (service_of b)) bytes due
IsDue (Gen n) bytes due = due ≡ text_answer (load_text n)
IsDue (Load n crew) bytes due = IsDueSized INPUT_BYTES (IsDueScripted (Reports Summary)) (load_text n) due

-- it is due, and nothing else is
abbrev pub IsOnlyDue : Command → List ℕ → Answer → Type 0
IsOnlyDue c bytes due = Only (IsDue c bytes) due

-- what is told: the only answer that is due; of a trace, which another run makes another, one that is
abbrev pub IsToldFor : Command → List ℕ → Answer → Type 0
IsToldFor (Trace places crew) bytes due = IsDue (Trace places crew) bytes due
IsToldFor c bytes due = IsOnlyDue c bytes due

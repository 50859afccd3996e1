-- Only one answer is due for the input of a command.
use Rattle.std.proofs.Common.{◌≡◌, ◌∙◌, ℕ, ◌<◌, ◌≤◌, inr, true, List, length, sym, ap}
use Rattle.wave_base.specs.declared.limits.TheConstants.{INPUT_BYTES, LONG_INPUT_BYTES}
use Rattle.mace_ast.specs.Decls.{ServiceTree}
use Rattle.input_parts.specs.Parts.{service_of}
use Rattle.type_rules.specs.Known.{shape_of}
use Rattle.context_types.specs.declared.Typed.{Typed}
use Rattle.service_code.specs.declared.program.Program.{Program}
use Rattle.service_code.specs.Listing.{program_text}
use Rattle.code_scheme.specs.Programs.{scheme_program}
use Rattle.typed_code.proofs.SameCode.{same_programs}
use Rattle.command_words.specs.declared.command.Command.{Command}
use Rattle.command_words.specs.declared.command.Command.TheVariants.{Run, Seq, Trace, Save, Resume, Replay, Check, Print, Code, Gen, Load}
use Rattle.command_words.specs.Inputs.{input_bytes, reads_input}
use Rattle.due_parts.specs.declared.answer.Answer.{Answer}
use Rattle.due_parts.specs.declared.report.Report.TheVariants.{Listing, Point}
use Rattle.due_parts.specs.declared.telling.Telling.TheVariants.{Reports, Traces}
use Rattle.due_parts.specs.Answers.{Only, too_large_input, text_answer}
use Rattle.due_parts.specs.Coded.{IsCoded}
use Rattle.due_parts.specs.Scripts.{IsDueScripted}
use Rattle.due_parts.specs.Served.{IsTypedTree}
use Rattle.due_parts.specs.Services.{IsDueService}
use Rattle.due_parts.proofs.DueLemmas.{sized_long}
use Rattle.due_points.specs.Resumed.{IsDueResumed}
use Rattle.due_stages.specs.Elastic.{IsDueElastic}
use Rattle.due_replay.specs.Replayed.{IsDueReplayed}
use Rattle.due_answer.specs.Due.{IsDue, IsListedCode, IsOnlyDue, IsPrinted, IsToldFor, approval}

-- the listing of its code
pub only_listed : (tree : ServiceTree) (typed : Typed) (program : Program) → IsTypedTree tree typed → IsCoded typed.shape typed.resolved program → Only (IsListedCode tree) (text_answer (program_text program))
only_listed tree typed program t c = record {
  is_due = record { service = typed.resolved; resolved = t.resolved_is; due_is = ap (λ p. text_answer (program_text p)) (c.is ∙ ap (λ s. scheme_program s typed.resolved) t.shape_is) };
  only = λ other h. h.due_is ∙ ap (λ p. text_answer (program_text p)) (same_programs (shape_of tree) h.service typed.resolved (h.resolved ∙ sym t.resolved_is) ∙ ap (λ s. scheme_program s typed.resolved) (sym t.shape_is) ∙ sym c.is);
}

-- a command that reads its input is told so where there is too much of it
pub only_too_large : (c : Command) (bytes : List ℕ) → reads_input c ≡ true → input_bytes c < length bytes → IsOnlyDue c bytes too_large_input
unfolding IsDue
only_too_large (Run places crew) bytes reads long = sized_long INPUT_BYTES (IsDueElastic places) bytes long
only_too_large (Seq places) bytes reads long = sized_long INPUT_BYTES (IsDueElastic places) bytes long
only_too_large (Trace places crew) bytes reads long = sized_long INPUT_BYTES (IsDueScripted (Traces places crew)) bytes long
only_too_large (Save crew) bytes reads long = sized_long INPUT_BYTES (IsDueScripted (Reports Point)) bytes long
only_too_large (Resume places crew) bytes reads long = sized_long LONG_INPUT_BYTES (IsDueResumed (Reports (Listing places))) bytes long
only_too_large (Replay show crew) bytes reads long = sized_long LONG_INPUT_BYTES (IsDueReplayed show crew) bytes long
only_too_large Check bytes reads long = sized_long INPUT_BYTES (λ b. IsDueService (λ tree a. a ≡ approval) (service_of b)) bytes long
only_too_large Code bytes reads long = sized_long INPUT_BYTES (λ b. IsDueService IsListedCode (service_of b)) bytes long
only_too_large Print bytes reads long = sized_long INPUT_BYTES (λ b. IsDueService IsPrinted (service_of b)) bytes long
only_too_large (Gen n) bytes reads long = cc
only_too_large (Load n crew) bytes reads long = cc

-- the only answer that is due may be told
pub told_only : (c : Command) (bytes : List ℕ) (due : Answer) → IsOnlyDue c bytes due → IsToldFor c bytes due
told_only (Run places crew) bytes due o = o
told_only (Seq places) bytes due o = o
told_only (Trace places crew) bytes due o = o.is_due
told_only (Save crew) bytes due o = o
told_only (Resume places crew) bytes due o = o
told_only (Replay show crew) bytes due o = o
told_only Check bytes due o = o
told_only Code bytes due o = o
told_only Print bytes due o = o
told_only (Gen n) bytes due o = o
told_only (Load n crew) bytes due o = o

-- what is told for a command is due
pub due_of_told : (c : Command) (bytes : List ℕ) (due : Answer) → IsToldFor c bytes due → IsDue c bytes due
due_of_told (Run places crew) bytes due h = h.is_due
due_of_told (Seq places) bytes due h = h.is_due
due_of_told (Trace places crew) bytes due h = h
due_of_told (Save crew) bytes due h = h.is_due
due_of_told (Resume places crew) bytes due h = h.is_due
due_of_told (Replay show crew) bytes due h = h.is_due
due_of_told Check bytes due h = h.is_due
due_of_told Print bytes due h = h.is_due
due_of_told Code bytes due h = h.is_due
due_of_told (Gen n) bytes due h = h.is_due
due_of_told (Load n crew) bytes due h = h.is_due

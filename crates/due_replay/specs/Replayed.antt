-- What is due for a journal that is replayed.
use Rattle.std.specs.Prelude.{◌≡◌, ℕ, List, Result, Ok, Err, codes}
use Rattle.wave_base.specs.declared.script.Script.{Script}
use Rattle.wave_base.specs.declared.shape.Shape.{Shape}
use Rattle.mace_ast.specs.Decls.{ServiceTree}
use Rattle.resolved_service.specs.declared.service.Resolved.{Resolved}
use Rattle.type_rules.specs.Known.{shape_of}
use Rattle.type_rules.specs.Services.{resolve_service}
use Rattle.type_rules.specs.Views.{resolved_view}
use Rattle.command_words.specs.declared.command.Crew.{Crew}
use Rattle.fault_notes.specs.Notes.{journal_note}
use Rattle.journal_text.specs.declared.error.JournalError.{JournalError}
use Rattle.journal_text.specs.Verdicts.{IsVerdict}
use Rattle.wave_labels.specs.declared.label.Label.{Label}
use Rattle.journal_replay.specs.declared.error.ReplayError.{ReplayError}
use Rattle.journal_replay.specs.declared.error.ReplayError.TheVariants.{Refused, OutOfMemory}
use Rattle.journal_replay.specs.declared.replaying.Replayed.{Replayed}
use Rattle.journal_replay.specs.Replays.{IsOutcome}
use Rattle.journal_replay.specs.Reports.{refused_text, replayed_text}
use Rattle.due_parts.specs.declared.answer.Answer.{Answer}
use Rattle.due_parts.specs.Answers.{refusal, text_answer}
use Rattle.due_parts.specs.Scripts.{IsDueScript, IsDueThree}
use Rattle.due_parts.specs.Told.{plan_for}

-- the first label that can't be taken is told, with those that can: the one refusal that has a text
abbrev pub refused_label : Shape → ℕ → List Label → Answer
refused_label shape step enabled = record { status = 11; note = codes "Refused"; text = refused_text shape step enabled }

-- of what the replay comes to
abbrev pub IsDueOutcome : Shape → Result Replayed ReplayError → Answer → Type 0
IsDueOutcome shape (Ok r) due = due ≡ text_answer (replayed_text shape r)
IsDueOutcome shape (Err (Refused step label enabled)) due = due ≡ refused_label shape step enabled
IsDueOutcome shape (Err (OutOfMemory _)) due = ⊥

-- of the labels of a journal, taken one after the other by the machine of this crew and script, which is shown after so many
pub record IsDueReplay (show : ℕ) (crew : Crew) (tree : ServiceTree) (script : Script) (journal : List Label) (due : Answer) : Type 0 where
  pub service : Resolved
  pub resolved : resolved_view service ≡ resolve_service tree
  pub outcome : Result Replayed ReplayError
  pub comes_to : IsOutcome (plan_for crew (shape_of tree) service script) journal show outcome
  pub due_is : IsDueOutcome (shape_of tree) outcome due

abbrev pub IsDueRead : (List Label → Answer → Type 0) → Result (List Label) JournalError → Answer → Type 0
IsDueRead P (Err e) due = due ≡ refusal 10 (journal_note e)
IsDueRead P (Ok journal) due = P journal due

-- of the text of a journal: its first fault is told, and P is what is due where it has none
pub record IsDueJournal (P : List Label → Answer → Type 0) (shape : Shape) (text : List ℕ) (due : Answer) : Type 0 where
  pub read : Result (List Label) JournalError
  pub reads : IsVerdict shape text read
  pub due_is : IsDueRead P read due

-- of the bytes of a service, a script and a journal
abbrev pub IsDueReplayed : ℕ → Crew → List ℕ → Answer → Type 0
IsDueReplayed show crew bytes due = IsDueThree (λ script journal. IsDueScript (λ tree s. IsDueJournal (IsDueReplay show crew tree s) (shape_of tree) journal) script) bytes due

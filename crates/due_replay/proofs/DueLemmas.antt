-- Only one answer is due for each part of an input, where only one is for what stands behind it.
use Rattle.std.proofs.Common.{◌≡◌, ◌≢◌, ◌≤◌, ◌<◌, ◌^◌, ℕ, List, ◌∷◌, ◌∙◌, length, Some, None, Result, Ok, Err, refl, sym, ap, subst, arith, length-append}
use Rattle.wave_base.specs.declared.limits.TheConstants.{PLACED_BYTES, SCRIPT_BYTES}
use Rattle.wave_base.specs.declared.script.Script.{Script}
use Rattle.wave_base.specs.declared.shape.Shape.{Shape}
use Rattle.wave_base.specs.Memory.{the_refusal}
use Rattle.wave_base.specs.Names.{HasNames}
use Rattle.mace_ast.specs.Decls.{ServiceTree}
use Rattle.context_types.specs.declared.Typed.{Typed}
use Rattle.service_code.specs.declared.program.Program.{Program}
use Rattle.script_reader.specs.declared.earlier.Earlier.{Earlier}
use Rattle.script_reader.specs.Scripts.{IsScriptOf}
use Rattle.wave_labels.specs.declared.label.Label.{Label}
use Rattle.journal_text.specs.declared.error.JournalError.{JournalError}
use Rattle.journal_text.specs.declared.error.JournalError.TheVariants as error
use Rattle.journal_text.specs.JournalTexts.{IsJournalText, head_text, labels_text}
use Rattle.journal_text.specs.Verdicts.{IsVerdict, IsOnlyVerdict}
use Rattle.journal_text.proofs.HeadLemmas.{labels_many}
use Rattle.due_parts.specs.declared.answer.Answer.{Answer}
use Rattle.due_parts.specs.declared.refusal.Refusal.{Refusal}
use Rattle.due_parts.specs.declared.refusal.Refusal.TheVariants.{Due, OutOfMemory}
use Rattle.due_parts.specs.Accepted.{IsOnlyDueOf}
use Rattle.due_parts.specs.Answers.{Only, no_script}
use Rattle.due_parts.specs.Coded.{IsCoded}
use Rattle.input_parts.specs.Parts.{script_of, service_of}
use Rattle.due_parts.specs.Scripts.{IsDueBehindBoth, IsDueLines, IsDueShort, IsDueThree, two_parts}
use Rattle.due_parts.specs.Served.{IsRead, IsServed, IsTypedRead, IsTypedTree}
use Rattle.due_parts.specs.Services.{IsDueService}
use Rattle.due_parts.proofs.AcceptLemmas.{only_read}
use Rattle.due_parts.proofs.DueLemmas.{only_short, refused_text, typed_text}
use Rattle.due_replay.specs.Replayed.{IsDueJournal, IsDueRead}

-- ---- what is found, from one to the other

pub found_as : (P Q : Answer → Type 0) → ((due : Answer) → Only P due → Only Q due) → (r : Result Answer Refusal) → IsOnlyDueOf P r → IsOnlyDueOf Q r
found_as P Q lift (Ok due) h = lift due h
found_as P Q lift (Err (Due due)) h = lift due h
found_as P Q lift (Err (OutOfMemory refused)) h = tt

-- ---- a service

-- it is typed
pub found_typed : (P : ServiceTree → Answer → Type 0) (text : List ℕ) (typed : Typed) (program : Program) (r : Result Answer Refusal) → IsRead text (IsTypedRead typed program)
    → ((tree : ServiceTree) → IsTypedTree tree typed → IsCoded typed.shape typed.resolved program → IsOnlyDueOf (P tree) r) → IsOnlyDueOf (IsDueService P text) r
found_typed P text typed program (Ok due) read o = typed_text {E = Refusal} P text typed program (Ok due) read o
found_typed P text typed program (Err (Due due)) read o = typed_text {E = Refusal} P text typed program (Ok due) read o
found_typed P text typed program (Err (OutOfMemory refused)) read o = tt

-- it is refused
pub found_refused : (P : ServiceTree → Answer → Type 0) (text : List ℕ) (refusal : Refusal) → IsServed text (Err refusal) → IsOnlyDueOf (IsDueService P text) (Err refusal)
found_refused P text (Due due) h = refused_text P text due h
found_refused P text (OutOfMemory refused) h = tt

-- with both parts behind it
pub both_there : (P : List ℕ → List ℕ → ServiceTree → Answer → Type 0) (input second third : List ℕ) (r : Result Answer Refusal) → two_parts (script_of input) ≡ Some (second, third) → IsOnlyDueOf (IsDueService (P second third) (service_of input)) r
    → IsOnlyDueOf (IsDueThree P input) r
both_there P input second third r is h = subst (λ o. IsOnlyDueOf (IsDueBehindBoth P (service_of input) o) r) (sym is) h

-- and without them
pub none_there : (P : List ℕ → List ℕ → ServiceTree → Answer → Type 0) (input : List ℕ) (due : Answer) → two_parts (script_of input) ≡ None → due ≡ no_script → Only (IsDueThree P input) due
none_there P input due is e = subst (λ o. Only (IsDueBehindBoth P (service_of input) o) due) (sym is) (record { is_due = e; only = λ other h. h ∙ sym e })

-- ---- a script that isn't too long

pub found_script : (P : Script → Answer → Type 0) (shape : Shape) (earlier : Earlier) (text : List ℕ) (script : Script) (r : Result Answer Refusal) → length text ≤ SCRIPT_BYTES → IsScriptOf shape earlier text (Ok script)
    → IsOnlyDueOf (P script) r → IsOnlyDueOf (IsDueShort (IsDueLines P shape earlier) text) r
found_script P shape earlier text script r small so h =
    found_as (P script) (IsDueShort (IsDueLines P shape earlier) text) (λ due o. only_short (IsDueLines P shape earlier) text due small (only_read P shape earlier text (Ok script) due so o)) r h

-- ---- a journal

-- a fault that is told is the text's
told_fault : (shape : Shape) (text : List ℕ) (e : JournalError) → e ≢ error.OutOfMemory the_refusal → IsOnlyVerdict shape text (Err e)
    → IsVerdict shape text (Err e) × ((other : Result (List Label) JournalError) → IsVerdict shape text other → other ≡ Err e)
told_fault shape text (error.OutOfMemory _) told h = absurd (told refl)
told_fault shape text (error.Syntax n) told h = h

module _ (P : List Label → Answer → Type 0) (shape : Shape) (text : List ℕ) where
  only_journal : (read : Result (List Label) JournalError) (due : Answer) → IsVerdict shape text read → ((other : Result (List Label) JournalError) → IsVerdict shape text other → other ≡ read) → Only (IsDueRead P read) due → Only (IsDueJournal P shape text) due
  only_journal read due is one o = record {
    is_due = record { read = read; reads = is; due_is = o.is_due };
    only = λ other h. o.only other (subst (λ r. IsDueRead P r other) (one h.read h.reads) h.due_is);
  }

  -- its labels
  pub only_labels : (journal : List Label) (due : Answer) → IsOnlyVerdict shape text (Ok journal) → Only (P journal) due → Only (IsDueJournal P shape text) due
  only_labels journal due v o = only_journal (Ok journal) due v.0 v.1 o

  -- its fault
  pub only_fault : (e : JournalError) (due : Answer) → e ≢ error.OutOfMemory the_refusal → IsOnlyVerdict shape text (Err e) → Only (IsDueRead P (Err e)) due → Only (IsDueJournal P shape text) due
  only_fault e due told v o = let k = told_fault shape text e told v in only_journal (Err e) due k.0 k.1 o

-- each label has a line
pub few_labels : (shape : Shape) (text : List ℕ) (journal : List Label) → HasNames shape → IsOnlyVerdict shape text (Ok journal) → length text ≤ PLACED_BYTES → length journal < 2 ^ 32
few_labels shape text journal names v short =
    let spelled = v.0.spelled in
    let many = labels_many shape names 1 journal in
    omega (arith, ap length spelled, length-append (head_text (length journal)) (10 ∷ labels_text shape 1 journal), many)

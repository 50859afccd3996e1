-- From what is accepted of the parts of an input to what is accepted of the whole.
use Rattle.std.proofs.Common.{◌≡◌, ◌≢◌, ℕ, ◌≤◌, List, length, Result, Ok, Err, refl, sym, subst}
use Rattle.wave_base.specs.declared.limits.TheConstants.{SCRIPT_BYTES}
use Rattle.wave_base.specs.declared.shape.Shape.{Shape}
use Rattle.wave_base.specs.Memory.{the_refusal}
use Rattle.wave_base.specs.Shapes.{IsShape}
use Rattle.mace_ast.specs.Decls.{ServiceTree}
use Rattle.command_words.specs.declared.command.Places.{Places}
use Rattle.context_types.specs.declared.Typed.{Typed}
use Rattle.service_code.specs.declared.program.Program.{Program}
use Rattle.service_reader.specs.declared.fault.TextFault.{TextFault}
use Rattle.service_reader.specs.Parsing.{IsOnlyParse}
use Rattle.script_reader.specs.declared.elastic.Elastic.{Elastic}
use Rattle.script_reader.specs.declared.error.ScriptError.{ScriptError}
use Rattle.script_reader.specs.declared.error.ScriptError.TheVariants as error
use Rattle.script_reader.specs.Elastics.{IsElasticAnswer, IsElasticOf}
use Rattle.due_parts.specs.declared.answer.Answer.{Answer}
use Rattle.due_parts.specs.declared.refusal.Refusal.{Refusal}
use Rattle.due_parts.specs.declared.refusal.Refusal.TheVariants.{Due, OutOfMemory}
use Rattle.due_parts.specs.Answers.{Only}
use Rattle.due_parts.specs.Coded.{IsCoded}
use Rattle.due_parts.specs.Scripts.{IsDueShort}
use Rattle.due_parts.specs.Served.{IsRead, IsServed, IsTypedRead, IsTypedTree}
use Rattle.due_parts.specs.Services.{IsDueService, IsDueTyped}
use Rattle.due_parts.proofs.CodeLemmas.{only_coded}
use Rattle.due_parts.proofs.DueLemmas.{of_read, only_short, refused_served}
use Rattle.due_stages.specs.declared.work.StagedWork.{StagedWork}
use Rattle.due_stages.specs.Accepted.{IsAcceptedStaged}
use Rattle.due_stages.specs.Elastic.{IsDueElasticLines, IsDueElasticRead, listed_of}

-- ---- what is accepted, from one to the other

module _ (P Q : Places → Answer → Type 0) (lift : (places : Places) (due : Answer) → Only (P places) due → Only (Q places) due) where
  pub staged_as : (x : Result StagedWork Refusal) → IsAcceptedStaged P x → IsAcceptedStaged Q x
  staged_as (Err (Due answer)) h = λ places. lift places answer (h places)
  staged_as (Err (OutOfMemory refused)) h = tt
  staged_as (Ok work) h = record {
    elastic = h.elastic;
    can = h.can;
    due = λ places. lift places (listed_of work.program.shape work.service h.elastic places) (h.due places);
  }

-- ---- a service

module _ (typed : Typed) (program : Program) where
  shaped_in : (read : Result ServiceTree TextFault) → IsTypedRead typed program read → IsShape typed.shape
  shaped_in (Err e) h = absurd h
  shaped_in (Ok tree) h = h.0.well_formed

-- one that was read has a shape
pub shaped_typed : (text : List ℕ) (typed : Typed) (program : Program) → IsRead text (IsTypedRead typed program) → IsShape typed.shape
shaped_typed text typed program h = shaped_in typed program h.read h.is_so

module _ (P : Places → ServiceTree → Answer → Type 0) (text : List ℕ) (typed : Typed) (program : Program) (r : Result StagedWork Refusal) where
  typed_as_read : (read : Result ServiceTree TextFault) → IsOnlyParse text read → IsTypedRead typed program read →
      ((tree : ServiceTree) → IsTypedTree tree typed → IsCoded typed.shape typed.resolved program → IsAcceptedStaged (λ places. P places tree) r) → IsAcceptedStaged (λ places. IsDueService (P places) text) r
  typed_as_read (Err e) parse is o = absurd is
  typed_as_read (Ok tree) parse is o =
      staged_as (λ places. P places tree) (λ places. IsDueService (P places) text)
      (λ places due one. of_read (P places) text (Ok tree) due parse (subst (λ w. Only (IsDueTyped (P places) tree w) due) (sym is.0.holds) (only_coded (P places) tree typed due is.0 is.1.short one)))
      r (o tree is.0 is.1)

  pub typed_staged : IsRead text (IsTypedRead typed program) →
      ((tree : ServiceTree) → IsTypedTree tree typed → IsCoded typed.shape typed.resolved program → IsAcceptedStaged (λ places. P places tree) r) → IsAcceptedStaged (λ places. IsDueService (P places) text) r
  typed_staged read o = typed_as_read read.read read.parse read.is_so o

-- one that is refused
pub refused_staged : (P : Places → ServiceTree → Answer → Type 0) (text found : List ℕ) (refusal : Refusal) → found ≡ text → IsServed found (Err refusal) → IsAcceptedStaged (λ places. IsDueService (P places) text) (Err refusal)
refused_staged P text found (Due answer) e s = λ places. refused_served (P places) text found answer e s
refused_staged P text found (OutOfMemory refused) e s = tt

-- ---- the text of a script

-- it isn't too long
pub short_staged : (P : Places → List ℕ → Answer → Type 0) (text : List ℕ) (r : Result StagedWork Refusal) → length text ≤ SCRIPT_BYTES → IsAcceptedStaged (λ places. P places text) r → IsAcceptedStaged (λ places. IsDueShort (P places) text) r
short_staged P text r small h = staged_as (λ places. P places text) (λ places. IsDueShort (P places) text) (λ places due o. only_short (P places) text due small o) r h

pub only_read : (P : Elastic → Answer → Type 0) (shape : Shape) (text : List ℕ) (read : Result Elastic ScriptError) (due : Answer) → IsElasticOf shape text read → Only (IsDueElasticRead P read) due → Only (IsDueElasticLines P shape text) due
only_read P shape text read due so o = record {
  is_due = record { read = read; reads = so.read; due_is = o.is_due };
  only = λ other h. o.only other (subst (λ r. IsDueElasticRead P r other) (so.only h.read h.reads) h.due_is);
}

-- it was read
pub read_staged : (P : Places → Elastic → Answer → Type 0) (shape : Shape) (text : List ℕ) (elastic : Elastic) (r : Result StagedWork Refusal) → IsElasticOf shape text (Ok elastic)
    → IsAcceptedStaged (λ places. P places elastic) r → IsAcceptedStaged (λ places. IsDueElasticLines (P places) shape text) r
read_staged P shape text elastic r so h =
    staged_as (λ places. P places elastic) (λ places. IsDueElasticLines (P places) shape text) (λ places due o. only_read (P places) shape text (Ok elastic) due so o) r h

-- a fault that is told is the text's
pub told_fault : (shape : Shape) (text : List ℕ) (e : ScriptError) → e ≢ error.OutOfMemory the_refusal → IsElasticAnswer shape text (Err e) → IsElasticOf shape text (Err e)
told_fault shape text (error.OutOfMemory _) told h = absurd (told refl)
told_fault shape text e told h = h

-- From what is accepted of the parts of an input to what is accepted of the whole.
use Rattle.std.proofs.Common.{◌≡◌, ◌≢◌, ℕ, ◌<◌, ◌≤◌, inl, inr, List, length, Result, Ok, Err, refl, sym, subst, arith}
use Rattle.wave_base.specs.declared.limits.TheConstants.{SCRIPT_BYTES}
use Rattle.wave_base.specs.declared.script.Script.{Script}
use Rattle.wave_base.specs.declared.shape.Shape.{Shape}
use Rattle.mace_ast.specs.Decls.{ServiceTree}
use Rattle.context_types.specs.declared.Typed.{Typed}
use Rattle.service_code.specs.declared.program.Program.{Program}
use Rattle.service_reader.specs.declared.fault.TextFault.{TextFault}
use Rattle.service_reader.specs.Parsing.{IsOnlyParse}
use Rattle.script_reader.specs.declared.earlier.Earlier.{Earlier}
use Rattle.script_reader.specs.declared.error.ScriptError.{ScriptError}
use Rattle.script_reader.specs.declared.error.ScriptError.TheVariants as error
use Rattle.script_reader.specs.Scripts.{IsAnswer, IsScriptOf}
use Rattle.due_parts.specs.declared.refusal.Refusal.{Refusal}
use Rattle.due_parts.specs.declared.refusal.Refusal.TheVariants.{Due, OutOfMemory}
use Rattle.due_parts.specs.declared.answer.Answer.{Answer}
use Rattle.due_parts.specs.declared.runnable.Runnable.{Runnable}
use Rattle.due_parts.specs.Accepted.{IsAcceptedBy, report_of, trace_of}
use Rattle.due_parts.specs.Answers.{Only, too_large_script}
use Rattle.due_parts.specs.Scripts.{IsDueLines, IsDueRead, IsDueShort}
use Rattle.due_parts.specs.Services.{IsDueService, IsDueTyped}
use Rattle.due_parts.specs.declared.telling.Telling.{Telling}
use Rattle.due_parts.specs.declared.telling.Telling.TheVariants.{Reports, Traces}
use Rattle.due_parts.specs.Coded.{IsCoded}
use Rattle.due_parts.specs.Served.{IsRead, IsServed, IsTypedRead, IsTypedTree}
use Rattle.due_parts.proofs.CodeLemmas.{is_coded, only_coded}
use Rattle.due_parts.proofs.DueLemmas.{of_read, only_short, refused_served}
use Rattle.wave_base.specs.Memory.{the_refusal}

-- ---- what is accepted, from one to the other

module _ (P Q : Telling → Answer → Type 0) (also : (telling : Telling) (due : Answer) → P telling due → Q telling due) (lift : (telling : Telling) (due : Answer) → Only (P telling) due → Only (Q telling) due) where
  pub accepted_as : (x : Result Runnable Refusal) → IsAcceptedBy P x → IsAcceptedBy Q x
  accepted_as (Err (Due answer)) h = λ telling. lift telling answer (h telling)
  accepted_as (Err (OutOfMemory refused)) h = tt
  accepted_as (Ok work) h = record {
    can_run = h.can_run;
    due = λ report. lift (Reports report) (report_of work report) (h.due report);
    traced = λ places crew journal run. also (Traces places crew) (trace_of work places journal) (h.traced places crew journal run);
  }

-- ---- a service, and a script that is to be there

module _ (P : Telling → ServiceTree → Answer → Type 0) (text : List ℕ) (typed : Typed) (program : Program) (r : Result Runnable Refusal) where
  typed_as_read : (read : Result ServiceTree TextFault) → IsOnlyParse text read → IsTypedRead typed program read →
      ((tree : ServiceTree) → IsTypedTree tree typed → IsCoded typed.shape typed.resolved program → IsAcceptedBy (λ telling. P telling tree) r) → IsAcceptedBy (λ telling. IsDueService (P telling) text) r
  typed_as_read (Err e) parse is o = absurd is
  typed_as_read (Ok tree) parse is o =
      accepted_as (λ telling. P telling tree) (λ telling. IsDueService (P telling) text)
      (λ telling due h. record { read = Ok tree; parses = parse.is_so; due_is = subst (λ w. IsDueTyped (P telling) tree w due) (sym is.0.holds) (is_coded (P telling) tree typed due is.0 is.1.short h) })
      (λ telling due one. of_read (P telling) text (Ok tree) due parse (subst (λ w. Only (IsDueTyped (P telling) tree w) due) (sym is.0.holds) (only_coded (P telling) tree typed due is.0 is.1.short one)))
      r (o tree is.0 is.1)

  pub typed_accepted : IsRead text (IsTypedRead typed program) →
      ((tree : ServiceTree) → IsTypedTree tree typed → IsCoded typed.shape typed.resolved program → IsAcceptedBy (λ telling. P telling tree) r) → IsAcceptedBy (λ telling. IsDueService (P telling) text) r
  typed_accepted read o = typed_as_read read.read read.parse read.is_so o

-- what is accepted of a service that is refused
pub refused_accepted : (P : Telling → ServiceTree → Answer → Type 0) (text found : List ℕ) (refusal : Refusal) → found ≡ text → IsServed found (Err refusal) → IsAcceptedBy (λ telling. IsDueService (P telling) text) (Err refusal)
refused_accepted P text found (Due answer) e s = λ telling. refused_served (P telling) text found answer e s
refused_accepted P text found (OutOfMemory refused) e s = tt

-- ---- the text of a script

-- it is too long
pub only_long : (P : List ℕ → Answer → Type 0) (text : List ℕ) → SCRIPT_BYTES < length text → Only (IsDueShort P text) too_large_script
only_long P text long = record { is_due = inl (long, refl); only = others }
  where
    others : (other : Answer) → IsDueShort P text other → other ≡ too_large_script
    others other (inl h) = h.1
    others other (inr h) = let small = h.0 in absurd (omega arith)

-- what is accepted of a text that isn't too long
pub short_accepted : (P : Telling → List ℕ → Answer → Type 0) (text : List ℕ) (r : Result Runnable Refusal) → length text ≤ SCRIPT_BYTES → IsAcceptedBy (λ telling. P telling text) r → IsAcceptedBy (λ telling. IsDueShort (P telling) text) r
short_accepted P text r small h =
    accepted_as (λ telling. P telling text) (λ telling. IsDueShort (P telling) text) (λ telling due p. inr (small, p)) (λ telling due o. only_short (P telling) text due small o) r h

module _ (P : Script → Answer → Type 0) (shape : Shape) (earlier : Earlier) (text : List ℕ) where
  pub only_read : (read : Result Script ScriptError) (due : Answer) → IsScriptOf shape earlier text read → Only (IsDueRead P read) due → Only (IsDueLines P shape earlier text) due
  only_read read due so o = record {
    is_due = record { read = read; reads = so.read; due_is = o.is_due };
    only = λ other h. o.only other (subst (λ r. IsDueRead P r other) (so.only h.read h.reads) h.due_is);
  }

-- what is accepted of a script that was read
pub read_accepted : (P : Telling → Script → Answer → Type 0) (shape : Shape) (earlier : Earlier) (text : List ℕ) (script : Script) (r : Result Runnable Refusal) → IsScriptOf shape earlier text (Ok script)
    → IsAcceptedBy (λ telling. P telling script) r → IsAcceptedBy (λ telling. IsDueLines (P telling) shape earlier text) r
read_accepted P shape earlier text script r so h =
    accepted_as (λ telling. P telling script) (λ telling. IsDueLines (P telling) shape earlier text) (λ telling due p. record { read = Ok script; reads = so.read; due_is = p })
    (λ telling due o. only_read (P telling) shape earlier text (Ok script) due so o) r h

-- a fault that is told is the text's
pub told_fault : (shape : Shape) (earlier : Earlier) (text : List ℕ) (e : ScriptError) → e ≢ error.OutOfMemory the_refusal → IsAnswer shape earlier text (Err e) → IsScriptOf shape earlier text (Err e)
told_fault shape earlier text (error.OutOfMemory _) told h = absurd (told refl)
told_fault shape earlier text e told h = h

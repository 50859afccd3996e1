-- Only one answer is due for an input.
use Rattle.std.proofs.Common.{◌≡◌, ℕ, ◌≤◌, ◌<◌, inl, inr, List, length, Result, Ok, Err, IfOk, refl, sym, ◌∙◌, subst, ap, arith}
use Rattle.wave_base.specs.declared.limits.TheConstants.{SCRIPT_BYTES}
use Rattle.wave_base.specs.declared.script.Script.{Script}
use Rattle.wave_base.specs.declared.shape.Shape.{Shape}
use Rattle.wave_base.specs.declared.start.Start.{Start}
use Rattle.mace_ast.specs.Decls.{ServiceTree}
use Rattle.resolved_service.specs.declared.service.Resolved.{Resolved}
use Rattle.type_rules.specs.Known.{shape_of}
use Rattle.type_rules.specs.Views.{resolved_view}
use Rattle.meaning_laws.proofs.SameMeaning.{same_calls}
use Rattle.script_fold.specs.Runs.{finished_of}
use Rattle.wave_meaning.specs.Meaning.{results_at, IsWholeAt}
use Rattle.context_types.specs.declared.Typed.{Typed}
use Rattle.service_reader.specs.declared.fault.TextFault.{TextFault}
use Rattle.service_reader.specs.Parsing.{IsOnlyParse}
use Rattle.due_parts.specs.declared.answer.Answer.{Answer}
use Rattle.due_parts.specs.declared.refusal.Refusal.TheVariants.{Due}
use Rattle.due_parts.specs.declared.report.Report.{Report}
use Rattle.due_parts.specs.Answers.{Only, too_large_input}
use Rattle.due_parts.specs.Scripts.{IsDueSized, IsDueShort}
use Rattle.due_parts.specs.Services.{IsDueService, IsDueOf, IsDueTyped}
use Rattle.due_parts.specs.Told.{IsDueFold, report_answer}
use Rattle.service_code.specs.declared.program.Program.{Program}
use Rattle.due_parts.specs.Coded.{IsCoded}
use Rattle.due_parts.specs.Served.{IsTypedTree, IsRefusal, IsRead, IsServed, IsTypedRead}
use Rattle.code_scheme.proofs.Made.{program_shape}
use Rattle.due_parts.proofs.CodeLemmas.{only_coded, only_long}

-- ---- a typed service

pub of_read : (P : ServiceTree → Answer → Type 0) (text : List ℕ) (read : Result ServiceTree TextFault) (due : Answer) → IsOnlyParse text read → Only (IsDueOf P read) due → Only (IsDueService P text) due
of_read P text read due so o = record {
  is_due = record { read = read; parses = so.is_so; due_is = o.is_due };
  only = λ other h. o.only other (subst (λ r. IsDueOf P r other) (so.only h.read h.parses) h.due_is);
}

typed_read : (P : ServiceTree → Answer → Type 0) (typed : Typed) (program : Program) (read : Result ServiceTree TextFault) (due : Answer) → IsTypedRead typed program read →
    ((tree : ServiceTree) → IsTypedTree tree typed → IsCoded typed.shape typed.resolved program → Only (P tree) due) → Only (IsDueOf P read) due
typed_read P typed program (Err e) due h o = absurd h
typed_read P typed program (Ok tree) due h o = subst (λ w. Only (IsDueTyped P tree w) due) (sym h.0.holds) (only_coded P tree typed due h.0 h.1.short (o tree h.0 h.1))

refused_read : (P : ServiceTree → Answer → Type 0) (read : Result ServiceTree TextFault) (due : Answer) → IsRefusal read due → Only (IsDueOf P read) due
refused_read P (Err e) due h = record { is_due = h; only = λ other o. o ∙ sym h }
refused_read P (Ok tree) due (inl h) = subst (λ w. Only (IsDueTyped P tree w) due) (sym h.is) (record { is_due = h.told; only = λ other o. o ∙ sym h.told })
refused_read P (Ok tree) due (inr h) = subst (λ w. Only (IsDueTyped P tree w) due) (sym h.holds) (only_long P tree h.service due h.resolved h.long)

-- what is due for the service of a text, where it is refused
pub refused_text : (P : ServiceTree → Answer → Type 0) (text : List ℕ) (due : Answer) → IsRead text (λ read. IsRefusal read due) → Only (IsDueService P text) due
refused_text P text due r = of_read P text r.read due r.parse (refused_read P r.read due r.is_so)

-- what is due for the service of a text, where it is typed
pub typed_text : {E : Type 0} (P : ServiceTree → Answer → Type 0) (text : List ℕ) (typed : Typed) (program : Program) (r : Result Answer E) → IsRead text (IsTypedRead typed program) →
    ((tree : ServiceTree) → IsTypedTree tree typed → IsCoded typed.shape typed.resolved program → IfOk r (Only (P tree))) → IfOk r (Only (IsDueService P text))
typed_text P text typed program (Ok due) read o = of_read P text read.read due read.parse (typed_read P typed program read.read due read.is_so o)
typed_text P text typed program (Err e) read o = tt

-- the same, where it is told at once
pub typed_as : {E : Type 0} (P : ServiceTree → Answer → Type 0) (text : List ℕ) (typed : Typed) (program : Program) (x : Answer) (r : Result Answer E) → IsRead text (IsTypedRead typed program) → IfOk r (λ a. a ≡ x) →
    ((tree : ServiceTree) → IsTypedTree tree typed → IsCoded typed.shape typed.resolved program → Only (P tree) x) → IfOk r (Only (IsDueService P text))
typed_as P text typed program x (Ok due) read e o = subst (Only (IsDueService P text)) (sym e) (of_read P text read.read x read.parse (typed_read P typed program read.read x read.is_so o))
typed_as P text typed program x (Err f) read e o = tt

-- what was served, where it is refused
pub refused_served : (P : ServiceTree → Answer → Type 0) (text found : List ℕ) (answer : Answer) → found ≡ text → IsServed found (Err (Due answer)) → Only (IsDueService P text) answer
refused_served P text found answer e s = subst (λ t. Only (IsDueService P t) answer) e (refused_text P found answer s)

-- and where it is typed
pub typed_served : (text found : List ℕ) (typed : Typed) (program : Program) → found ≡ text → IsServed found (Ok (typed, program)) → IsRead text (IsTypedRead typed program)
typed_served text found typed program e s = subst (λ t. IsRead t (IsTypedRead typed program)) e s

-- its code has its shape
coded_shape : (typed : Typed) (program : Program) (read : Result ServiceTree TextFault) → IsTypedRead typed program read → program.shape ≡ typed.shape
coded_shape typed program (Err e) h = absurd h
coded_shape typed program (Ok tree) h = ap (λ (p : Program). p.shape) h.1.is ∙ program_shape typed.shape typed.resolved

pub typed_coded : (text : List ℕ) (typed : Typed) (program : Program) → IsServed text (Ok (typed, program)) → program.shape ≡ typed.shape
typed_coded text typed program s = coded_shape typed program s.read s.is_so

pub only_same : (x : Answer) → Only (λ due. due ≡ x) x
only_same x = record { is_due = refl; only = λ other h. h }

-- ---- a script

same_results : (shape : Shape) (a b : Resolved) (start : Start) (script : Script) → resolved_view a ≡ resolved_view b → results_at shape a start script ≡ results_at shape b start script
same_results shape a b start script e = ap (λ calls. finished_of (λ tree call. (calls tree call).ran) shape start script) (same_calls a b e)

pub only_fold : (report : Report) (tree : ServiceTree) (typed : Typed) (start : Start) (script : Script) → IsTypedTree tree typed → IsWholeAt typed.shape typed.resolved start script →
    Only (IsDueFold report tree start script) (report_answer typed.shape start script report (results_at typed.shape typed.resolved start script))
only_fold report tree typed start script t whole = record {
  is_due = record { service = typed.resolved; resolved = t.resolved_is; whole = subst (λ s. IsWholeAt s typed.resolved start script) t.shape_is whole; due_is = ap (λ s. report_answer s start script report (results_at s typed.resolved start script)) t.shape_is };
  only = λ other h. h.due_is ∙ ap (report_answer (shape_of tree) start script report) (same_results (shape_of tree) h.service typed.resolved start script (h.resolved ∙ sym t.resolved_is))
      ∙ ap (λ s. report_answer s start script report (results_at s typed.resolved start script)) (sym t.shape_is);
}

-- a text that isn't too long
pub only_short : (P : List ℕ → Answer → Type 0) (text : List ℕ) (due : Answer) → length text ≤ SCRIPT_BYTES → Only (P text) due → Only (IsDueShort P text) due
only_short P text due small o = record { is_due = inr (small, o.is_due); only = others }
  where
    others : (other : Answer) → IsDueShort P text other → other ≡ due
    others other (inl h) = let long = h.0 in absurd (omega arith)
    others other (inr h) = o.only other h.1

-- ---- both, and the whole

-- bytes that are too many, and others
pub sized_long : (most : ℕ) (P : List ℕ → Answer → Type 0) (bytes : List ℕ) → most < length bytes → Only (IsDueSized most P bytes) too_large_input
sized_long most P bytes long = record { is_due = inl (long, refl); only = others }
  where
    others : (other : Answer) → IsDueSized most P bytes other → other ≡ too_large_input
    others other (inl h) = h.1
    others other (inr h) = let small = h.0 in absurd (omega arith)

pub sized_fine : (most : ℕ) (P : List ℕ → Answer → Type 0) (bytes : List ℕ) (due : Answer) → length bytes ≤ most → Only (P bytes) due → Only (IsDueSized most P bytes) due
sized_fine most P bytes due small o = record { is_due = inr (small, o.is_due); only = others }
  where
    others : (other : Answer) → IsDueSized most P bytes other → other ≡ due
    others other (inl h) = let long = h.0 in absurd (omega arith)
    others other (inr h) = o.only other h.1

pub sized_if : {E : Type 0} (most : ℕ) (P : List ℕ → Answer → Type 0) (bytes : List ℕ) (r : Result Answer E) → length bytes ≤ most → IfOk r (Only (P bytes)) → IfOk r (Only (IsDueSized most P bytes))
sized_if most P bytes (Ok a) small o = sized_fine most P bytes a small o
sized_if most P bytes (Err e) small o = tt

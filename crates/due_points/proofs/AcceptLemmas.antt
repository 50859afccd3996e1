-- From what is accepted behind a checkpoint to what is accepted of the whole.
use Rattle.std.proofs.Common.{◌≡◌, ◌≢◌, ◌≤◌, ℕ, List, length, Result, Ok, Err, refl, subst}
use Rattle.wave_base.specs.declared.limits.TheConstants.{SCRIPT_BYTES}
use Rattle.wave_base.specs.declared.script.Script.{Script}
use Rattle.wave_base.specs.declared.shape.Shape.{Shape}
use Rattle.wave_base.specs.Memory.{the_refusal}
use Rattle.wave_base.specs.Names.{HasNames}
use Rattle.wave_base.specs.Shapes.{IsShape}
use Rattle.mace_ast.specs.Decls.{ServiceTree}
use Rattle.context_types.specs.declared.Typed.{Typed}
use Rattle.service_code.specs.declared.program.Program.{Program}
use Rattle.service_reader.specs.declared.fault.TextFault.{TextFault}
use Rattle.checkpoint_store.specs.declared.error.CheckError.{CheckError}
use Rattle.checkpoint_store.specs.declared.error.CheckError.TheVariants as error
use Rattle.checkpoint_store.specs.declared.point.Checkpoint.{Checkpoint}
use Rattle.checkpoint_store.specs.Verdicts.{IsVerdict, IsOnlyVerdict}
use Rattle.script_reader.specs.Judged.{script_earlier}
use Rattle.script_reader.specs.Scripts.{IsScriptOf}
use Rattle.due_parts.specs.declared.answer.Answer.{Answer}
use Rattle.due_parts.specs.declared.refusal.Refusal.{Refusal}
use Rattle.due_parts.specs.declared.telling.Telling.{Telling}
use Rattle.due_parts.specs.declared.runnable.Runnable.{Runnable}
use Rattle.due_parts.specs.Accepted.{IsAcceptedBy}
use Rattle.due_parts.specs.Answers.{Only}
use Rattle.due_parts.specs.Scripts.{IsDueLines, IsDueShort}
use Rattle.due_parts.specs.Served.{IsRead, IsTypedRead, IsTypedTree}
use Rattle.due_parts.specs.Told.{IsDueTold}
use Rattle.due_parts.proofs.AcceptLemmas.{accepted_as, read_accepted, short_accepted}
use Rattle.due_points.specs.Resumed.{IsDueChecked, IsDueFrom, IsDuePoint}

-- ---- a service

module _ (typed : Typed) (program : Program) where
  shaped_in : (read : Result ServiceTree TextFault) → IsTypedRead typed program read → IsShape typed.shape × HasNames typed.shape
  shaped_in (Err e) h = absurd h
  shaped_in (Ok tree) h = (h.0.well_formed, h.0.names)

-- a service that was read has a shape with names
pub shaped_typed : (text : List ℕ) (typed : Typed) (program : Program) → IsRead text (IsTypedRead typed program) → IsShape typed.shape
shaped_typed text typed program h = (shaped_in typed program h.read h.is_so).0

pub named_typed : (text : List ℕ) (typed : Typed) (program : Program) → IsRead text (IsTypedRead typed program) → HasNames typed.shape
named_typed text typed program h = (shaped_in typed program h.read h.is_so).1

-- ---- a checkpoint

-- a fault that is told is the text's
told_fault : (shape : Shape) (text : List ℕ) (e : CheckError) → e ≢ error.OutOfMemory the_refusal → IsOnlyVerdict shape text (Err e)
    → IsVerdict shape text (Err e) × ((other : Result Checkpoint CheckError) → IsVerdict shape text other → other ≡ Err e)
told_fault shape text (error.OutOfMemory _) told h = absurd (told refl)
told_fault shape text (error.Syntax n) told h = h
told_fault shape text (error.Service n) told h = h
told_fault shape text (error.Tree n) told h = h

module _ (shape : Shape) (text : List ℕ) where
  only_read : (P : Checkpoint → Answer → Type 0) (read : Result Checkpoint CheckError) (due : Answer) → IsVerdict shape text read → ((other : Result Checkpoint CheckError) → IsVerdict shape text other → other ≡ read)
      → Only (IsDueChecked P read) due → Only (IsDuePoint P shape text) due
  only_read P read due is one o = record {
    is_due = record { read = read; reads = is; due_is = o.is_due };
    only = λ other h. o.only other (subst (λ r. IsDueChecked P r other) (one h.read h.reads) h.due_is);
  }

  -- its fault
  pub only_fault : (P : Checkpoint → Answer → Type 0) (e : CheckError) (due : Answer) → e ≢ error.OutOfMemory the_refusal → IsOnlyVerdict shape text (Err e) → Only (IsDueChecked P (Err e)) due → Only (IsDuePoint P shape text) due
  only_fault P e due told v o = let k = told_fault shape text e told v in only_read P (Err e) due k.0 k.1 o

  -- what is accepted behind its point
  pub point_accepted : (P : Telling → Checkpoint → Answer → Type 0) (point : Checkpoint) (r : Result Runnable Refusal) → IsOnlyVerdict shape text (Ok point) → IsAcceptedBy (λ telling. P telling point) r → IsAcceptedBy (λ telling. IsDuePoint (P telling) shape text) r
  point_accepted P point r v h =
      accepted_as (λ telling. P telling point) (λ telling. IsDuePoint (P telling) shape text) (λ telling due p. record { read = Ok point; reads = v.0; due_is = p })
      (λ telling due o. only_read (P telling) (Ok point) due v.0 v.1 o) r h

-- ---- a script that goes on from a point

pub from_accepted : (tree : ServiceTree) (typed : Typed) (point : Checkpoint) (text : List ℕ) (script : Script) (r : Result Runnable Refusal) → IsTypedTree tree typed → length text ≤ SCRIPT_BYTES
    → IsScriptOf typed.shape (script_earlier point.hosts point.lines) text (Ok script) → IsAcceptedBy (λ telling. IsDueTold telling tree point.start script) r → IsAcceptedBy (λ telling. IsDueFrom telling tree text point) r
from_accepted tree typed point text script r t small so h =
    let P : Telling → Script → Answer → Type 0 = λ telling. IsDueTold telling tree point.start in
    subst (λ s. IsAcceptedBy (λ telling. IsDueShort (IsDueLines (P telling) s (script_earlier point.hosts point.lines)) text) r) t.shape_is
    (short_accepted (λ telling. IsDueLines (P telling) typed.shape (script_earlier point.hosts point.lines)) text r small
    (read_accepted P typed.shape (script_earlier point.hosts point.lines) text script r so h))

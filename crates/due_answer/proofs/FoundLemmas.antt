-- What was found for a command.
use Rattle.std.proofs.Common.{◌≡◌, ◌∙◌, ℕ, ◌≤◌, List, length, Some, Result, Ok, Err, ap, refl, sym, subst}
use Rattle.checkpoint_store.specs.Points.{IsPoint}
use Rattle.wave_base.specs.declared.limits.TheConstants.{LONG_INPUT_BYTES}
use Rattle.mace_ast.specs.Decls.{ServiceTree}
use Rattle.command_words.specs.declared.command.Command.{Command}
use Rattle.command_words.specs.declared.command.Command.TheVariants.{Resume}
use Rattle.command_words.specs.declared.command.Crew.{Crew}
use Rattle.command_words.specs.declared.command.Places.{Places}
use Rattle.due_parts.specs.declared.answer.Answer.{Answer}
use Rattle.due_parts.specs.declared.refusal.Refusal.{Refusal}
use Rattle.due_parts.specs.declared.refusal.Refusal.TheVariants.{Due, OutOfMemory}
use Rattle.due_parts.specs.declared.report.Report.{Report}
use Rattle.due_parts.specs.declared.report.Report.TheVariants.{Listing, Point}
use Rattle.due_parts.specs.declared.telling.Telling.{Telling}
use Rattle.due_parts.specs.declared.telling.Telling.TheVariants.{Reports, Traces}
use Rattle.due_parts.specs.declared.runnable.Runnable.{Runnable}
use Rattle.due_parts.specs.Accepted.{IsAccepted, IsAcceptedBy, IsOnlyDueOf, IsReady, IsTraced, report_of, trace_of}
use Rattle.due_parts.specs.Answers.{Only}
use Rattle.due_parts.specs.Scripts.{IsDueScripted}
use Rattle.due_parts.specs.Served.{IsServed}
use Rattle.due_parts.specs.Services.{IsDueService}
use Rattle.due_parts.proofs.DueLemmas.{refused_served, sized_fine}
use Rattle.due_points.specs.Resumed.{IsDueResumed}
use Rattle.due_stages.specs.declared.work.StagedWork.{StagedWork}
use Rattle.due_stages.specs.Accepted.{IsAcceptedElastic}
use Rattle.due_stages.specs.Elastic.{IsDueElastic, listed_of}
use Rattle.due_answer.specs.declared.prepared.Prepared.{Prepared}
use Rattle.due_answer.specs.declared.prepared.Prepared.TheVariants.{Given, Run, Stages}
use Rattle.due_answer.specs.declared.task.Engine.{Engine}
use Rattle.due_answer.specs.declared.task.Task.{Task}
use Rattle.due_answer.specs.Due.{IsDue, IsToldFor}
use Rattle.due_answer.specs.Prepared.{IsFound, Tells, prepared_answer}
use Rattle.due_answer.specs.Tasks.{engine_of, staged_of, task_of}
use Rattle.due_answer.specs.inner.Ready.{AreReady}

module _ (c : Command) (bytes : List ℕ) where
  -- an answer that was found at once
  pub given_found : (P : Answer → Type 0) (r : Result Answer Refusal) → ((due : Answer) → Only P due → IsToldFor c bytes due) → IsOnlyDueOf P r → IsFound c bytes (prepared_answer r)
  given_found P (Ok answer) lift o = lift answer o
  given_found P (Err (Due answer)) lift o = lift answer o
  given_found P (Err (OutOfMemory refused)) lift o = tt

  -- the report of work that is ready
  pub reports_for : (P : Telling → Answer → Type 0) (report : Report) (work : Runnable) → IsReady P work → ((due : Answer) → Only (P (Reports report)) due → IsToldFor c bytes due)
      → (a : Answer) → a ≡ report_of work report → IsToldFor c bytes a
  reports_for P report work ready lift a is = subst (IsToldFor c bytes) (sym is) (lift (report_of work report) (ready.due report))

  -- its trace by a crew
  pub traces_for : (P : Telling → Answer → Type 0) (places : Places) (crew : Crew) (work : Runnable) → IsReady P work → ((due : Answer) → P (Traces places crew) due → IsToldFor c bytes due)
      → (a : Answer) → IsTraced crew work places a → IsToldFor c bytes a
  traces_for P places crew work ready also a t = subst (IsToldFor c bytes) (sym t.is) (also (trace_of work places t.journal) (ready.traced places crew t.journal t.run))

  -- a script that is reported
  pub reported_found : (text : List ℕ) (report : Report) (engine : Engine) (r : Result Prepared Refusal) → task_of c ≡ Some (record { telling = Reports report; engine = engine })
      → ((due : Answer) → Only (IsDueScripted (Reports report) text) due → IsToldFor c bytes due) → AreReady (Reports report) engine text r → IsFound c bytes r
  reported_found text report engine (Ok (Given answer)) asked lift h = absurd h
  reported_found text report engine (Ok (Stages places by work)) asked lift h = absurd h
  reported_found text report engine (Ok (Run task work)) asked lift h = record {
    asked = asked ∙ ap Some (sym h.task_is);
    can_run = h.ready.can_run;
    saved = λ is. h.saved;
    due = λ a told. reports_for (λ t. IsDueScripted t text) report work h.ready lift a (subst (λ (t : Task). Tells t.telling work a) h.task_is told);
  }
  reported_found text report engine (Err (Due answer)) asked lift h = lift answer h
  reported_found text report engine (Err (OutOfMemory refused)) asked lift h = tt

  -- and one that is traced
  pub traced_found : (places : Places) (crew : Crew) (engine : Engine) (r : Result Prepared Refusal) → task_of c ≡ Some (record { telling = Traces places crew; engine = engine })
      → ((due : Answer) → IsDueScripted (Traces places crew) bytes due → IsToldFor c bytes due) → AreReady (Traces places crew) engine bytes r → IsFound c bytes r
  traced_found places crew engine (Ok (Given answer)) asked also h = absurd h
  traced_found places crew engine (Ok (Stages places' by work)) asked also h = absurd h
  traced_found places crew engine (Ok (Run task work)) asked also h = record {
    asked = asked ∙ ap Some (sym h.task_is);
    can_run = h.ready.can_run;
    saved = λ is. h.saved;
    due = λ a told. traces_for (λ t. IsDueScripted t bytes) places crew work h.ready also a (subst (λ (t : Task). Tells t.telling work a) h.task_is told);
  }
  traced_found places crew engine (Err (Due answer)) asked also h = also answer h.is_due
  traced_found places crew engine (Err (OutOfMemory refused)) asked also h = tt

  -- a script with policies that is listed
  pub staged_found : (places : Places) (engine : Engine) (work : StagedWork) → staged_of c ≡ Some (places, engine) → ((due : Answer) → Only (IsDueElastic places bytes) due → IsToldFor c bytes due)
      → IsAcceptedElastic bytes (Ok work) → IsFound c bytes (Ok (Stages places engine work))
  staged_found places engine work asked lift h = record {
    asked = asked;
    elastic = h.elastic;
    can = h.can;
    due = λ a is. subst (IsToldFor c bytes) (sym is) (lift (listed_of work.program.shape work.service h.elastic places) (h.due places));
  }

  -- and a refusal of it
  pub staged_refused : (places : Places) (refusal : Refusal) → ((due : Answer) → Only (IsDueElastic places bytes) due → IsToldFor c bytes due) → IsAcceptedElastic bytes (Err refusal) → IsFound c bytes (Err refusal)
  staged_refused places (Due answer) lift h = lift answer (h places)
  staged_refused places (OutOfMemory refused) lift h = tt

-- ---- the parts of a command

-- a refusal of a service and a script
pub refused_ready : (telling : Telling) (engine : Engine) (bytes : List ℕ) (refusal : Refusal) → IsAccepted bytes (Err refusal) → AreReady telling engine bytes (Err refusal)
refused_ready telling engine bytes (Due answer) h = h telling
refused_ready telling engine bytes (OutOfMemory refused) h = tt

-- a refusal of a service
pub refused_due : (P : ServiceTree → Answer → Type 0) (text found : List ℕ) (refusal : Refusal) → found ≡ text → IsServed found (Err refusal) → IsOnlyDueOf (IsDueService P text) (Err refusal)
refused_due P text found (Due answer) e s = refused_served P text found answer e s
refused_due P text found (OutOfMemory refused) e s = tt

module _ (places : Places) (crew : Crew) (bytes : List ℕ) where
  resumed_lift : length bytes ≤ LONG_INPUT_BYTES → (due : Answer) → Only (IsDueResumed (Reports (Listing places)) bytes) due → IsToldFor (Resume places crew) bytes due
  unfolding IsDue
  resumed_lift small due o = sized_fine LONG_INPUT_BYTES (IsDueResumed (Reports (Listing places))) bytes due small o

  -- a script that is run from a checkpoint
  pub resumed_found : (engine : Engine) (work : Runnable) → length bytes ≤ LONG_INPUT_BYTES → engine ≡ engine_of crew → IsAcceptedBy (λ telling. IsDueResumed telling bytes) (Ok work)
      → IsFound (Resume places crew) bytes (Ok (Run (record { telling = Reports (Listing places); engine = engine }) work))
  resumed_found engine work small is h = record {
    asked = (λ i. Some (record { telling = Reports (Listing places); engine = sym is i }));
    can_run = h.can_run;
    saved = λ point. absurd cc;
    due = reports_for (Resume places crew) bytes (λ t. IsDueResumed t bytes) (Listing places) work h (resumed_lift small);
  }

  -- and a refusal of it
  pub resumed_refused : (refusal : Refusal) → length bytes ≤ LONG_INPUT_BYTES → IsAcceptedBy (λ telling. IsDueResumed telling bytes) (Err refusal) → IsFound (Resume places crew) bytes (Err refusal)
  resumed_refused (Due answer) small h = resumed_lift small answer (h (Reports (Listing places)))
  resumed_refused (OutOfMemory refused) small h = tt

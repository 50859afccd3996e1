-- A script that was read for a typed service with its code can be run, and what it gives is what is due.
use Rattle.std.proofs.Common.{◌≡◌, ℕ, ◌≤◌, ◌+◌, ◌^◌, List, [], length, map, sym, ◌∙◌, subst, ap, arith}
use Rattle.wave_base.specs.declared.finished.Finished.{Finished}
use Rattle.wave_base.specs.declared.limits.TheConstants.{WORKERS}
use Rattle.wave_base.specs.declared.outcome.EventResult.{EventResult}
use Rattle.wave_base.specs.declared.script.Line.{Line}
use Rattle.wave_base.specs.Fold.{Progress}
use Rattle.wave_base.specs.declared.script.Script.{Script}
use Rattle.wave_base.specs.Scripts.{IsScript}
use Rattle.wave_base.specs.declared.start.Start.{Start}
use Rattle.wave_base.specs.Starts.{IsStart, first_start}
use Rattle.context_tree.proofs.FitLemmas as trees
use Rattle.command_words.specs.declared.command.Crew.{Crew}
use Rattle.command_words.specs.declared.command.Places.{Places}
use Rattle.mace_ast.specs.Decls.{ServiceTree}
use Rattle.resolved_service.specs.Fits.{FitsService}
use Rattle.service_code.specs.declared.program.Program.{Program}
use Rattle.code_scheme.specs.Programs.{scheme_program}
use Rattle.code_scheme.specs.Typed.{IsTyped}
use Rattle.code_scheme.proofs.Made.{program_shape}
use Rattle.resolved_service.specs.declared.service.Resolved.{Resolved}
use Rattle.script_fold.specs.Lines.{most_jobs}
use Rattle.script_fold.specs.Runs.{after_jobs, finished_of, whole_run}
use Rattle.script_fold.proofs.FoldLemmas.{IsGood, good_after, room_after}
use Rattle.script_fold.proofs.StartLemmas.{first_fits}
use Rattle.type_rules.specs.Known.{shape_of}
use Rattle.context_types.specs.declared.Typed.{Typed}
use Rattle.code_actor.specs.CodeActors.{Fields}
use Rattle.code_meaning.specs.inner.Owing.{code_owes}
use Rattle.code_runner.specs.Coded.{IsCode, IsJob, IsTree}
use Rattle.code_runner.proofs.Meant.{code_fit, code_verified}
use Rattle.wave_meaning.specs.Meaning.{call_ran, results_at, IsWholeAt}
use Rattle.plan_actors.specs.Calls.{code_ran}
use Rattle.plan_actors.specs.Plans.{Fits}
use Rattle.checkpoint_store.specs.Points.{IsPoint}
use Rattle.due_parts.proofs.PointLemmas.{FewAreSaved, PlansStayFew, RunsCome, can_be_saved}
use Rattle.plan_actors.proofs.Folding.{whole_at}
use Rattle.code_meaning.proofs.Meaning.{plan_means, plan_ends}
use Rattle.journal_text.specs.JournalTexts.{journal_text}
use Rattle.wave_labels.specs.declared.label.Label.{Label}
use Rattle.wave_labels.specs.Labels.{label_of}
use Rattle.due_parts.specs.declared.report.Report.{Report}
use Rattle.due_parts.specs.declared.report.Report.TheVariants.{Listing}
use Rattle.due_parts.specs.declared.runnable.Runnable.{Runnable}
use Rattle.due_parts.specs.Accepted.{CanRun, IsJournalOf, IsReady, plan_with, point_of, run_outcome, report_of, trace_of}
use Rattle.due_parts.specs.Answers.{Only, with_text}
use Rattle.due_parts.specs.Told.{IsDueFirst, IsDueFold, IsDueTold, IsDueTrace, point_behind, report_answer}
use Rattle.due_parts.specs.Coded.{IsCoded}
use Rattle.due_parts.specs.Served.{IsTypedTree}
use Rattle.due_parts.proofs.DueLemmas.{only_fold}
use Rattle.wave_drives.specs.Measured.{DrivesAreMeasured}
use Rattle.wave_effects.specs.Lengths.{FinishedRunsAreMeasured}
use Rattle.due_parts.specs.Runs.{ComesTo, IsRunOf, nearest_workers}
use Rattle.due_parts.proofs.NameLemmas.{code_typed}
use Rattle.due_parts.proofs.RunLemmas.{FinishedStatesMean, PlansDrive, TheRulesPick, few_nearest, run_comes, some_nearest, some_run}

-- there is a ticket for each result of a run
plan_room : (service : Resolved) (program : Program) → IsCode service program → (start : Start) (script : Script) → IsStart program.shape script.hosts start → IsScript program.shape script
    → start.next.0 + length (results_at program.shape service start script).results ≤ 2 ^ 32
plan_room service program code start script begins fits =
    let owed = code_owes service program code in
    let most : Progress Fields EventResult Line = after_jobs (call_ran service) program.shape start script (most_jobs script.batches) in
    let whole : whole_run (call_ran service) program.shape start script ≡ most = whole_at program.shape (call_ran service) (IsTree program.shape) (IsJob program) owed start script fits begins in
    let good : IsGood program.shape (call_ran service) (IsTree program.shape) (IsJob program) owed start script most =
    good_after program.shape (call_ran service) (IsTree program.shape) (IsJob program) owed start script fits begins (most_jobs script.batches) in
    let room = room_after program.shape (call_ran service) (IsTree program.shape) (IsJob program) owed start script fits begins most good [] (omega arith) in
    let within = good.within in
    let results = good.results in
    subst (λ (w : Progress Fields EventResult Line). start.next.0 + length w.results ≤ 2 ^ 32) (sym whole) (omega (arith, room, within, results))

-- the first Start of a typed service
pub first_begins : (tree : ServiceTree) (typed : Typed) (script : Script) (start : Start) → IsTypedTree tree typed → IsScript typed.shape script → start ≡ first_start typed.shape → IsStart typed.shape script.hosts start
first_begins tree typed script start t fits is =
    subst (IsStart typed.shape script.hosts) (sym is) (first_fits typed.shape script.hosts (trees.first_fits typed.shape t.well_formed) fits.some_host)

-- from it on
pub ready_first : (tree : ServiceTree) (typed : Typed) (script : Script) (start : Start) (work : Runnable) → IsTypedTree tree typed → start ≡ first_start typed.shape → IsReady (λ telling. IsDueTold telling tree start script) work
    → IsReady (λ telling. IsDueFirst telling tree script) work
ready_first tree typed script start work t is h =
    subst (λ s. IsReady (λ telling. IsDueTold telling tree s script) work) (is ∙ ap first_start t.shape_is) h

module _ (tree : ServiceTree) (typed : Typed) (program : Program) (start : Start) (script : Script) (t : IsTypedTree tree typed) (coded : IsCoded typed.shape typed.resolved program)
    (begun : IsStart typed.shape script.hosts start) (fits : IsScript typed.shape script) (rules : TheRulesPick) (drives : PlansDrive) (finished_measured : FinishedRunsAreMeasured) (drives_measured : DrivesAreMeasured) (finished_mean : FinishedStatesMean)
    (plans_few : PlansStayFew) (few_saved : FewAreSaved) (runs_come : RunsCome) where
  abbrev work : Runnable
  work = record { service = typed.resolved; program = program; script = script; start = start }

  same_shape : program.shape ≡ typed.shape
  same_shape = ap (λ (p : Program). p.shape) coded.is ∙ program_shape typed.shape typed.resolved

  code : IsCode typed.resolved program
  code = record {
    typed = subst (λ s. IsTyped s typed.resolved) (sym same_shape) (code_typed tree typed t);
    fits = subst (λ s. FitsService s typed.resolved) (sym same_shape) t.fits;
    is = coded.is ∙ ap (λ s. scheme_program s typed.resolved) (sym same_shape);
  }

  script_fits : IsScript program.shape script
  script_fits = subst (λ s. IsScript s script) (sym same_shape) fits

  begins : IsStart program.shape script.hosts start
  begins = subst (λ s. IsStart s script.hosts start) (sym same_shape) begun

  means : run_outcome work ≡ results_at program.shape typed.resolved start script
  means = plan_means typed.resolved program code start script begins script_fits

  whole : IsWholeAt typed.shape typed.resolved start script
  whole = subst (λ s. IsWholeAt s typed.resolved start script) same_shape (plan_ends typed.resolved program code start script begins script_fits)

  plan_fits : (workers : ℕ) → 1 ≤ workers → workers ≤ WORKERS → Fits (plan_with work workers)
  plan_fits workers some few = record { fit = code_fit typed.resolved program code; verified = code_verified typed.resolved program code; script = script_fits; some_worker = some; few_workers = few }

  -- what it leaves, where it began with the root alone
  saved : start ≡ first_start program.shape → IsPoint program.shape (point_of work)
  saved is =
      subst (λ (s : Start). IsPoint program.shape (point_behind s script (finished_of (code_ran program) program.shape s script))) (sym is)
      (can_be_saved plans_few few_saved runs_come (plan_with work 1) (plan_fits 1 (omega arith) (omega arith)) (subst (IsStart program.shape script.hosts) is begins))

  can_run : CanRun work
  can_run = record {
    code = code;
    fits = plan_fits;
    begins = begins;
    few = subst (λ (f : Finished). start.next.0 + length f.results ≤ 2 ^ 32) (sym means) (plan_room typed.resolved program code start script begins script_fits);
    runs = λ crew. some_run rules drives (plan_with work (nearest_workers crew.workers)) start (plan_fits (nearest_workers crew.workers) (some_nearest crew.workers) (few_nearest crew.workers)) begins crew;
    saved = saved;
  }

  same_told : (report : Report) → report_answer typed.shape start script report (results_at typed.shape typed.resolved start script) ≡ report_of work report
  same_told report =
      ap (λ s. report_answer s start script report (results_at s typed.resolved start script)) (sym same_shape)
      ∙ ap (report_answer program.shape start script report) (sym means)

  -- a run of the crew, traced
  is_traced : (places : Places) (crew : Crew) (journal : List Label) → IsJournalOf crew work journal → IsDueTrace places crew tree start script (trace_of work places journal)
  is_traced places crew journal run = record {
    service = typed.resolved;
    resolved = t.resolved_is;
    whole = subst (λ s. IsWholeAt s typed.resolved start script) t.shape_is whole;
    journal = journal;
    run = subst (λ (p : Program). IsRunOf crew (record { program = p; script = script; workers = nearest_workers crew.workers }) start (map label_of journal)) (coded.is ∙ ap (λ s. scheme_program s typed.resolved) t.shape_is) run;
    comes_to = subst (λ (p : Program). ComesTo (record { program = p; script = script; workers = nearest_workers crew.workers }) start (map label_of journal) (results_at (shape_of tree) typed.resolved start script)) (coded.is ∙ ap (λ s. scheme_program s typed.resolved) t.shape_is)
        (run_comes rules drives (plan_with work (nearest_workers crew.workers)) start (plan_fits (nearest_workers crew.workers) (some_nearest crew.workers) (few_nearest crew.workers)) begins
        finished_measured drives_measured finished_mean typed.resolved code crew.schedule (map label_of journal) run (results_at (shape_of tree) typed.resolved start script)
        (ap (λ s. results_at s typed.resolved start script) (sym (same_shape ∙ t.shape_is))));
    due_is =
        ap (λ done. with_text (report_answer program.shape start script (Listing places) done) (journal_text program.shape journal)) means
        ∙ ap (λ s. with_text (report_answer s start script (Listing places) (results_at s typed.resolved start script)) (journal_text s journal)) (same_shape ∙ t.shape_is);
  }

  pub ready : IsReady (λ telling. IsDueTold telling tree start script) work
  ready = record {
    can_run = can_run;
    due = λ report. subst (Only (IsDueFold report tree start script)) (same_told report) (only_fold report tree typed start script t whole);
    traced = is_traced;
  }

-- what the evaluator gives of it is the same
pub evaluated : (work : Runnable) → CanRun work → run_outcome work ≡ results_at work.program.shape work.service work.start work.script
evaluated work h = plan_means work.service work.program h.code work.start work.script h.begins (h.fits 1 (omega arith) (omega arith)).script

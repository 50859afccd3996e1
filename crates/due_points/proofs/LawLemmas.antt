-- What is resumed from the checkpoint of a script is what the run of that script and the next has behind the lines of the first.
use Rattle.std.proofs.Common.{◌≡◌, ◌∙◌, ◌≤◌, ◌⊎◌, inl, inr, ℕ, Bool, true, false, cond, List, [], ◌∷◌, ◌++◌, length, map, suc, Option, Some, None, is_none, Result, Ok, refl, sym, ap, subst, arith}
use Rattle.std.specs.Prelude.{◌↔◌, ◌||◌}
use Rattle.std.proofs.lemmas.List.{length-map}
use Rattle.std.proofs.lemmas.List.Folds.{list_any-append}
use Rattle.wave_base.specs.declared.finished.Finished.{Finished}
use Rattle.wave_base.specs.declared.limits.TheConstants.{SAVED_TICKET}
use Rattle.wave_base.specs.declared.outcome.EventResult.{EventResult}
use Rattle.wave_base.specs.declared.script.Line.{Line}
use Rattle.wave_base.specs.declared.script.Script.{Script}
use Rattle.wave_base.specs.declared.shape.Shape.{Shape}
use Rattle.wave_base.specs.declared.start.Start.{Start}
use Rattle.wave_base.specs.Fold.{Head, first_head, created_tickets, next_job, created_lines, with_done}
use Rattle.wave_base.specs.Scripts.{IsScript}
use Rattle.wave_base.specs.Shapes.{IsShape}
use Rattle.wave_base.specs.Starts.{IsStart, first_start, start_tree}
use Rattle.mace_ast.specs.Decls.{ServiceTree}
use Rattle.resolved_service.specs.declared.service.Resolved.{Resolved}
use Rattle.resolved_service.specs.Fits.{FitsService}
use Rattle.type_rules.specs.Known.{shape_of}
use Rattle.type_rules.specs.Services.{resolve_service}
use Rattle.type_rules.specs.Views.{resolved_view}
use Rattle.meaning_laws.proofs.SameMeaning.{same_calls}
use Rattle.context_types.specs.declared.Typed.{Typed}
use Rattle.script_fold.specs.Lines.{Meaning, name_of, most_jobs}
use Rattle.script_fold.specs.Runs.{finished_of, start_after, ticket_of, whole_run, IsFew}
use Rattle.wave_meaning.specs.Meaning.{call_ran, results_at, results_of}
use Rattle.service_code.specs.declared.program.Program.{Program}
use Rattle.code_scheme.specs.Programs.{scheme_program}
use Rattle.code_scheme.specs.Typed.{IsTyped}
use Rattle.code_scheme.proofs.Made.{program_shape}
use Rattle.code_runner.specs.Coded.{IsCode}
use Rattle.fold_laws.specs.Cuts.{both, start_behind, Comes, IsCut}
use Rattle.fold_laws.specs.Growth.{StaysFew}
use Rattle.fold_laws.proofs.Heads.{Over, over_of}
use Rattle.fold_laws.proofs.Walk.{Sane, sane_after}
use Rattle.script_reader.specs.Judged.{nothing_earlier}
use Rattle.script_reader.specs.Scripts.{IsScriptOf}
use Rattle.service_reader.specs.Parsing.{Parses}
use Rattle.snapshot_text.specs.Shots.{AreShots}
use Rattle.checkpoint_store.specs.declared.error.CheckError.{CheckError}
use Rattle.checkpoint_store.specs.declared.point.Checkpoint.{Checkpoint}
use Rattle.checkpoint_store.specs.Points.{IsPoint}
use Rattle.command_words.specs.declared.command.Places.{Places}
use Rattle.due_parts.specs.declared.answer.Answer.{Answer}
use Rattle.due_parts.specs.declared.report.Report.{Report}
use Rattle.due_parts.specs.declared.report.Report.TheVariants.{Listing, Point}
use Rattle.due_parts.specs.Served.{IsTypedTree}
use Rattle.due_parts.specs.Told.{IsDueFold, any_trap, is_listed, is_trap, report_answer}
use Rattle.due_parts.proofs.NameLemmas.{code_typed}
use Rattle.due_parts.proofs.PointLemmas.{FewAreSaved}
use Rattle.due_parts.proofs.WorkLemmas.{first_begins}
use Rattle.due_points.specs.Laws.{AreDue, AreScripts, GoesOn, done_by, events_text, point_after}
use Rattle.due_points.proofs.ListedLemmas.{listing_joined}

-- ---- what is told

same_results : (shape : Shape) (x y : Resolved) (start : Start) (script : Script) → resolved_view x ≡ resolved_view y → results_at shape x start script ≡ results_at shape y start script
same_results shape x y start script e = ap (λ calls. finished_of (λ tree call. (calls tree call).ran) shape start script) (same_calls x y e)

-- of a typed service, whichever resolved service it is told of
told_is : (report : Report) (tree : ServiceTree) (typed : Typed) (start : Start) (script : Script) (due : Answer) → IsTypedTree tree typed → IsDueFold report tree start script due
    → due ≡ report_answer typed.shape start script report (results_at typed.shape typed.resolved start script)
told_is report tree typed start script due t h =
    h.due_is ∙ ap (report_answer (shape_of tree) start script report) (same_results (shape_of tree) h.service typed.resolved start script (h.resolved ∙ sym t.resolved_is))
    ∙ ap (λ s. report_answer s start script report (results_at s typed.resolved start script)) (sym t.shape_is)

-- ---- the status

status_by : (t : Bool) (n : ℕ) → n ≡ cond t 1 0 → (n ≡ 1) ↔ (t ≡ true)
status_by true n e = (λ _. refl, λ _. e)
status_by false n e = (λ is. absurd (omega arith), λ is. cc)

any_more : (xs ys : List EventResult) → any_trap (xs ++ ys) ≡ (any_trap xs || any_trap ys)
any_more xs ys = list_any-append (λ (r : EventResult). is_trap r.outcome) xs ys

either : (s t : Bool) → ((s || t) ≡ true) ↔ ((s ≡ true) ⊎ (t ≡ true))
either true t = (λ _. inl refl, λ _. refl)
either false t = (λ e. inr e, λ e. only e)
  where
    only : (false ≡ true) ⊎ (t ≡ true) → t ≡ true
    only (inl e) = cc
    only (inr e) = e

statuses : (s t u : Bool) (a b c : ℕ) → u ≡ (s || t) → a ≡ cond s 1 0 → b ≡ cond t 1 0 → c ≡ cond u 1 0 → (c ≡ 1) ↔ ((a ≡ 1) ⊎ (b ≡ 1))
statuses s t u a b c both one other whole = (there, back)
  where
    there : c ≡ 1 → (a ≡ 1) ⊎ (b ≡ 1)
    there e = by ((either s t).0 (sym both ∙ (status_by u c whole).0 e))
      where
        by : (s ≡ true) ⊎ (t ≡ true) → (a ≡ 1) ⊎ (b ≡ 1)
        by (inl x) = inl ((status_by s a one).1 x)
        by (inr x) = inr ((status_by t b other).1 x)

    back : (a ≡ 1) ⊎ (b ≡ 1) → c ≡ 1
    back (inl e) = (status_by u c whole).1 (both ∙ (either s t).1 (inl ((status_by s a one).0 e)))
    back (inr e) = (status_by u c whole).1 (both ∙ (either s t).1 (inr ((status_by t b other).0 e)))

-- ---- how much a run tells

none_is : {A : Type 0} (o : Option A) → is_none o ≡ true → o ≡ None
none_is None e = refl
none_is (Some x) e = cc

made_many : (first : ℕ) (h : Head Line) (cs : List (List Line)) → length (created_tickets first h cs) ≡ length cs
made_many first h [] = refl
made_many first h (c ∷ cs) = ap suc (made_many first (with_done h c) cs)

-- there is a name and a list of tickets for each result
module _ (meaning : Meaning) (shape : Shape) (start : Start) (a : Script) (c : Comes meaning shape start a) where
  sane : Sane meaning start.next.0 a.batches (whole_run meaning shape start a)
  unfolding whole_run
  sane = sane_after meaning start.next.0 a.batches (start_tree shape start) c.full (most_jobs a.batches)

  all_done : Over (whole_run meaning shape start a).head
  all_done = over_of (whole_run meaning shape start a).head sane.sound (none_is (next_job (whole_run meaning shape start a).head) c.over)

  as_many_names : length (finished_of meaning shape start a).names ≡ length (finished_of meaning shape start a).results
  as_many_names = length-map (whole_run meaning shape start a).head.known name_of ∙ sym all_done.all ∙ sym sane.results

  as_many_made : length (finished_of meaning shape start a).made ≡ length (finished_of meaning shape start a).results
  as_many_made =
      let created : List (List Line) = map created_lines (whole_run meaning shape start a).results in
      length-map (created_tickets start.next.0 (first_head a.batches) created) (map ticket_of)
      ∙ made_many start.next.0 (first_head a.batches) created
      ∙ length-map (whole_run meaning shape start a).results created_lines

-- ---- what is known of the scripts of a service

abbrev pub ScriptsCome : Type 0
ScriptsCome = (service : Resolved) (program : Program) (start : Start) (a : Script) → IsCode service program → IsScript program.shape a → IsStart program.shape a.hosts start → IsFew (start_behind (call_ran service) program.shape start a) → Comes (call_ran service) program.shape start a

abbrev pub ScriptsAreCut : Type 0
ScriptsAreCut = (service : Resolved) (program : Program) (start : Start) (a b : Script) → IsCode service program → Comes (call_ran service) program.shape start a → IsScript program.shape b → a.hosts ≡ b.hosts → IsCut (call_ran service) program.shape start a b

abbrev pub ScriptsStayFew : Type 0
ScriptsStayFew = (service : Resolved) (program : Program) (start : Start) (a : Script) → IsCode service program → IsScript program.shape a → IsStart program.shape a.hosts start → StaysFew start a.batches (results_at program.shape service start a)

abbrev pub TextsLeaveShots : Type 0
TextsLeaveShots = (text lines : List ℕ) (tree : ServiceTree) (shape : Shape) (service : Resolved) (script : Script) → Parses text (Ok tree) → shape ≡ shape_of tree → resolved_view service ≡ resolve_service tree
    → IsScriptOf shape nothing_earlier lines (Ok script) → IsShape shape → IsStart shape script.hosts (start_after (first_start shape) (results_of shape service script)) → AreShots shape (results_of shape service script).shots

module _ (come : ScriptsCome) (are_cut : ScriptsAreCut) (stay_few : ScriptsStayFew) (saved_few : FewAreSaved) (leave_shots : TextsLeaveShots) (tree : ServiceTree) (typed : Typed) (a b : Script) (are : AreScripts tree typed a b) where
  abbrev service : Resolved
  service = typed.resolved

  abbrev program : Program
  program = scheme_program typed.shape typed.resolved

  abbrev first : Start
  first = first_start typed.shape

  -- what the first leaves
  abbrev left : Start
  left = start_behind (call_ran service) typed.shape first a

  same_shape : program.shape ≡ typed.shape
  same_shape = program_shape typed.shape typed.resolved

  code : IsCode service program
  code = record {
    typed = subst (λ s. IsTyped s service) (sym same_shape) (code_typed tree typed are.is_typed);
    fits = subst (λ s. FitsService s service) (sym same_shape) are.is_typed.fits;
    is = ap (λ s. scheme_program s service) (sym same_shape);
  }

  first_script : IsScript program.shape a
  first_script = subst (λ s. IsScript s a) (sym same_shape) are.first

  begins : IsStart program.shape a.hosts first
  begins = subst (λ s. IsStart s a.hosts first) (sym same_shape) (first_begins tree typed a first are.is_typed are.first refl)

  few : IsFew left × (left.next.0 ≤ SAVED_TICKET)
  few = saved_few typed.shape a (done_by typed a) are.first (subst (λ s. StaysFew first a.batches (results_at s service first a)) same_shape (stay_few service program first a code first_script begins))

  comes_by_code : Comes (call_ran service) program.shape first a
  comes_by_code = come service program first a code first_script begins (subst (λ s. IsFew (start_behind (call_ran service) s first a)) (sym same_shape) few.0)

  comes : Comes (call_ran service) typed.shape first a
  comes = subst (λ s. Comes (call_ran service) s first a) same_shape comes_by_code

  cut : IsCut (call_ran service) typed.shape first a b
  cut = subst (λ s. IsCut (call_ran service) s first a b) same_shape (are_cut service program first a b code comes_by_code (subst (λ s. IsScript s b) (sym same_shape) are.second) are.hosts)

  is_point : IsPoint typed.shape (point_after typed a)
  is_point = record {
    numbers = record { some_host = are.first.some_host; few_hosts = are.first.few_hosts; few_lines = are.first.few_lines; first_next = omega arith; last_next = few.1 };
    fits = comes.begins;
  }

  -- of contexts whose values are within the limits
  shots : AreShots typed.shape (point_after typed a).start.shots
  shots = leave_shots are.text are.lines tree typed.shape service a are.parses are.is_typed.shape_is are.is_typed.resolved_is are.reads are.is_typed.well_formed comes.begins

  told_first : (report : Report) (script : Script) (due : Answer) → IsDueFold report tree (first_start (shape_of tree)) script due → due ≡ report_answer typed.shape first script report (results_at typed.shape service first script)
  told_first report script due h =
      told_is report tree typed (first_start (shape_of tree)) script due are.is_typed h
      ∙ ap (λ s. report_answer typed.shape (first_start s) script report (results_at typed.shape service (first_start s) script)) (sym are.is_typed.shape_is)

  module _ (places : Places) (saved resumed run : Answer) (point : Checkpoint) (due : AreDue tree typed a b places saved resumed run point) where
    abbrev one : Finished
    one = done_by typed a

    abbrev other : Finished
    other = results_at typed.shape service left b

    abbrev whole : Finished
    whole = results_at typed.shape service first (both a b)

    saved_told : saved ≡ report_answer typed.shape first a Point one
    saved_told = told_first Point a saved due.saved_is

    run_told : run ≡ report_answer typed.shape first (both a b) (Listing places) whole
    run_told = told_first (Listing places) (both a b) run due.run_is

    point_is : point ≡ point_after typed a
    point_is =
        let same : ◌≡◌ {A = Result Checkpoint CheckError} (Ok (point_after typed a)) (Ok point) = due.point_is.1 (Ok (point_after typed a)) (record { spelled = ap (λ (x : Answer). x.text) saved_told; point = is_point; shots = shots }) in
        cc

    resumed_told : resumed ≡ report_answer typed.shape left b (Listing places) other
    resumed_told =
        told_is (Listing places) tree typed point.start b resumed are.is_typed due.resumed_is
        ∙ ap (λ (p : Checkpoint). report_answer typed.shape p.start b (Listing places) (results_at typed.shape service p.start b)) point_is

    any_same : any_trap whole.results ≡ (any_trap one.results || any_trap other.results)
    any_same = ap any_trap cut.joined.results ∙ any_more one.results other.results

    pub goes_on : GoesOn typed a saved resumed run point
    goes_on = record {
      point_is = point_is;
      text_is =
          ap (λ (x : Answer). x.text) run_told
          ∙ listing_joined typed.shape 1 one other whole cut.joined (as_many_names (call_ran service) typed.shape first a comes) (as_many_made (call_ran service) typed.shape first a comes) (is_listed places)
          ∙ ap (λ (x : Answer). events_text typed.shape one ++ x.text) (sym resumed_told);
      status_is = statuses (any_trap one.results) (any_trap other.results) (any_trap whole.results) saved.status resumed.status run.status any_same (ap (λ (x : Answer). x.status) saved_told) (ap (λ (x : Answer). x.status) resumed_told) (ap (λ (x : Answer). x.status) run_told);
    }

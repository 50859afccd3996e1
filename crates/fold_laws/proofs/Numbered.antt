-- A job of a plan has few segments and enters few contexts, so its mails have numbers.
use Rattle.std.proofs.Common.{◌≡◌, ◌≤◌, ◌<◌, ◌+◌, ◌-◌, ◌^◌, ℕ, suc, Bool, true, false, cond, List, [], ◌∷◌, length, filter, Some, refl, sym, ap, ◌∙◌, arith}
use Rattle.std.proofs.lemmas.List.{length-map}
use Rattle.wave_base.specs.declared.outcome.EventResult.{EventResult}
use Rattle.wave_base.specs.declared.path.Path.{Path}
use Rattle.wave_base.specs.declared.script.Line.{Line}
use Rattle.wave_base.specs.declared.script.Line.TheVariants.{Request, Move, Snapshot}
use Rattle.wave_base.specs.declared.start.Start.{Start}
use Rattle.wave_base.specs.Fold.{Ran, Progress, next_job}
use Rattle.wave_base.specs.Tree.{there}
use Rattle.resolved_service.specs.Jobs.{fronts}
use Rattle.script_fold.specs.Lines.{line_by, FitsJob}
use Rattle.script_fold.specs.Runs.{after_jobs}
use Rattle.script_fold.proofs.LeftLemmas.{All-drop_head}
use Rattle.script_fold.proofs.StepLemmas.{any_ticket}
use Rattle.service_verify.proofs.Classes.{short_path}
use Rattle.wave_states.specs.Alone.{fold_alone, job_after, run_alone, segments_of}
use Rattle.wave_states.specs.Labels.{Label}
use Rattle.wave_states.specs.States.{State}
use Rattle.wave_states.specs.Begins.{start_state}
use Rattle.wave_states.specs.Runs as runs
use Rattle.wave_theory.specs.Sent.{shares}
use Rattle.wave_theory.proofs.Balances
use Rattle.wave_theory.proofs.Plans as plans
use Rattle.code_actor.specs.CodeActors as code
use Rattle.code_actor.specs.CodeActors.{Fields}
use Rattle.plan_actors.specs.Calls.{code_ran, IsTree, segments_on}
use Rattle.plan_actors.specs.PlanActors.{Actor, IsJob, plan_actors, plan_kind}
use Rattle.plan_actors.specs.Plans.{Plan, Fits, FitsStart, begin_in}
use Rattle.plan_actors.proofs.Coded.{code_owes}
use Rattle.plan_actors.proofs.Jobs.{runs_line, counts_line}
use Rattle.plan_actors.proofs.Meeting.{plan_fits, begin_fits, folds_meet, good}
use Rattle.plan_actors.proofs.Owing.{owes}
use Rattle.fold_laws.specs.Mails.{HaveNumbers}
use Rattle.fold_laws.proofs.Growing.{contexts_after, most_lines_add}
use Rattle.fold_laws.proofs.Sending.{Shares, sends_few}
use Rattle.fold_laws.proofs.Touring.{code_grows, tour_enters, tour_pauses}

-- ---- a move enters at most nine contexts

fronts_long : (p : Path) → length (fronts p) ≡ length p + 1
fronts_long [] = refl
fronts_long (s ∷ p) = let more = length-map (fronts p) (λ q. s ∷ q) in omega (arith, more, fronts_long p)

filter_fewer : {X : Type 0} (f : X → Bool) (xs : List X) → length (filter f xs) ≤ length xs
filter_fewer f [] = omega arith
filter_fewer f (x ∷ xs) = by (f x) (filter_fewer f xs)
  where
    by : (b : Bool) → length (filter f xs) ≤ length xs → length (cond b (x ∷ filter f xs) (filter f xs)) ≤ length (x ∷ xs)
    by true l = omega (arith, l)
    by false l = omega (arith, l)

module _ (plan : Plan) (fits : Fits plan) (start : Start) (begins : FitsStart plan start) where
  abbrev at : ℕ → Progress Fields EventResult Line
  at n = after_jobs (code_ran plan.program) plan.program.shape start plan.script n

  -- however far the fold has come
  few_contexts : (n : ℕ) → length (at n).tree.paths ≤ 1349184000
  few_contexts n =
      let grown = contexts_after plan.program.shape (code_ran plan.program) (IsTree plan.program) (code.IsJob plan.program) (code_owes plan.program fits.fit fits.verified) (λ t call is job. code_grows plan.program call t) start plan.script fits.script begins n in
      omega (arith, grown, most_lines_add plan.script.batches, fits.script.few_lines, begins.few)

  Few : ℕ → Line → Type 0
  Few n l = segments_on plan.program (at n).tree l + length (line_by (code_ran plan.program) (start.next.0 + (at n).head.done) (at n).tree l).entered + 1 < 2 ^ 32

  few_by : (n : ℕ) (l : Line) → IsJob plan.program plan.script.hosts l → Few n l
  unfolding Few
  few_by n (Request call) job = let a = tour_enters plan.program call (at n).tree in let b = tour_pauses plan.program call (at n).tree in omega (arith, a, b)
  few_by n (Move p h) job =
      let short = short_path plan.program.shape fits.fit.shape p job.0 in
      let long = fronts_long p in
      let fewer = filter_fewer (there (at n).tree) (fronts p) in
      omega (arith, short, long, fewer)
  few_by n Snapshot job = omega (arith, few_contexts n)

  module _ (index : ℕ) (job : Line) (is : job_after (plan_actors plan.program) (begin_in plan start) plan.script.batches index ≡ Some job) where
    same : fold_alone (plan_actors plan.program) (begin_in plan start) plan.script.batches index ≡ at index
    same = folds_meet plan fits start begins index

    is_line : next_job (at index).head ≡ Some job
    is_line = ap (λ (w : Progress Fields EventResult Line). next_job w.head) (sym same) ∙ is

    line_fits : FitsJob (code.IsJob plan.program) job
    line_fits = All-drop_head (FitsJob (code.IsJob plan.program)) (at index).head.known (at index).head.done job is_line (good plan fits start begins index).known

    is_job : IsJob plan.program plan.script.hosts job
    is_job = plans.job_ok (plan_kind plan.program plan.script.hosts) (owes plan.program fits.fit fits.verified plan.script.hosts) (begin_in plan start) plan.script.batches (begin_fits plan fits start begins) (plan_fits plan fits).jobs _ job
        (plans.holds (plan_kind plan.program plan.script.hosts) (owes plan.program fits.fit fits.verified plan.script.hosts) (begin_in plan start) plan.script.batches (begin_fits plan fits start begins) (plan_fits plan fits).jobs index) is

    pub jobs_few : shares (plan_kind plan.program plan.script.hosts) (begin_in plan start) plan.script.batches index job + 1 < 2 ^ 32
    unfolding Few
    jobs_few =
        let t : ℕ = suc (start.next.0 - 1) + index in
        let tree : (fold_alone (plan_actors plan.program) (begin_in plan start) plan.script.batches index).tree ≡ (at index).tree = ap (λ (w : Progress Fields EventResult Line). w.tree) same in
        let entered : length (run_alone (plan_actors plan.program) t (fold_alone (plan_actors plan.program) (begin_in plan start) plan.script.batches index).tree job).entered ≡ length (line_by (code_ran plan.program) t (at index).tree job).entered =
        ap (λ v. length (run_alone (plan_actors plan.program) t v job).entered) tree ∙ ap (λ (r : Ran Fields EventResult). length r.entered) (runs_line plan.program fits.fit fits.verified t (at index).tree (good plan fits start begins index).tree job line_fits) in
        let ticket : length (line_by (code_ran plan.program) t (at index).tree job).entered ≡ length (line_by (code_ran plan.program) (start.next.0 + (at index).head.done) (at index).tree job).entered =
        ap (λ (r : Ran Fields EventResult). length r.entered) (any_ticket (code_ran plan.program) t (start.next.0 + (at index).head.done) (at index).tree job) in
        let segments : segments_of (plan_actors plan.program) t (fold_alone (plan_actors plan.program) (begin_in plan start) plan.script.batches index).tree job ≡ segments_on plan.program (at index).tree job =
        ap (λ v. segments_of (plan_actors plan.program) t v job) tree ∙ counts_line plan.program fits.fit fits.verified t (at index).tree (good plan fits start begins index).tree job line_fits in
        sums _ _ _ _ _ segments entered ticket (few_by index job is_job)
      where
        sums : (a b c d e : ℕ) → a ≡ b → c ≡ d → d ≡ e → b + e + 1 < 2 ^ 32 → a + c + 1 < 2 ^ 32
        sums a b c d e h i j l = omega (arith, h, i, j, l)

  pub events_few : (labels : List Label) (s : State Actor Fields EventResult Line) → runs.run (plan_actors plan.program) plan.workers (start_state (begin_in plan start) plan.script.batches) labels ≡ Some s → HaveNumbers s
  events_few labels s run t event is =
      let kind = plan_kind plan.program plan.script.hosts in
      let owed = owes plan.program fits.fit fits.verified plan.script.hosts in
      let h = Balances.spending kind owed (begin_in plan start) plan.script.batches (begin_fits plan fits start begins) (plan_fits plan fits).jobs (plan_fits plan fits).some_host plan.workers labels s run in
      let share : Shares kind owed (begin_in plan start) plan.script.batches (begin_fits plan fits start begins) (plan_fits plan fits).jobs t event = sends_few kind owed (begin_in plan start) plan.script.batches (begin_fits plan fits start begins) (plan_fits plan fits).jobs s h.good h.kept.balance t event is in
      let few = jobs_few share.index share.job share.job_is in
      omega (arith, share.within, few)

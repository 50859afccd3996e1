-- The machine's fold of a plan is the script's fold by code; and a Start that fits gives a beginning that fits.
use Rattle.std.proofs.Common.{◌≡◌, ◌≤◌, ◌-◌, ◌+◌, ℕ, suc, None, List, [], ◌∷◌, zip, refl, sym, ◌∙◌, ap, arith, length, sum_by, ◌^◌, subst}
use Rattle.std.specs.Prelude.{All, map}
use Rattle.std.proofs.lemmas.List.Elements.{All-weaker}
use Rattle.wave_base.specs.declared.limits.TheConstants.{GENERATION}
use Rattle.wave_base.specs.declared.outcome.EventResult.{EventResult}
use Rattle.wave_base.specs.declared.path.Path.{Path}
use Rattle.wave_base.specs.declared.script.Line.{Line}
use Rattle.wave_base.specs.declared.script.Line.TheVariants.{Request, Move, Snapshot}
use Rattle.wave_base.specs.declared.start.Start.{Start}
use Rattle.wave_base.specs.Fold.{Progress, first_progress, next_job, created_lines}
use Rattle.wave_base.specs.Scripts.{FitsLine}
use Rattle.wave_base.specs.Places.{places_after, move_of}
use Rattle.wave_base.specs.Starts.{start_tree, start_places}
use Rattle.script_fold.specs.Lines.{FitsJob, line_by, most_jobs}
use Rattle.script_fold.specs.Runs.{after_jobs, whole_run, hosts_after}
use Rattle.script_fold.proofs.FoldLemmas.{IsGood, good_after, same_paths, room_after}
use Rattle.script_fold.proofs.LeftLemmas.{All-drop_head}
use Rattle.wave_states.specs.Alone.{fold_alone, job_after, moves_in, places_alone, run_alone}
use Rattle.wave_states.specs.Owes.{IsBegin, IsPlan}
use Rattle.wave_states.proofs.Starts.{start_fits}
use Rattle.code_actor.specs.CodeActors as code
use Rattle.code_actor.specs.CodeActors.{Fields}
use Rattle.code_actor.proofs.Segmented.{initial_has}
use Rattle.plan_actors.specs.Calls.{code_ran, IsTree}
use Rattle.plan_actors.specs.PlanActors.{plan_actors, IsJob, plan_kind}
use Rattle.plan_actors.specs.Plans.{Plan, Fits, FitsStart, begin_in}
use Rattle.plan_actors.proofs.Coded.{code_owes}
use Rattle.plan_actors.proofs.Folding.{folds_alike, over_whole, most_over}
use Rattle.plan_actors.proofs.Jobs.{runs_line}

pub one_before : (a : ℕ) → 1 ≤ a → suc (a - 1) ≡ a
one_before a l = omega (arith, l)

-- the same pairs
moves_zip : (plan : Plan) (start : Start) (entered : List (List Path)) (rs : List EventResult) → moves_in (plan_actors plan.program) (begin_in plan start) plan.script.batches entered rs ≡ zip entered (map move_of rs)
moves_zip plan start [] [] = refl
moves_zip plan start [] (r ∷ rs) = refl
moves_zip plan start (e ∷ es) [] = refl
moves_zip plan start (e ∷ es) (r ∷ rs) = ap (λ xs. (e, move_of r) ∷ xs) (moves_zip plan start es rs)

module _ (plan : Plan) (fits : Fits plan) where
  within : (a b : ℕ) → a ≡ 0 → a ≤ b
  within a b e = omega (arith, e)

  -- the lines of a script are jobs
  line_job : (l : Line) → FitsLine plan.program.shape plan.script.hosts l → IsJob plan.program plan.script.hosts l
  line_job (Request call) h = (h.0, within call.generation GENERATION h.1)
  line_job (Move p to) h = h
  line_job Snapshot h = h

  pub plan_fits : IsPlan (plan_kind plan.program plan.script.hosts) plan.workers plan.script.batches
  plan_fits = record {
    some_host = fits.script.some_host;
    some_worker = fits.some_worker;
    jobs = All-weaker (All (FitsLine plan.program.shape plan.script.hosts)) (All (IsJob plan.program plan.script.hosts)) (All-weaker (FitsLine plan.program.shape plan.script.hosts) (IsJob plan.program plan.script.hosts) line_job) plan.script.batches fits.script.lines;
  }

  module _ (start : Start) (begins : FitsStart plan start) where
    pub begin_fits : IsBegin (plan_kind plan.program plan.script.hosts) (begin_in plan start)
    begin_fits = start_fits (plan_kind plan.program plan.script.hosts) plan.program.shape (λ p. refl) (initial_has plan.program.shape fits.fit.shape) (λ p f is kinds. kinds) start begins

    pub good : (n : ℕ) → IsGood plan.program.shape (code_ran plan.program) (IsTree plan.program) (code.IsJob plan.program) (code_owes plan.program fits.fit fits.verified) start plan.script (after_jobs (code_ran plan.program) plan.program.shape start plan.script n)
    good n = good_after plan.program.shape (code_ran plan.program) (IsTree plan.program) (code.IsJob plan.program) (code_owes plan.program fits.fit fits.verified) start plan.script fits.script begins n

    pub hosts_paths : (n : ℕ) → (hosts_after start (after_jobs (code_ran plan.program) plan.program.shape start plan.script n)).paths ≡ (after_jobs (code_ran plan.program) plan.program.shape start plan.script n).tree.paths
    hosts_paths n = same_paths plan.program.shape (code_ran plan.program) (IsTree plan.program) (code.IsJob plan.program) (code_owes plan.program fits.fit fits.verified) start plan.script fits.script begins n

    Good : Progress Fields EventResult Line → Type 0
    Good w = IsGood plan.program.shape (code_ran plan.program) (IsTree plan.program) (code.IsJob plan.program) (code_owes plan.program fits.fit fits.verified) start plan.script w

    firsts : suc (start.next.0 - 1) ≡ start.next.0
    firsts = one_before start.next.0 begins.first_next

    -- the fold of the plan's actors is the script's by code, however far both have come
    pub folds_meet : (n : ℕ) → fold_alone (plan_actors plan.program) (begin_in plan start) plan.script.batches n ≡ after_jobs (code_ran plan.program) plan.program.shape start plan.script n
    unfolding Good
    folds_meet n = folds_alike (suc (start.next.0 - 1)) start.next.0 firsts (run_alone (plan_actors plan.program)) (line_by (code_ran plan.program)) created_lines (first_progress (start_tree plan.program.shape start) plan.script.batches) Good
        good (λ v j g e. runs_line plan.program fits.fit fits.verified (start.next.0 + v.head.done) v.tree g.tree j (All-drop_head (FitsJob (code.IsJob plan.program)) v.head.known v.head.done j e g.known)) n

    -- and each context is on the same host
    pub places_meet : (n : ℕ) → places_alone (plan_actors plan.program) (begin_in plan start) plan.script.batches n ≡ hosts_after start (after_jobs (code_ran plan.program) plan.program.shape start plan.script n)
    places_meet n =
        ap (λ (w : Progress Fields EventResult Line). places_after (start_places start) (moves_in (plan_actors plan.program) (begin_in plan start) plan.script.batches w.entered w.results)) (folds_meet n)
        ∙ ap (places_after (start_places start)) (moves_zip plan start (after_jobs (code_ran plan.program) plan.program.shape start plan.script n).entered (after_jobs (code_ran plan.program) plan.program.shape start plan.script n).results)

    -- where no job is left it is the whole run
    pub whole_meets : (n : ℕ) → next_job (fold_alone (plan_actors plan.program) (begin_in plan start) plan.script.batches n).head ≡ None → fold_alone (plan_actors plan.program) (begin_in plan start) plan.script.batches n ≡ whole_run (code_ran plan.program) plan.program.shape start plan.script
    whole_meets n e = folds_meet n ∙ over_whole plan.program.shape (code_ran plan.program) (IsTree plan.program) (code.IsJob plan.program) (code_owes plan.program fits.fit fits.verified) start plan.script fits.script begins n
        (ap (λ (w : Progress Fields EventResult Line). next_job w.head) (sym (folds_meet n)) ∙ e)

    -- none is left after as many as the lines may make
    pub none_after : job_after (plan_actors plan.program) (begin_in plan start) plan.script.batches (most_jobs plan.script.batches) ≡ None
    none_after = ap (λ (w : Progress Fields EventResult Line). next_job w.head) (folds_meet (most_jobs plan.script.batches))
        ∙ most_over plan.program.shape (code_ran plan.program) (IsTree plan.program) (code.IsJob plan.program) (code_owes plan.program fits.fit fits.verified) start plan.script fits.script begins

    -- there is a ticket for each job that is known, and for each line that is still to come
    pub room : (n : ℕ) → start.next.0 + length (fold_alone (plan_actors plan.program) (begin_in plan start) plan.script.batches n).head.known + sum_by length (fold_alone (plan_actors plan.program) (begin_in plan start) plan.script.batches n).head.later ≤ 2 ^ 32
    room n = subst (λ (w : Progress Fields EventResult Line). start.next.0 + length w.head.known + sum_by length w.head.later ≤ 2 ^ 32) (sym (folds_meet n))
        (none_more (start.next.0 + length (after_jobs (code_ran plan.program) plan.program.shape start plan.script n).head.known) (sum_by length (after_jobs (code_ran plan.program) plan.program.shape start plan.script n).head.later)
        (room_after plan.program.shape (code_ran plan.program) (IsTree plan.program) (code.IsJob plan.program) (code_owes plan.program fits.fit fits.verified) start plan.script fits.script begins (after_jobs (code_ran plan.program) plan.program.shape start plan.script n) (good n) [] (omega arith)))
      where
        none_more : (a b : ℕ) → a + 0 + b ≤ 2 ^ 32 → a + b ≤ 2 ^ 32
        none_more a b l = omega (arith, l)

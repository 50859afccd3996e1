-- The work of a plan's actors is that of its script.
use Rattle.std.proofs.Common.{◌≡◌, ℕ, zero, suc, ◌+◌, ◌-◌, Bool, true, false, if◌then◌else◌, nat_eq, List, [], ◌∷◌, length, length-append, sum_by, Option, Some, None, refl, sym, ◌∙◌, ap, ap₂, arith}
use Rattle.std.proofs.lemmas.List.Sums.{sum_by-append, sum_by-cons}
use Rattle.wave_base.specs.declared.numbers.Host.{Host}
use Rattle.wave_base.specs.declared.outcome.EventResult.{EventResult}
use Rattle.wave_base.specs.declared.outcome.Outcome.TheVariants as out
use Rattle.wave_base.specs.declared.path.Path.{Path}
use Rattle.wave_base.specs.declared.script.Line.{Line}
use Rattle.wave_base.specs.declared.script.Line.TheVariants.{Request, Move, Snapshot}
use Rattle.wave_base.specs.declared.start.Start.{Start}
use Rattle.wave_base.specs.Fold.{Ran, Progress, next_job, with_job, created_lines}
use Rattle.wave_base.specs.Places.{with_contexts, move_of}
use Rattle.wave_base.specs.Tree.{Tree, there}
use Rattle.resolved_service.specs.Jobs.{only, move_ran}
use Rattle.script_fold.specs.Lines.{FitsJob, line_by, most_jobs}
use Rattle.script_fold.specs.Runs.{after_jobs, whole_run, hosts_after}
use Rattle.script_fold.proofs.LeftLemmas.{All-drop_head}
use Rattle.script_fold.proofs.StepLemmas.{any_ticket}
use Rattle.wave_states.specs.Alone.{run_alone, segments_of, fold_alone, job_after, places_alone}
use Rattle.wave_states.specs.Work.{WorkNumbers, moves_away, work_after, work_of_job}
use Rattle.wave_theory.proofs.Places.{old_same}
use Rattle.code_actor.specs.CodeActors as code
use Rattle.code_actor.specs.CodeActors.{Fields}
use Rattle.plan_actors.specs.Calls.{code_ran, IsTree, segments_on}
use Rattle.plan_actors.specs.Efforts.{work_with, work_of, whole_work}
use Rattle.plan_actors.specs.PlanActors.{plan_actors}
use Rattle.plan_actors.specs.Plans.{Plan, Fits, FitsStart, begin_in}
use Rattle.plan_actors.proofs.Coded.{code_owes}
use Rattle.plan_actors.proofs.Folding.{stays_long, most_over}
use Rattle.plan_actors.proofs.Jobs.{runs_line, counts_line}
use Rattle.plan_actors.proofs.Meeting.{good, folds_meet, places_meet}

module _ (plan : Plan) (fits : Fits plan) (start : Start) (begins : FitsStart plan start) where
  abbrev at : ℕ → Progress Fields EventResult Line
  at n = after_jobs (code_ran plan.program) plan.program.shape start plan.script n

  -- where a job moves a context that is there, it has its host before and after the job has entered it
  move_same : (hosts : Tree ℕ) (ps : List Path) (p : Path) (h : Host) (b : Bool) → there hosts p ≡ b → moves_away (with_contexts hosts ps) (move_of (only (if b then out.Moved p h else out.Absent p))) ≡ moves_away hosts (move_of (only (if b then out.Moved p h else out.Absent p)))
  move_same hosts ps p h true e = ap (λ host. if nat_eq host h.0 then 0 else 1) (old_same ps hosts p e)
  move_same hosts ps p h false e = refl

  moves_same : (ticket : ℕ) (hosts : Tree ℕ) (tree : Tree Fields) → ((p : Path) → there hosts p ≡ there tree p) → IsTree plan.program tree → (l : Line) → FitsJob (code.IsJob plan.program) l →
      moves_away (with_contexts hosts (line_by (code_ran plan.program) ticket tree l).entered) (move_of (line_by (code_ran plan.program) ticket tree l).result) ≡ moves_away hosts (move_of (line_by (code_ran plan.program) ticket tree l).result)
  moves_same ticket hosts tree alike is (Request call) job =
      let none : move_of (code_ran plan.program tree call).result ≡ None = (code_owes plan.program fits.fit fits.verified).unmoved tree call is job in
      ap (moves_away (with_contexts hosts (code_ran plan.program tree call).entered)) none ∙ sym (ap (moves_away hosts) none)
  moves_same ticket hosts tree alike is (Move p h) job = move_same hosts (move_ran tree p h).entered p h (there tree p) (alike p)
  moves_same ticket hosts tree alike is Snapshot job = refl

  one_same : (n : ℕ) (x : WorkNumbers) (o : Option Line) → next_job (at n).head ≡ o → work_of_job (plan_actors plan.program) (begin_in plan start) plan.script.batches n x o ≡ work_with plan start (at n) x o
  one_same n x None e = refl
  one_same n x (Some l) e =
      let t : ℕ = suc (start.next.0 - 1) + n in
      let g = good plan fits start begins n in
      let job : FitsJob (code.IsJob plan.program) l = All-drop_head (FitsJob (code.IsJob plan.program)) (at n).head.known (at n).head.done l e g.known in
      let tree : (fold_alone (plan_actors plan.program) (begin_in plan start) plan.script.batches n).tree ≡ (at n).tree = ap (λ (w : Progress Fields EventResult Line). w.tree) (folds_meet plan fits start begins n) in
      let ran : run_alone (plan_actors plan.program) t (fold_alone (plan_actors plan.program) (begin_in plan start) plan.script.batches n).tree l ≡ line_by (code_ran plan.program) (start.next.0 + (at n).head.done) (at n).tree l =
      ap (λ v. run_alone (plan_actors plan.program) t v l) tree ∙ runs_line plan.program fits.fit fits.verified t (at n).tree g.tree l job ∙ any_ticket (code_ran plan.program) t (start.next.0 + (at n).head.done) (at n).tree l in
      let segments : segments_of (plan_actors plan.program) t (fold_alone (plan_actors plan.program) (begin_in plan start) plan.script.batches n).tree l ≡ segments_on plan.program (at n).tree l =
      ap (λ v. segments_of (plan_actors plan.program) t v l) tree ∙ counts_line plan.program fits.fit fits.verified t (at n).tree g.tree l job in
      let places : places_alone (plan_actors plan.program) (begin_in plan start) plan.script.batches n ≡ hosts_after start (at n) =
      places_meet plan fits start begins n in
      let moves : moves_away (with_contexts (places_alone (plan_actors plan.program) (begin_in plan start) plan.script.batches n) (run_alone (plan_actors plan.program) t (fold_alone (plan_actors plan.program) (begin_in plan start) plan.script.batches n).tree l).entered)
      (move_of (run_alone (plan_actors plan.program) t (fold_alone (plan_actors plan.program) (begin_in plan start) plan.script.batches n).tree l).result)
      ≡ moves_away (hosts_after start (at n)) (move_of (line_by (code_ran plan.program) (start.next.0 + (at n).head.done) (at n).tree l).result) =
      ap₂ (λ (hosts : Tree ℕ) (r : Ran Fields EventResult). moves_away (with_contexts hosts r.entered) (move_of r.result)) places ran
      ∙ moves_same (start.next.0 + (at n).head.done) (hosts_after start (at n)) (at n).tree g.placed g.tree l job in
      λ i. record { tickets = suc x.tickets; segments = x.segments + segments i; entered = x.entered + length (ran i).entered; moves = x.moves + moves i }

  -- the machine's work numbers are the plan's
  pub work_same : (n : ℕ) → work_after (plan_actors plan.program) (begin_in plan start) plan.script.batches n ≡ work_of plan start n
  work_same zero = refl
  work_same (suc n) =
      ap (λ x. work_of_job (plan_actors plan.program) (begin_in plan start) plan.script.batches n x (job_after (plan_actors plan.program) (begin_in plan start) plan.script.batches n)) (work_same n)
      ∙ ap (λ (w : Progress Fields EventResult Line). work_of_job (plan_actors plan.program) (begin_in plan start) plan.script.batches n (work_of plan start n) (next_job w.head)) (folds_meet plan fits start begins n)
      ∙ one_same n (work_of plan start n) (next_job (at n).head) refl

  work_long : (n d : ℕ) → next_job (at n).head ≡ None → work_of plan start (d + n) ≡ work_of plan start n
  work_long n zero e = ap (work_of plan start) (let z : 0 + n ≡ n = omega arith in z)
  work_long n (suc d) e =
      let stays : at (d + n) ≡ at n = stays_long plan.program.shape (code_ran plan.program) (IsTree plan.program) (code.IsJob plan.program) (code_owes plan.program fits.fit fits.verified) start plan.script fits.script begins n d e in
      ap (work_of plan start) (let z : suc d + n ≡ suc (d + n) = omega arith in z)
      ∙ ap (work_with plan start (at (d + n)) (work_of plan start (d + n))) (ap (λ (w : Progress Fields EventResult Line). next_job w.head) stays ∙ e)
      ∙ work_long n d e

  -- once no job is left it is the work of all
  pub work_over : (n : ℕ) → next_job (at n).head ≡ None → work_of plan start n ≡ whole_work plan start
  unfolding whole_work
  work_over n e = sym (work_long n (most_jobs plan.script.batches) e) ∙ ap (work_of plan start) (swap (most_jobs plan.script.batches) n)
      ∙ work_long (most_jobs plan.script.batches) n (most_over plan.program.shape (code_ran plan.program) (IsTree plan.program) (code.IsJob plan.program) (code_owes plan.program fits.fit fits.verified) start plan.script fits.script begins)
    where
      swap : (a b : ℕ) → a + b ≡ b + a
      swap a b = omega arith

  pub whole_is : whole_work plan start ≡ work_of plan start (most_jobs plan.script.batches)
  unfolding whole_work
  whole_is = refl

-- T is the number of results, and E that of all paths entered
module _ (plan : Plan) (start : Start) where
  abbrev now : ℕ → Progress Fields EventResult Line
  now n = after_jobs (code_ran plan.program) plan.program.shape start plan.script n

  tickets_are : (n : ℕ) → (work_of plan start n).tickets ≡ length (now n).results
  tickets_are zero = refl
  tickets_are (suc n) = by (next_job (now n).head) (tickets_are n)
    where
      by : (o : Option Line) → (work_of plan start n).tickets ≡ length (now n).results → (work_with plan start (now n) (work_of plan start n) o).tickets ≡ length (with_job start.next.0 (line_by (code_ran plan.program)) created_lines (now n) o).results
      by None e = e
      by (Some l) e = omega (arith, e, length-append (now n).results ((line_by (code_ran plan.program) (start.next.0 + (now n).head.done) (now n).tree l).result ∷ []))

  entered_are : (n : ℕ) → (work_of plan start n).entered ≡ sum_by length (now n).entered
  entered_are zero = refl
  entered_are (suc n) = by (next_job (now n).head) (entered_are n)
    where
      by : (o : Option Line) → (work_of plan start n).entered ≡ sum_by length (now n).entered → (work_with plan start (now n) (work_of plan start n) o).entered ≡ sum_by length (with_job start.next.0 (line_by (code_ran plan.program)) created_lines (now n) o).entered
      by None e = e
      by (Some l) e = let ps : List Path = (line_by (code_ran plan.program) (start.next.0 + (now n).head.done) (now n).tree l).entered in
          omega (arith, e, sum_by-append (λ (p : List Path). length p) (now n).entered (ps ∷ []), sum_by-cons (λ (p : List Path). length p) ps [])

  pub whole_tickets : (whole_work plan start).tickets ≡ length (whole_run (code_ran plan.program) plan.program.shape start plan.script).results
  unfolding whole_work whole_run
  whole_tickets = tickets_are (most_jobs plan.script.batches)

  pub whole_entered : (whole_work plan start).entered ≡ sum_by length (whole_run (code_ran plan.program) plan.program.shape start plan.script).entered
  unfolding whole_work whole_run
  whole_entered = entered_are (most_jobs plan.script.batches)

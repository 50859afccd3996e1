use Rattle.std.proofs.Common.{◌≡◌, map, Result, Ok, Err, IfOk, ap, sym, subst, ◌∙◌}
use Rattle.std.proofs.lemmas.Result.{IfOk-weaker}
use Rattle.std.specs.Prelude.{IsTrue}
use Rattle.wave_base.specs.declared.finished.Finished.{Finished}
use Rattle.wave_base.specs.declared.script.Script.{Script}
use Rattle.wave_base.specs.declared.start.Start.{Start}
use Rattle.wave_base.specs.Fold.{is_over}
use Rattle.script_fold.specs.Runs.{finished_of, start_after, whole_run}
use Rattle.script_fold.proofs.AgainLemmas.{run_places}
use Rattle.script_fold.proofs.run.run_script_at.Goals as goal

always : {A E : Type 0} (r : Result A E) (P : Type 0) → P → IfOk r (λ _. P)
always (Ok x) P p = p
always (Err e) P p = tt

pub returns-clause-over : goal.returns-clause-over
returns-clause-over g c =
    let m = g.R.Runner.meaning c.args.runner.now in
    let sh = g.R.Runner.shape c.args.runner.now in
    always c.finished_run.result _ (subst (λ (x : Start × Script). IsTrue (is_over (whole_run m sh x.0 x.1))) (λ i. (c.in_ok-live.ensures.start i, c.in_ok-copy.ensures i)) c.in_ok-live-2.ensures.over)

pub returns-clause-places : goal.returns-clause-places
returns-clause-places g c =
    let r = c.args.runner.now in
    let m = g.R.Runner.meaning r in
    let sh = g.R.Runner.shape r in
    let same : finished_of m sh c.in_ok-live.live.start c.in_ok-copy.field-0 ≡ finished_of m sh c.args.start.now c.args.script.now = λ i. finished_of m sh (c.in_ok-live.ensures.start i) (c.in_ok-copy.ensures i) in
    let all = run_places sh m (g.R.Runner.fits_tree r) (g.R.Runner.fits_call r) (g.met.R.Runner.owed r c.requires.sound) c.args.start.now c.args.script.now c.requires.script c.requires.start in
    let told = subst (λ (f : Finished). map (λ x. x.path) f.places ≡ map (λ s. s.path) f.shots) (sym same) all in
    let left = subst (λ (s : Start). map (λ x. x.path) s.places ≡ map (λ s. s.path) s.shots) (sym c.in_ok-live-2.ensures.start) told in
    IfOk-weaker c.finished_run.result _ (λ (f : Finished). map (λ x. x.path) f.places ≡ map (λ s. s.path) f.shots)
    (λ f e. subst (λ (f : Finished). map (λ x. x.path) f.places ≡ map (λ s. s.path) f.shots) (sym e) left) c.finished_run.ensures

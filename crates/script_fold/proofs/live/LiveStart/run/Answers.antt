use Rattle.std.proofs.Common.{◌≡◌, ◌≤◌, ◌<◌, ◌-◌, suc, length, ap, ◌∙◌, arith}
use Rattle.wave_base.specs.Fold.{is_over}
use Rattle.script_fold.specs.Lines.{most_jobs}
use Rattle.script_fold.specs.Lives.{Live}
use Rattle.script_fold.specs.Runs.{finished_of}
use Rattle.script_fold.proofs.FoldLemmas.{whole_is, few_jobs}
use Rattle.script_fold.proofs.live.LiveStart.run.Goals as goal

pub loop-folding-smaller : goal.loop-folding-smaller
loop-folding-smaller g c =
    let s = c.in_ok-step.ensures.stands c.args.self.start c.args.script c.loop-folding.invariant c.if-branch.true in
    let few : length s.done ≤ most_jobs c.args.script.batches = s.few in
    let now : c.step.new.self.head.done ≡ length s.done = s.head.done_is in
    let one : c.step.new.self.head.done ≡ suc c.loop-folding.folding.head.done = c.in_ok-step.ensures.done c.if-branch.true in
    let smaller : most_jobs c.args.script.batches - c.step.new.self.head.done < most_jobs c.args.script.batches - c.loop-folding.folding.head.done = omega (arith, few, now, one) in
    smaller

pub overflow_cast-next : goal.overflow_cast-next
overflow_cast-next g c =
    let m = g.R.Runner.meaning c.args.runner.now in
    let sh = g.R.Runner.shape c.args.runner.now in
    let e = c.in_ok-step.ensures.ended c.args.self.start c.args.script c.loop-folding.invariant c.if-branch.false in
    let left = c.end-contexts.ensures m sh c.args.self.start c.args.script e in
    let few : length (finished_of m sh c.args.self.start c.args.script).results ≤ 16000000 = few_jobs m sh c.args.self.start c.args.script c.requires.script in
    let many : c.len.result ≡ length (finished_of m sh c.args.self.start c.args.script).results = c.len.ensures ∙ ap length left.gave.results in
    omega (arith, few, many)

pub overflow_add-next : goal.overflow_add-next
overflow_add-next g c =
    let m = g.R.Runner.meaning c.args.runner.now in
    let sh = g.R.Runner.shape c.args.runner.now in
    let e = c.in_ok-step.ensures.ended c.args.self.start c.args.script c.loop-folding.invariant c.if-branch.false in
    let left = c.end-contexts.ensures m sh c.args.self.start c.args.script e in
    let few : length (finished_of m sh c.args.self.start c.args.script).results ≤ 16000000 = few_jobs m sh c.args.self.start c.args.script c.requires.script in
    let many : c.len.result ≡ length (finished_of m sh c.args.self.start c.args.script).results = c.len.ensures ∙ ap length left.gave.results in
    let next : c.self.inside.next.0 ≡ c.args.self.start.next.0 = ap (λ (l : Live). l.start.next.0) c.self.view_is in
    omega (arith, few, many, next, c.requires.start.last_next)

pub invariant_of-live : goal.invariant_of-live
invariant_of-live g c =
    let m = g.R.Runner.meaning c.args.runner.now in
    let sh = g.R.Runner.shape c.args.runner.now in
    let e = c.in_ok-step.ensures.ended c.args.self.start c.args.script c.loop-folding.invariant c.if-branch.false in
    (c.end-contexts.ensures m sh c.args.self.start c.args.script e).ordered

pub returns-clause-over : goal.returns-clause-over
returns-clause-over g c =
    let m = g.R.Runner.meaning c.args.runner.now in
    let sh = g.R.Runner.shape c.args.runner.now in
    let e = c.in_ok-step.ensures.ended c.args.self.start c.args.script c.loop-folding.invariant c.if-branch.false in
    ap is_over (whole_is m sh c.args.self.start c.args.script e.count e.few e.over) ∙ e.over

use Rattle.std.proofs.Common.{◌≡◌, ◌∙◌, ◌+◌, ◌≤◌, ap, subst, length, arith}
use Rattle.script_fold.specs.Lines.{most_jobs}
use Rattle.script_fold.specs.Runs.{whole_run}
use Rattle.wave_states.specs.Alone.{fold_alone}
use Rattle.plan_actors.specs.Calls.{code_ran}
use Rattle.plan_actors.specs.PlanActors.{plan_actors}
use Rattle.plan_actors.specs.Plans.{begin_in}
use Rattle.wave_effects.specs.inner.Lines.{IsKept}
use Rattle.wave_effects.specs.Keeping.{kept_of}
use Rattle.wave_effects.proofs.Lines.{line_is, kinds_many, over_stays}
use Rattle.wave_effects.proofs.engine.Engine.shown_lines.Goals as goal

pub copies-requires-clause-kinds : goal.copies-requires-clause-kinds
copies-requires-clause-kinds c =
    let m = kept_of c.args.self.now in
    let on = c.requires.stands in
    let many : length m.settled.results ≤ length m.settled.kinds = kinds_many c.heads_are_known.ensures m on.0 on.1 on.2 in
    omega (arith, many, c.requires.from, c.min-count.ensures, c.len.ensures, ap length c.deref.ensures.value)

pub returns-clause-lines : goal.returns-clause-lines
returns-clause-lines c = λ start s stands i x e.
    let m = kept_of c.args.self.now in
    let plan = m.plan in
    let n₀ = most_jobs plan.script.batches in
    let over = c.folds_end.ensures.most plan start stands.fits stands.begins in
    let whole : fold_alone (plan_actors plan.program) (begin_in plan start) plan.script.batches (s.head.done + n₀) ≡ whole_run (code_ran plan.program) plan.program.shape start plan.script =
    over_stays plan start s.head.done n₀ over ∙ c.folds_end.ensures.whole plan start n₀ stands.fits stands.begins over in
    let later : s.head.done ≤ s.head.done + n₀ = omega arith in
    let kept : IsKept m.settled.results m.settled.kinds (c.args.from + i) x =
    subst (λ ns. IsKept m.settled.results ns (c.args.from + i) x) c.deref.ensures.value (c.in_ok-shown.ensures.each i x e) in
    line_is m start s stands (c.heads_are_known.ensures plan start stands.labels s stands.fits stands.begins stands.reached) (c.machines_follow_the_fold.ensures.results m start s stands) (c.machines_follow_the_fold.ensures.tickets m start s stands) (s.head.done + n₀) later whole (c.args.from + i) x kept

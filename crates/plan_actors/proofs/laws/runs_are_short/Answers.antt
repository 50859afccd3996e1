use Rattle.std.proofs.Common.{◌≤◌, ◌+◌, ◌*◌, length, sym, ◌∙◌, ap, subst}
use Rattle.wave_base.specs.declared.outcome.EventResult.{EventResult}
use Rattle.wave_base.specs.declared.script.Line.{Line}
use Rattle.wave_base.specs.Fold.{Progress, next_job}
use Rattle.script_fold.specs.Lines.{most_jobs}
use Rattle.wave_states.specs.Work.{WorkNumbers}
use Rattle.wave_theory.specs.Counted.{size, pass_count, most_moves}
use Rattle.code_actor.specs.CodeActors.{Fields}
use Rattle.plan_actors.specs.Plans.{Setting, begin_in}
use Rattle.plan_actors.proofs.Efforts.{work_same, work_over, whole_is}
use Rattle.plan_actors.proofs.Finishing.{none_left}
use Rattle.plan_actors.proofs.Meeting.{plan_fits, begin_fits, none_after, folds_meet}
use Rattle.plan_actors.proofs.Owing.{setting_of}
use Rattle.plan_actors.proofs.laws.runs_are_short.Goals as goal

pub returns-clause-most : goal.returns-clause-most
returns-clause-most c = λ plan start fits begins labels s run.
    let k : Setting = setting_of plan.program fits.fit fits.verified plan.script.hosts in
    subst (λ (x : WorkNumbers). length labels ≤ size x + x.entered * most_moves (begin_in plan start) x) (work_same plan fits start begins (most_jobs plan.script.batches) ∙ sym (whole_is plan fits start begins))
    ((c.label_bounds.ensures k plan.workers (begin_in plan start) plan.script.batches (begin_fits plan fits start begins) (plan_fits plan fits) labels s run).within (most_jobs plan.script.batches) (none_after plan fits start begins))

pub returns-clause-finished : goal.returns-clause-finished
returns-clause-finished c = λ plan start fits begins labels s run finished.
    let k : Setting = setting_of plan.program fits.fit fits.verified plan.script.hosts in
    let none = none_left plan fits start begins s
    (c.complete.ensures k plan.workers (begin_in plan start) plan.script.batches (begin_fits plan fits start begins) (plan_fits plan fits) labels s run finished)
    (c.tickets.ensures k plan.workers (begin_in plan start) plan.script.batches (begin_fits plan fits start begins) (plan_fits plan fits) labels s run)
    (c.results.ensures k plan.workers (begin_in plan start) plan.script.batches (begin_fits plan fits start begins) (plan_fits plan fits) labels s run)
    (c.loads.ensures k plan.workers (begin_in plan start) plan.script.batches (begin_fits plan fits start begins) (plan_fits plan fits) labels s run finished) in
    (c.label_bounds.ensures k plan.workers (begin_in plan start) plan.script.batches (begin_fits plan fits start begins) (plan_fits plan fits) labels s run).exactly finished
    ∙ ap (λ (x : WorkNumbers). size x + pass_count labels) (work_same plan fits start begins s.head.done ∙ work_over plan fits start begins s.head.done (ap (λ (w : Progress Fields EventResult Line). next_job w.head) (sym (folds_meet plan fits start begins s.head.done)) ∙ none))

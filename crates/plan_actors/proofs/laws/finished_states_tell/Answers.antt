use Rattle.std.proofs.Common.{sym, subst}
use Rattle.plan_actors.specs.Finishing.{Tells}
use Rattle.plan_actors.specs.Plans.{Setting, begin_in}
use Rattle.plan_actors.proofs.Finishing.{told, tells}
use Rattle.plan_actors.proofs.Meeting.{plan_fits, begin_fits}
use Rattle.plan_actors.proofs.Owing.{setting_of}
use Rattle.plan_actors.proofs.laws.finished_states_tell.Goals as goal

pub returns : goal.returns
returns c = λ plan start fits begins labels s run finished f.
    let k : Setting = setting_of plan.program fits.fit fits.verified plan.script.hosts in
    let complete = c.complete.ensures k plan.workers (begin_in plan start) plan.script.batches (begin_fits plan fits start begins) (plan_fits plan fits) labels s run finished in
    let tickets = c.tickets.ensures k plan.workers (begin_in plan start) plan.script.batches (begin_fits plan fits start begins) (plan_fits plan fits) labels s run in
    let results = c.results.ensures k plan.workers (begin_in plan start) plan.script.batches (begin_fits plan fits start begins) (plan_fits plan fits) labels s run in
    let loads = c.loads.ensures k plan.workers (begin_in plan start) plan.script.batches (begin_fits plan fits start begins) (plan_fits plan fits) labels s run finished in
    (λ t. told plan fits start begins s complete tickets results loads f t, λ e. subst (Tells s start plan.script.batches) (sym e) (tells plan fits start begins s complete tickets results loads))

use Rattle.plan_actors.specs.Plans.{Setting, begin_in}
use Rattle.plan_actors.proofs.Meeting.{plan_fits, begin_fits}
use Rattle.plan_actors.proofs.Owing.{setting_of}
use Rattle.wave_effects.specs.Keeping.{kept_of}
use Rattle.wave_effects.proofs.Ending.{Completes, so_done, so_finished}
use Rattle.wave_effects.proofs.engine.Engine.is_finished_past.Goals as goal

pub returns : goal.returns
returns c = λ start s stands.
    let m = kept_of c.args.self.now in
    let completes : Completes = λ plan begin labels v fits begins reached.
    let k : Setting = setting_of plan.program fits.fit fits.verified plan.script.hosts in
    c.complete.ensures k plan.workers (begin_in plan begin) plan.script.batches (begin_fits plan fits begin begins) (plan_fits plan fits) labels v reached in (
      λ is. so_finished c.states_are_known.ensures c.heads_are_known.ensures m start s stands (c.all_done.ensures.0 is),
      λ finished. c.all_done.ensures.1 (so_done c.states_are_known.ensures c.heads_are_known.ensures m start s stands completes finished),
    )

use Rattle.std.proofs.Common.{subst}
use Rattle.wave_states.specs.Runs.{Finished}
use Rattle.plan_actors.specs.PlanActors.{plan_actors}
use Rattle.plan_actors.specs.Plans.{Plan, Fits, FitsStart}
use Rattle.wave_effects.specs.Machines.{IsReached}
use Rattle.wave_board.specs.Always.{the_plan}
use Rattle.wave_board.specs.Boards.{labels_of}
use Rattle.wave_board.proofs.always.journals_are_short.Goals as goal

pub returns : goal.returns
returns c = record {
  most = λ o b s h. c.runs_are_short.ensures.most (the_plan o) o.start.now (subst Fits h.plan h.fits) (subst (λ (q : Plan). FitsStart q o.start.now) h.plan h.begins)
      (labels_of b) s (subst (λ (q : Plan). IsReached q o.start.now (labels_of b) s) h.plan h.reached);
  whole = λ o b s h finished. record {
    besides_passes = c.runs_are_short.ensures.finished (the_plan o) o.start.now (subst Fits h.plan h.fits) (subst (λ (q : Plan). FitsStart q o.start.now) h.plan h.begins)
        (labels_of b) s (subst (λ (q : Plan). IsReached q o.start.now (labels_of b) s) h.plan h.reached)
        (subst (λ (q : Plan). Finished (plan_actors q.program) q.workers s) h.plan finished);
    most = c.runs_are_short.ensures.most (the_plan o) o.start.now (subst Fits h.plan h.fits) (subst (λ (q : Plan). FitsStart q o.start.now) h.plan h.begins)
        (labels_of b) s (subst (λ (q : Plan). IsReached q o.start.now (labels_of b) s) h.plan h.reached);
  };
}

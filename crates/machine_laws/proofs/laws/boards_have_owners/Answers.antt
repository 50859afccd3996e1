use Rattle.std.proofs.Common.{subst}
use Rattle.plan_actors.specs.Plans.{Plan, Fits, FitsStart}
use Rattle.wave_effects.specs.Machines.{IsReached}
use Rattle.wave_board.specs.Always.{the_plan}
use Rattle.wave_board.specs.Boards.{labels_of}
use Rattle.machine_laws.proofs.laws.boards_have_owners.Goals as goal

pub returns : goal.returns
returns c = λ o b s h.
    c.plans_have_owners.ensures (the_plan o) o.start.now (subst Fits h.plan h.fits) (subst (λ (q : Plan). FitsStart q o.start.now) h.plan h.begins)
    (labels_of b) s (subst (λ (q : Plan). IsReached q o.start.now (labels_of b) s) h.plan h.reached)

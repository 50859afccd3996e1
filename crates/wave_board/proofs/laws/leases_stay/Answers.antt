use Rattle.plan_actors.proofs.Owing.{setting_of}
use Rattle.wave_effects.specs.Plans.{plan_of}
use Rattle.std.proofs.Common.{subst}
use Rattle.plan_actors.specs.Plans.{Fits}
use Rattle.wave_board.proofs.Staying.{hand_stays}
use Rattle.wave_board.proofs.laws.leases_stay.Goals as goal

pub returns : goal.returns
returns c = λ o b b' s s' pass h h' seen own own'.
    let plan = plan_of o.plan.now in
    let fits = subst Fits h.plan h.fits in
    hand_stays o b b' s s' pass h h' seen own own' (c.hands_stay_over.ensures (setting_of plan.program fits.fit fits.verified plan.script.hosts))

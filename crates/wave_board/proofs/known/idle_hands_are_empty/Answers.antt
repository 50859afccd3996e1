use Rattle.plan_actors.proofs.Owing.{setting_of}
use Rattle.wave_board.proofs.Idle.{idle}
use Rattle.wave_board.proofs.known.idle_hands_are_empty.Goals as goal

pub returns : goal.returns
returns c = λ b o s worker h even.
    let plan = b.machine.kept.plan in
    idle b o s worker h (c.hands_stay.ensures (setting_of plan.program h.fits.fit h.fits.verified plan.script.hosts)) even

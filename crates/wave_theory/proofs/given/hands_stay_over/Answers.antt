use Rattle.wave_theory.proofs.given.hands_stay_over.Goals as goal
use Rattle.wave_theory.proofs.InHand

pub returns : goal.returns
returns g c = λ code. InHand.hands_stay_over ((g.T.Acting.kind code).system)

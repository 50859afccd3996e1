use Rattle.wave_theory.proofs.laws.hands_stay.Goals as goal
use Rattle.wave_theory.proofs.InHand

pub returns : goal.returns
returns g c = λ code. InHand.hands_stay (g.T.Acting.kind code).system

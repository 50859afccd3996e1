use Rattle.wave_board.proofs.Staying.{results_on}
use Rattle.wave_board.proofs.laws.results_stay.Goals as goal

pub returns : goal.returns
returns c = λ o b b' s s' h h' on. results_on o b b' s s' h h' on

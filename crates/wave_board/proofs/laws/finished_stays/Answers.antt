use Rattle.wave_board.proofs.Staying.{finished_on}
use Rattle.wave_board.proofs.laws.finished_stays.Goals as goal

pub returns : goal.returns
returns c = λ o b b' s s' h h' on finished. finished_on o b b' s s' h h' on finished

use Rattle.due_points.proofs.LawLemmas.{goes_on}
use Rattle.due_points.proofs.laws.checkpoints_go_on.Goals as goal

pub returns : goal.returns
returns c = λ tree typed a b places saved resumed run point are due.
    goes_on c.scripts_are_cut.ensures.first c.scripts_are_cut.ensures.cut c.scripts_stay_few.ensures.one c.scripts_are_few.ensures.saved c.texts_leave_shots.ensures tree typed a b are places saved resumed run point due

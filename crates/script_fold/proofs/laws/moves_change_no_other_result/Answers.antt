use Rattle.script_fold.proofs.MoveLemmas.{moves_aside}
use Rattle.script_fold.proofs.laws.moves_change_no_other_result.Goals as goal

pub returns : goal.returns
returns c = λ meaning first tree batches n full over. moves_aside meaning first tree batches n full over

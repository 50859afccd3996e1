use Rattle.std.proofs.Common.{arith}
use Rattle.service_eval.proofs.RowLemmas.{lesser_or_greater}
use Rattle.service_eval.proofs.given.reckons.Goals as goal

pub returns-in-28 : goal.returns-in-28
returns-in-28 c = λ h. lesser_or_greater c.args.row (omega arith) (omega arith)

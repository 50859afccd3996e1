use Rattle.std.proofs.Common.{sym, arith}
use Rattle.service_eval.proofs.RowLemmas.{sizes_give, writers_give, later_give}
use Rattle.service_eval.proofs.given.kind_given.Goals as goal

pub returns-in_default-3 : goal.returns-in_default-3
returns-in_default-3 c = sym (sizes_give c.args.row (grind arith) (grind arith))

pub returns-in_default-4 : goal.returns-in_default-4
returns-in_default-4 c = sym (later_give c.args.row (grind arith) (λ e. grind arith))

pub returns-in-18-2 : goal.returns-in-18-2
returns-in-18-2 c = sym (writers_give c.args.row (omega arith) (omega arith))

use Rattle.std.proofs.Common.{◌+◌, ◌*◌, max}
use Rattle.resolved_service.specs.declared.expr.Expr.{size-Expr}
use Rattle.service_eval.proofs.plain.+flag.Given as goal

abbrev pub decreases-flag : goal.decreases-flag
decreases-flag l = 4 * size-Expr l.e.now

abbrev pub decreases-flag_of : goal.decreases-flag_of
decreases-flag_of l = 4 * goal.size-flag_of l + 3

abbrev pub decreases-flag_of_one : goal.decreases-flag_of_one
decreases-flag_of_one l = 4 * size-Expr l.a.now + 2

abbrev pub decreases-flag_of_two : goal.decreases-flag_of_two
decreases-flag_of_two l = 4 * max (size-Expr l.a.now) (size-Expr l.b.now) + 2

use Rattle.std.proofs.Common.{◌+◌, ◌*◌, max}
use Rattle.resolved_service.specs.declared.expr.Expr.{size-Expr}
use Rattle.service_eval.proofs.plain.+number.Given as goal

abbrev pub decreases-number : goal.decreases-number
decreases-number l = 4 * size-Expr l.e.now

abbrev pub decreases-number_given : goal.decreases-number_given
decreases-number_given l = 4 * goal.size-number_given l + 3

abbrev pub decreases-number_of_one : goal.decreases-number_of_one
decreases-number_of_one l = 4 * size-Expr l.a.now + 2

abbrev pub decreases-number_of_two : goal.decreases-number_of_two
decreases-number_of_two l = 4 * max (size-Expr l.a.now) (size-Expr l.b.now) + 2

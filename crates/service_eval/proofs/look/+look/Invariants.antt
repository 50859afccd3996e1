use Rattle.std.proofs.Common.{◌+◌, ◌*◌, max}
use Rattle.resolved_service.specs.declared.expr.Expr.{size-Expr}
use Rattle.service_eval.proofs.look.+look.Given as goal

abbrev pub decreases-look : goal.decreases-look
decreases-look l = 4 * size-Expr l.e.now

abbrev pub decreases-operand : goal.decreases-operand
decreases-operand l = 4 * size-Expr l.e.now + 1

abbrev pub decreases-look_row : goal.decreases-look_row
decreases-look_row l = 4 * goal.size-look_row l + 3

abbrev pub decreases-look_one : goal.decreases-look_one
decreases-look_one l = 4 * size-Expr l.a.now + 2

abbrev pub decreases-look_two : goal.decreases-look_two
decreases-look_two l = 4 * max (size-Expr l.a.now) (size-Expr l.b.now) + 2

abbrev pub decreases-look_three : goal.decreases-look_three
decreases-look_three l = 4 * max (size-Expr l.a.now) (max (size-Expr l.b.now) (size-Expr l.c.now)) + 2

abbrev pub decreases-look_and : goal.decreases-look_and
decreases-look_and l = 4 * max (size-Expr l.left.now) (size-Expr l.right.now) + 2

abbrev pub decreases-look_or : goal.decreases-look_or
decreases-look_or l = 4 * max (size-Expr l.left.now) (size-Expr l.right.now) + 2

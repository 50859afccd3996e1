use Rattle.std.proofs.Common.{◌+◌, ◌*◌, map, take, max}
use Rattle.resolved_service.specs.declared.expr.Expr.{size-Expr}
use Rattle.resolved_service.specs.View.{tree_of, trees_of}
use Rattle.service_compiler.specs.inner.Drafts.{EmitsTrees}
use Rattle.service_compiler.proofs.emit.+emit_expr.Given as goal

abbrev pub invariant-emit_exprs-exprs : goal.invariant-emit_exprs-exprs
invariant-emit_exprs-exprs l = EmitsTrees l.methods l.initial.code l.code (trees_of (map tree_of (take l.expr-index l.exprs)))

abbrev pub decreases-emit_expr : goal.decreases-emit_expr
decreases-emit_expr l = 4 * goal.size-emit_expr l

abbrev pub decreases-emit_exprs : goal.decreases-emit_exprs
decreases-emit_exprs l = 4 * goal.size-emit_exprs l + 1

abbrev pub decreases-emit_and : goal.decreases-emit_and
decreases-emit_and l = 4 * max (size-Expr l.left.now) (size-Expr l.right.now) + 1

abbrev pub decreases-emit_or : goal.decreases-emit_or
decreases-emit_or l = 4 * max (size-Expr l.left.now) (size-Expr l.right.now) + 1

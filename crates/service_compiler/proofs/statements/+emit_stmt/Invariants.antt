use Rattle.std.proofs.Common.{◌+◌, ◌*◌, take}
use Rattle.resolved_service.specs.Steps.{step_of, steps_in}
use Rattle.service_compiler.specs.inner.Drafts.{EmitsSteps}
use Rattle.service_compiler.specs.inner.Sizes.{step_size, steps_size}
use Rattle.service_compiler.proofs.statements.+emit_stmt.Given as goal

abbrev pub invariant-emit_stmts-stmts : goal.invariant-emit_stmts-stmts
invariant-emit_stmts-stmts l = EmitsSteps l.methods l.initial.code l.code (steps_in (take l.stmt-index l.stmts))

-- a statement, its blocks, and what leads to them
abbrev pub decreases-emit_stmt : goal.decreases-emit_stmt
decreases-emit_stmt l = 8 * step_size (step_of l.stmt.now)

abbrev pub decreases-emit_stmts : goal.decreases-emit_stmts
decreases-emit_stmts l = 8 * steps_size (steps_in l.stmts.now) + 1

abbrev pub decreases-emit_if : goal.decreases-emit_if
decreases-emit_if l = 8 * steps_size (steps_in l.body.now) + 2

abbrev pub decreases-emit_while : goal.decreases-emit_while
decreases-emit_while l = 8 * steps_size (steps_in l.body.now) + 2

abbrev pub decreases-emit_turn : goal.decreases-emit_turn
decreases-emit_turn l = 8 * steps_size (steps_in l.body.now) + 2

abbrev pub decreases-emit_loop : goal.decreases-emit_loop
decreases-emit_loop l = 8 * steps_size (steps_in l.body.now) + 3

abbrev pub decreases-emit_else : goal.decreases-emit_else
decreases-emit_else l = 8 * (steps_size (steps_in l.body.now) + steps_size (steps_in l.other.now)) + 2

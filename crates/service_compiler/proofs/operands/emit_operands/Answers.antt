use Rattle.service_compiler.proofs.Drafts.{emits_then}
use Rattle.service_compiler.proofs.Notes.{on_ok}
use Rattle.service_compiler.proofs.OperandLemmas.{one_operand, two_operands, for_operands}
use Rattle.service_compiler.proofs.operands.emit_operands.Goals as goal

pub returns-in-SetLocal : goal.returns-in-SetLocal
returns-in-SetLocal c =
    on_ok _ _ c.emit_expr-in-SetLocal.result
    (one_operand c.args.methods.now c.args.code.now c.emit_expr-in-SetLocal.new.code c.args.stmt.now.action c.args.stmt.now.at c.in-SetLocal.value c.in-SetLocal.is)
    c.emit_expr-in-SetLocal.ensures

pub returns-in_ok-emit_expr-in-PutLocal : goal.returns-in_ok-emit_expr-in-PutLocal
returns-in_ok-emit_expr-in-PutLocal c =
    on_ok _ _ c.emit_expr-in-PutLocal.result (λ g.
    two_operands c.args.methods.now c.args.code.now c.emit_expr-in-PutLocal.new.code c.args.stmt.now.action c.args.stmt.now.at c.in-PutLocal.key c.in-PutLocal.value c.in-PutLocal.is
    (emits_then c.in_ok-emit_expr-in-PutLocal.ensures g))
    c.emit_expr-in-PutLocal.ensures

pub returns-in-For : goal.returns-in-For
returns-in-For c =
    on_ok _ _ c.emit_bounds.result
    (for_operands c.args.methods.now c.args.code.now c.emit_bounds.new.code c.args.stmt.now.action c.args.stmt.now.at c.in-For.counter c.in-For.from c.in-For.to c.in-For.field-3 c.in-For.is)
    c.emit_bounds.ensures

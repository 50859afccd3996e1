use Rattle.service_compiler.proofs.Drafts.{emits_then, emits_put}
use Rattle.service_compiler.proofs.Notes.{on_ok}
use Rattle.service_compiler.proofs.operands.emit_bounds.Goals as goal

pub returns : goal.returns
returns c =
    on_ok _ _ c.put-2.result (λ g. emits_then c.in_ok-emit_expr.ensures (emits_then c.in_ok-put.ensures (emits_put c.in_ok-emit_expr-2.ensures g))) c.put-2.ensures

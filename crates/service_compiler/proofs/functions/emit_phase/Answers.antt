use Rattle.std.proofs.Common.{subst}
use Rattle.resolved_service.specs.Steps.{steps_in}
use Rattle.service_compiler.specs.inner.Drafts.{EmitsSteps}
use Rattle.service_compiler.proofs.Drafts.{emits_then}
use Rattle.service_compiler.proofs.Notes.{on_ok}
use Rattle.service_compiler.proofs.functions.emit_phase.Goals as goal

pub returns : goal.returns
returns c =
    on_ok _ _ c.emit_stmts.result (λ g.
    emits_then c.in_ok-emit_expr.ensures (emits_then c.in_ok-put.ensures (subst (λ ss. EmitsSteps c.args.methods.now c.put.new.self c.emit_stmts.new.code (steps_in ss)) c.as_slice.ensures g)))
    c.emit_stmts.ensures

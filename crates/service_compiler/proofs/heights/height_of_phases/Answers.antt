use Rattle.std.proofs.Common.{max, refl, ap, ◌∙◌, arith}
use Rattle.resolved_service.specs.declared.service.Phase.{Phase}
use Rattle.resolved_service.specs.Steps.{steps_in}
use Rattle.resolved_service.specs.View.{tree_of}
use Rattle.code_scheme.specs.Heights.{tree_height, steps_height, phases_height}
use Rattle.service_compiler.proofs.HeightLemmas.{capped_max, highest_next}
use Rattle.service_compiler.proofs.heights.height_of_phases.Goals as goal

pub loop-phase-preserved : goal.loop-phase-preserved
loop-phase-preserved c =
    let m = c.args.methods.now in
    let f = c.phase-item.result in
    highest_next (λ (f : Phase). max (tree_height m (tree_of f.key)) (steps_height m (steps_in f.body))) (phases_height m) refl (λ x xs. omega arith) c.args.phases.now c.loop-phase.phase-index f c.loop-phase-test.true c.phase-item.is
    c.loop-phase.height c.max.result c.max-height.result c.loop-phase.invariant
    (c.max.ensures ∙ capped_max c.expr_height.result c.stmts_height-body.result (tree_height m (tree_of f.key)) (steps_height m (steps_in f.body)) c.expr_height.ensures (omega (arith, c.stmts_height-body.ensures, ap (λ ss. steps_height m (steps_in ss)) c.as_slice.ensures)))
    c.max-height.ensures

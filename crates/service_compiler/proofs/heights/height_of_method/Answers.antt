use Rattle.std.proofs.Common.{ap, arith}
use Rattle.resolved_service.specs.Steps.{steps_in}
use Rattle.code_scheme.specs.Heights.{steps_height, method_height}
use Rattle.service_compiler.proofs.heights.height_of_method.Goals as goal

pub returns : goal.returns
unfolding method_height
returns c =
    let m = c.args.methods.now in
    omega (arith, c.max.ensures, c.stmts_height.ensures, ap (λ ss. steps_height m (steps_in ss)) c.as_slice.ensures, c.height_of_last.ensures)

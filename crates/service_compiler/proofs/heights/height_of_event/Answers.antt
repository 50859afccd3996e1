use Rattle.std.proofs.Common.{ap, arith}
use Rattle.resolved_service.specs.Steps.{steps_in}
use Rattle.code_scheme.specs.Heights.{steps_height, phases_height, event_height}
use Rattle.service_compiler.proofs.heights.height_of_event.Goals as goal

pub returns : goal.returns
unfolding event_height
returns c =
    let m = c.args.methods.now in
    omega (arith, c.max-2.ensures, c.max.ensures, c.stmts_height-here.ensures, ap (λ ss. steps_height m (steps_in ss)) c.as_slice.ensures, c.height_of_phases-phases.ensures, ap (phases_height m) c.as_slice-2.ensures, c.height_of_last.ensures)

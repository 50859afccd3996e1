use Rattle.std.proofs.Common.{◌-◌, length, ap, ◌∙◌, arith}
use Rattle.resolved_service.specs.Steps.{steps_in, surely_ends}
use Rattle.service_compiler.specs.inner.Fronts.{ended_behind}
use Rattle.service_compiler.proofs.Fronting.{last_tells}
use Rattle.service_compiler.proofs.functions.is_past.Goals as goal

pub returns-in-len1-up : goal.returns-in-len1-up
returns-in-len1-up c =
    let fs = c.as_slice.result.now in
    let ended = surely_ends (steps_in c.args.event.now.here) in
    c.surely_ends-in-len1-up.ensures
    ∙ ap (λ ss. surely_ends (steps_in ss)) c.as_slice-in-len1-up.ensures
    ∙ last_tells fs (length fs - 1) c.last-item.result ended (omega (arith, c.in-len1-up.len_at_least)) c.last-item.is
    ∙ ap (ended_behind ended) c.as_slice.ensures

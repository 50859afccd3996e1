use Rattle.std.proofs.Common.{◌-◌, length, sym, ap, ◌∙◌, arith}
use Rattle.resolved_service.specs.Steps as steps
use Rattle.resolved_service.specs.Steps.{steps_in}
use Rattle.resolved_service.specs.declared.stmt.Action.TheVariants as done
use Rattle.resolved_service.proofs.Ending.{second_tells, first_goes_on, last_tells}
use Rattle.resolved_service.proofs.ends.+ends.Goals as goal

pub is_end-returns-then-surely_ends : goal.is_end-returns-then-surely_ends
is_end-returns-then-surely_ends t c =
    let is = c.in-If.is ∙ ap (done.If c.in-If.field-0 c.in-If.body) c.in-Some.is in
    let first = ap (λ l. steps.surely_ends (steps_in l)) (sym c.deref.ensures.value) ∙ sym c.surely_ends.ensures ∙ c.if-surely_ends.true in
    let second = ap (λ l. steps.surely_ends (steps_in l)) (sym c.deref-then-surely_ends.ensures.value) ∙ sym c.surely_ends-then-surely_ends.ensures in
    sym (second_tells c.args.s.now c.in-If.field-0 c.in-If.body c.in-Some.other is first ∙ second)

pub is_end-returns-else-surely_ends : goal.is_end-returns-else-surely_ends
is_end-returns-else-surely_ends t c =
    let is = c.in-If.is ∙ ap (done.If c.in-If.field-0 c.in-If.body) c.in-Some.is in
    let first = ap (λ l. steps.surely_ends (steps_in l)) (sym c.deref.ensures.value) ∙ sym c.surely_ends.ensures ∙ c.if-surely_ends.false in
    c.if-surely_ends.false ∙ sym (first_goes_on c.args.s.now c.in-If.field-0 c.in-If.body c.in-Some.other is first)

pub surely_ends-returns-in-len1-up : goal.surely_ends-returns-in-len1-up
surely_ends-returns-in-len1-up t c =
    let ss = c.args.body.now in
    c.is_end.ensures ∙ last_tells ss (length ss - 1) c.last-item.result (omega (arith, c.in-len1-up.len_at_least)) c.last-item.is

use Rattle.std.proofs.Common.{◌≡◌, [], ◌∷◌, ◌+◌, ◌-◌, None, length, take, get_or, ap, ◌∙◌, arith}
use Rattle.std.proofs.lemmas.Result.{err_from_is_err_and}
use Rattle.service_verify.specs.inner.Asks.{row_operands}
use Rattle.service_verify.specs.Rules.{left_below}
use Rattle.service_verify.proofs.Operands.{row_operands_step, left_on, left_off}
use Rattle.service_verify.proofs.kinds.take_row.Goals as goal

pub returns-in_err-take_if : goal.returns-in_err-take_if
returns-in_err-take_if c =
    let p = err_from_is_err_and c.from_residual.result c.from_residual.ensures.1 in
    let last = get_or c.args.takes.now (length c.args.takes.now - 1 - c.loop-i.i) None in
    rw (p.1, p.2)
    (c.loop-i.invariant
    ∙ ap (λ ws. left_below ws c.loop-i.stack) (row_operands_step c.args.takes.now c.loop-i.i None c.loop-i-test.true)
    ∙ left_off (row_operands (last ∷ [])) (row_operands (take (length c.args.takes.now - 1 - c.loop-i.i) c.args.takes.now)) c.loop-i.stack _ c.in_err-take_if.ensures)

pub loop-i-preserved : goal.loop-i-preserved
loop-i-preserved c =
    let last = get_or c.args.takes.now (length c.args.takes.now - 1 - c.loop-i.i) None in
    let e : length c.args.takes.now - 1 - c.loop-i.i ≡ length c.args.takes.now - (c.loop-i.i + 1) = omega arith in
    c.loop-i.invariant
    ∙ ap (λ ws. left_below ws c.loop-i.stack) (row_operands_step c.args.takes.now c.loop-i.i None c.loop-i-test.true)
    ∙ left_on (row_operands (last ∷ [])) (row_operands (take (length c.args.takes.now - 1 - c.loop-i.i) c.args.takes.now)) c.loop-i.stack _ c.in_ok-take_if.ensures
    ∙ ap (λ n. left_below (row_operands (take n c.args.takes.now)) c.take_if.new.stack) e

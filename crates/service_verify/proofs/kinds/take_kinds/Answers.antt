use Rattle.std.proofs.Common.{◌≡◌, [], ◌∷◌, ◌+◌, ◌-◌, Some, length, take, get_or, ap, ◌∙◌, arith}
use Rattle.std.proofs.lemmas.Result.{err_from_is_err_and}
use Rattle.wave_base.specs.declared.value.Kind.TheVariants as k
use Rattle.service_verify.specs.Rules.{operands, left_below}
use Rattle.service_verify.proofs.Operands.{operands_step, left_on, left_off}
use Rattle.service_verify.proofs.kinds.take_kinds.Goals as goal

pub returns-in_err-take_one : goal.returns-in_err-take_one
returns-in_err-take_one c =
    let p = err_from_is_err_and c.from_residual.result c.from_residual.ensures.1 in
    let last = Some (get_or c.args.kinds.now (length c.args.kinds.now - 1 - c.loop-i.i) k.Int) in
    rw (p.1, p.2)
    (c.loop-i.invariant
    ∙ ap (λ ws. left_below ws c.loop-i.stack) (operands_step c.args.kinds.now c.loop-i.i k.Int c.loop-i-test.true)
    ∙ left_off (last ∷ []) (operands (take (length c.args.kinds.now - 1 - c.loop-i.i) c.args.kinds.now)) c.loop-i.stack _ c.in_err-take_one.ensures)

pub loop-i-preserved : goal.loop-i-preserved
loop-i-preserved c =
    let last = Some (get_or c.args.kinds.now (length c.args.kinds.now - 1 - c.loop-i.i) k.Int) in
    let e : length c.args.kinds.now - 1 - c.loop-i.i ≡ length c.args.kinds.now - (c.loop-i.i + 1) = omega arith in
    c.loop-i.invariant
    ∙ ap (λ ws. left_below ws c.loop-i.stack) (operands_step c.args.kinds.now c.loop-i.i k.Int c.loop-i-test.true)
    ∙ left_on (last ∷ []) (operands (take (length c.args.kinds.now - 1 - c.loop-i.i) c.args.kinds.now)) c.loop-i.stack _ c.in_ok-take_one.ensures
    ∙ ap (λ n. left_below (operands (take n c.args.kinds.now)) c.take_one.new.stack) e

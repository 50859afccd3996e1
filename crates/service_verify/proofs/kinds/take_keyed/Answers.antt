use Rattle.std.proofs.Common.{[], ◌∷◌, Some}
use Rattle.std.proofs.lemmas.Result.{err_from_is_err_and}
use Rattle.wave_base.specs.declared.value.Kind.TheVariants as k
use Rattle.service_verify.specs.Rules.{operands}
use Rattle.service_verify.proofs.Operands.{left_off, leaves_on}
use Rattle.service_verify.proofs.kinds.take_keyed.Goals as goal

pub returns-in_err-take_kinds : goal.returns-in_err-take_kinds
returns-in_err-take_kinds c =
    let p = err_from_is_err_and c.from_residual.result c.from_residual.ensures.1 in
    rw (p.1, p.2) (left_off (operands c.args.kinds.now) (Some k.Int ∷ []) c.args.stack.now _ c.in_err-take_kinds.ensures)

pub returns : goal.returns
returns c = leaves_on (operands c.args.kinds.now) (Some k.Int ∷ []) c.args.stack.now _ _ c.take_one.result c.in_ok-take_kinds.ensures c.take_one.ensures

use Rattle.std.proofs.Common.{refl}
use Rattle.std.proofs.lemmas.Result.{err_from_is_err_and}
use Rattle.mace_grammar.specs.inner.Readers.{down_at}
use Rattle.mace_parser.proofs.Parts.{then_gives, part_fails, later_fails}
use Rattle.mace_parser.proofs.reader.Reader.phase.Goals as goal

pub returns-in_err-at : goal.returns-in_err-at
unfolding down_at
returns-in_err-at c =
    let p = err_from_is_err_and c.from_residual.result c.from_residual.ensures.1 in
    rw (p.1, p.2) (part_fails _ _ c.in_err-at.field-0.0 c.in_err-at.ensures)

pub returns-in_err-class : goal.returns-in_err-class
unfolding down_at
returns-in_err-class c =
    let p = err_from_is_err_and c.from_residual-in_err-class.result c.from_residual-in_err-class.ensures.1 in
    rw (p.1, p.2) (later_fails _ c.in_err-class.field-0.0 c.in_ok-at.ensures (part_fails _ _ c.in_err-class.field-0.0 c.in_err-class.ensures))

pub returns-in_err-key : goal.returns-in_err-key
unfolding down_at
returns-in_err-key c =
    let p = err_from_is_err_and c.from_residual-in_err-key.result c.from_residual-in_err-key.ensures.1 in
    rw (p.1, p.2) (later_fails _ c.in_err-key.field-0.0 c.in_ok-at.ensures (later_fails _ c.in_err-key.field-0.0 c.in_ok-class.ensures (part_fails _ _ c.in_err-key.field-0.0 c.in_err-key.ensures)))

pub returns-in_err-body : goal.returns-in_err-body
unfolding down_at
returns-in_err-body c =
    let p = err_from_is_err_and c.from_residual-in_err-body.result c.from_residual-in_err-body.ensures.1 in
    rw (p.1, p.2) (later_fails _ c.in_err-body.field-0.0 c.in_ok-at.ensures (later_fails _ c.in_err-body.field-0.0 c.in_ok-class.ensures (later_fails _ c.in_err-body.field-0.0 c.in_ok-key.ensures (part_fails _ _ c.in_err-body.field-0.0 c.in_err-body.ensures))))

pub returns : goal.returns
unfolding down_at
returns c = then_gives _ c.in_ok-at.ensures (then_gives _ c.in_ok-class.ensures (then_gives _ c.in_ok-key.ensures (then_gives _ c.in_ok-body.ensures refl)))

use Rattle.std.proofs.Common.{refl}
use Rattle.std.proofs.lemmas.Result.{err_from_is_err_and}
use Rattle.mace_grammar.specs.inner.Readers.{let_at}
use Rattle.mace_parser.proofs.Parts.{then_gives, part_fails, later_fails}
use Rattle.mace_parser.proofs.reader.Reader.let_stmt.Goals as goal

pub returns-in_err-at : goal.returns-in_err-at
unfolding let_at
returns-in_err-at c =
    let p = err_from_is_err_and c.from_residual.result c.from_residual.ensures.1 in
    rw (p.1, p.2) (part_fails _ _ c.in_err-at.field-0.0 c.in_err-at.ensures)

pub returns-in_err-x : goal.returns-in_err-x
unfolding let_at
returns-in_err-x c =
    let p = err_from_is_err_and c.from_residual-in_err-x.result c.from_residual-in_err-x.ensures.1 in
    rw (p.1, p.2) (later_fails _ c.in_err-x.field-0.0 c.in_ok-at.ensures (part_fails _ _ c.in_err-x.field-0.0 c.in_err-x.ensures))

pub returns-in_err-rest : goal.returns-in_err-rest
unfolding let_at
returns-in_err-rest c =
    let p = err_from_is_err_and c.from_residual-in_err-rest.result c.from_residual-in_err-rest.ensures.1 in
    rw (p.1, p.2) (later_fails _ c.in_err-rest.field-0.0 c.in_ok-at.ensures (later_fails _ c.in_err-rest.field-0.0 c.in_ok-x.ensures (part_fails _ _ c.in_err-rest.field-0.0 c.in_err-rest.ensures)))

pub returns-in_err-value : goal.returns-in_err-value
unfolding let_at
returns-in_err-value c =
    let p = err_from_is_err_and c.from_residual-in_err-value.result c.from_residual-in_err-value.ensures.1 in
    rw (p.1, p.2) (later_fails _ c.in_err-value.field-0.0 c.in_ok-at.ensures (later_fails _ c.in_err-value.field-0.0 c.in_ok-x.ensures (later_fails _ c.in_err-value.field-0.0 c.in_ok-rest.ensures (part_fails _ _ c.in_err-value.field-0.0 c.in_err-value.ensures))))

pub returns-in_err-rest-2 : goal.returns-in_err-rest-2
unfolding let_at
returns-in_err-rest-2 c =
    let p = err_from_is_err_and c.from_residual-in_err-rest-2.result c.from_residual-in_err-rest-2.ensures.1 in
    rw (p.1, p.2) (later_fails _ c.in_err-rest-2.field-0.0 c.in_ok-at.ensures (later_fails _ c.in_err-rest-2.field-0.0 c.in_ok-x.ensures (later_fails _ c.in_err-rest-2.field-0.0 c.in_ok-rest.ensures (later_fails _ c.in_err-rest-2.field-0.0 c.in_ok-value.ensures (part_fails _ _ c.in_err-rest-2.field-0.0 c.in_err-rest-2.ensures)))))

pub returns : goal.returns
unfolding let_at
returns c = then_gives _ c.in_ok-at.ensures (then_gives _ c.in_ok-x.ensures (then_gives _ c.in_ok-rest.ensures (then_gives _ c.in_ok-value.ensures (then_gives _ c.in_ok-rest-2.ensures refl))))

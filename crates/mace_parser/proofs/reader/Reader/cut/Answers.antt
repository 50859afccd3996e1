use Rattle.std.proofs.lemmas.Result.{err_from_is_err_and}
use Rattle.mace_grammar.specs.inner.Readers.{drop_at}
use Rattle.mace_parser.proofs.Parts.{part_fails, later_fails}
use Rattle.mace_parser.proofs.reader.Reader.cut.Goals as goal

pub returns-in_err-at : goal.returns-in_err-at
unfolding drop_at
returns-in_err-at c =
    let p = err_from_is_err_and c.from_residual.result c.from_residual.ensures.1 in
    rw (p.1, p.2) (part_fails _ _ c.in_err-at.field-0.0 c.in_err-at.ensures)

pub returns-in_err-first : goal.returns-in_err-first
unfolding drop_at
returns-in_err-first c =
    let p = err_from_is_err_and c.from_residual-in_err-first.result c.from_residual-in_err-first.ensures.1 in
    rw (p.1, p.2) (later_fails _ c.in_err-first.field-0.0 c.in_ok-at.ensures (part_fails _ _ c.in_err-first.field-0.0 c.in_err-first.ensures))

pub returns-in_err-field : goal.returns-in_err-field
unfolding drop_at
returns-in_err-field c =
    let p = err_from_is_err_and c.from_residual-in_err-field.result c.from_residual-in_err-field.ensures.1 in
    rw (p.1, p.2) (later_fails _ c.in_err-field.field-0.0 c.in_ok-at.ensures (later_fails _ c.in_err-field.field-0.0 c.in_ok-first.ensures (part_fails _ _ c.in_err-field.field-0.0 c.in_err-field.ensures)))

pub returns-in_err-place : goal.returns-in_err-place
unfolding drop_at
returns-in_err-place c =
    let p = err_from_is_err_and c.from_residual-in_err-place.result c.from_residual-in_err-place.ensures.1 in
    rw (p.1, p.2) (later_fails _ c.in_err-place.field-0.0 c.in_ok-at.ensures (later_fails _ c.in_err-place.field-0.0 c.in_ok-first.ensures (later_fails _ c.in_err-place.field-0.0 c.in_ok-field.ensures (part_fails _ _ c.in_err-place.field-0.0 c.in_err-place.ensures))))

pub returns-in_err-rest : goal.returns-in_err-rest
unfolding drop_at
returns-in_err-rest c =
    let p = err_from_is_err_and c.from_residual-in_err-rest.result c.from_residual-in_err-rest.ensures.1 in
    rw (p.1, p.2) (later_fails _ c.in_err-rest.field-0.0 c.in_ok-at.ensures (later_fails _ c.in_err-rest.field-0.0 c.in_ok-first.ensures (later_fails _ c.in_err-rest.field-0.0 c.in_ok-field.ensures (later_fails _ c.in_err-rest.field-0.0 c.in_ok-place.ensures (part_fails _ _ c.in_err-rest.field-0.0 c.in_err-rest.ensures)))))

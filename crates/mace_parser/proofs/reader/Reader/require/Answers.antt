use Rattle.std.proofs.Common.{refl}
use Rattle.std.proofs.lemmas.Result.{err_from_is_err_and}
use Rattle.mace_grammar.specs.inner.Readers.{require_at}
use Rattle.mace_parser.proofs.Parts.{then_gives, part_fails, later_fails}
use Rattle.mace_parser.proofs.reader.Reader.require.Goals as goal

pub returns-in_err-at : goal.returns-in_err-at
unfolding require_at
returns-in_err-at c =
    let p = err_from_is_err_and c.from_residual.result c.from_residual.ensures.1 in
    rw (p.1, p.2) (part_fails _ _ c.in_err-at.field-0.0 c.in_err-at.ensures)

pub returns-in_err-test : goal.returns-in_err-test
unfolding require_at
returns-in_err-test c =
    let p = err_from_is_err_and c.from_residual-in_err-test.result c.from_residual-in_err-test.ensures.1 in
    rw (p.1, p.2) (later_fails _ c.in_err-test.field-0.0 c.in_ok-at.ensures (part_fails _ _ c.in_err-test.field-0.0 c.in_err-test.ensures))

pub returns-in_err-rest : goal.returns-in_err-rest
unfolding require_at
returns-in_err-rest c =
    let p = err_from_is_err_and c.from_residual-in_err-rest.result c.from_residual-in_err-rest.ensures.1 in
    rw (p.1, p.2) (later_fails _ c.in_err-rest.field-0.0 c.in_ok-at.ensures (later_fails _ c.in_err-rest.field-0.0 c.in_ok-test.ensures (part_fails _ _ c.in_err-rest.field-0.0 c.in_err-rest.ensures)))

pub returns : goal.returns
unfolding require_at
returns c = then_gives _ c.in_ok-at.ensures (then_gives _ c.in_ok-test.ensures (then_gives _ c.in_ok-rest.ensures refl))

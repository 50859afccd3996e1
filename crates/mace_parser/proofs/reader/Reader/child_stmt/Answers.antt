use Rattle.std.proofs.Common.{refl}
use Rattle.std.proofs.lemmas.Result.{err_from_is_err_and}
use Rattle.mace_grammar.specs.inner.Readers.{child_stmt_at}
use Rattle.mace_parser.proofs.Parts.{then_gives, part_fails, later_fails}
use Rattle.mace_parser.proofs.reader.Reader.child_stmt.Goals as goal

pub returns-in_err-method : goal.returns-in_err-method
unfolding child_stmt_at
returns-in_err-method c =
    let p = err_from_is_err_and c.from_residual.result c.from_residual.ensures.1 in
    rw (p.1, p.2) (part_fails _ _ c.in_err-method.field-0.0 c.in_err-method.ensures)

pub returns-in_err-args : goal.returns-in_err-args
unfolding child_stmt_at
returns-in_err-args c =
    let p = err_from_is_err_and c.from_residual-in_err-args.result c.from_residual-in_err-args.ensures.1 in
    rw (p.1, p.2) (later_fails _ c.in_err-args.field-0.0 c.in_ok-method.ensures (part_fails _ _ c.in_err-args.field-0.0 c.in_err-args.ensures))

pub returns-in_err-rest : goal.returns-in_err-rest
unfolding child_stmt_at
returns-in_err-rest c =
    let p = err_from_is_err_and c.from_residual-in_err-rest.result c.from_residual-in_err-rest.ensures.1 in
    rw (p.1, p.2) (later_fails _ c.in_err-rest.field-0.0 c.in_ok-method.ensures (later_fails _ c.in_err-rest.field-0.0 c.in_ok-args.ensures (part_fails _ _ c.in_err-rest.field-0.0 c.in_err-rest.ensures)))

pub returns : goal.returns
unfolding child_stmt_at
returns c = then_gives _ c.in_ok-method.ensures (then_gives _ c.in_ok-args.ensures (then_gives _ c.in_ok-rest.ensures refl))

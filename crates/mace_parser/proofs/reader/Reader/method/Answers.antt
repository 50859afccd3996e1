use Rattle.std.proofs.Common.{refl}
use Rattle.std.proofs.lemmas.Result.{err_from_is_err_and}
use Rattle.mace_grammar.specs.inner.Readers.{method_at}
use Rattle.mace_parser.proofs.Parts.{then_gives, part_fails, later_fails}
use Rattle.mace_parser.proofs.reader.Reader.method.Goals as goal

pub returns-in_err-at : goal.returns-in_err-at
unfolding method_at
returns-in_err-at c =
    let p = err_from_is_err_and c.from_residual.result c.from_residual.ensures.1 in
    rw (p.1, p.2) (part_fails _ _ c.in_err-at.field-0.0 c.in_err-at.ensures)

pub returns-in_err-name : goal.returns-in_err-name
unfolding method_at
returns-in_err-name c =
    let p = err_from_is_err_and c.from_residual-in_err-name.result c.from_residual-in_err-name.ensures.1 in
    rw (p.1, p.2) (later_fails _ c.in_err-name.field-0.0 c.in_ok-at.ensures (part_fails _ _ c.in_err-name.field-0.0 c.in_err-name.ensures))

pub returns-in_err-params : goal.returns-in_err-params
unfolding method_at
returns-in_err-params c =
    let p = err_from_is_err_and c.from_residual-in_err-params.result c.from_residual-in_err-params.ensures.1 in
    rw (p.1, p.2) (later_fails _ c.in_err-params.field-0.0 c.in_ok-at.ensures (later_fails _ c.in_err-params.field-0.0 c.in_ok-name.ensures (part_fails _ _ c.in_err-params.field-0.0 c.in_err-params.ensures)))

pub returns-in_err-kind : goal.returns-in_err-kind
unfolding method_at
returns-in_err-kind c =
    let p = err_from_is_err_and c.from_residual-in_err-kind.result c.from_residual-in_err-kind.ensures.1 in
    rw (p.1, p.2) (later_fails _ c.in_err-kind.field-0.0 c.in_ok-at.ensures (later_fails _ c.in_err-kind.field-0.0 c.in_ok-name.ensures (later_fails _ c.in_err-kind.field-0.0 c.in_ok-params.ensures (part_fails _ _ c.in_err-kind.field-0.0 c.in_err-kind.ensures))))

pub returns-in_err-rest : goal.returns-in_err-rest
unfolding method_at
returns-in_err-rest c =
    let p = err_from_is_err_and c.from_residual-in_err-rest.result c.from_residual-in_err-rest.ensures.1 in
    rw (p.1, p.2) (later_fails _ c.in_err-rest.field-0.0 c.in_ok-at.ensures (later_fails _ c.in_err-rest.field-0.0 c.in_ok-name.ensures (later_fails _ c.in_err-rest.field-0.0 c.in_ok-params.ensures (later_fails _ c.in_err-rest.field-0.0 c.in_ok-kind.ensures (part_fails _ _ c.in_err-rest.field-0.0 c.in_err-rest.ensures)))))

pub returns-in_err-body : goal.returns-in_err-body
unfolding method_at
returns-in_err-body c =
    let p = err_from_is_err_and c.from_residual-in_err-body.result c.from_residual-in_err-body.ensures.1 in
    rw (p.1, p.2) (later_fails _ c.in_err-body.field-0.0 c.in_ok-at.ensures (later_fails _ c.in_err-body.field-0.0 c.in_ok-name.ensures (later_fails _ c.in_err-body.field-0.0 c.in_ok-params.ensures (later_fails _ c.in_err-body.field-0.0 c.in_ok-kind.ensures (later_fails _ c.in_err-body.field-0.0 c.in_ok-rest.ensures (part_fails _ _ c.in_err-body.field-0.0 c.in_err-body.ensures))))))

pub returns-in_err-last : goal.returns-in_err-last
unfolding method_at
returns-in_err-last c =
    let p = err_from_is_err_and c.from_residual-in_err-last.result c.from_residual-in_err-last.ensures.1 in
    rw (p.1, p.2) (later_fails _ c.in_err-last.field-0.0 c.in_ok-at.ensures (later_fails _ c.in_err-last.field-0.0 c.in_ok-name.ensures (later_fails _ c.in_err-last.field-0.0 c.in_ok-params.ensures (later_fails _ c.in_err-last.field-0.0 c.in_ok-kind.ensures (later_fails _ c.in_err-last.field-0.0 c.in_ok-rest.ensures (later_fails _ c.in_err-last.field-0.0 c.in_ok-body.ensures (part_fails _ _ c.in_err-last.field-0.0 c.in_err-last.ensures)))))))

pub returns-in_err-rest-2 : goal.returns-in_err-rest-2
unfolding method_at
returns-in_err-rest-2 c =
    let p = err_from_is_err_and c.from_residual-in_err-rest-2.result c.from_residual-in_err-rest-2.ensures.1 in
    rw (p.1, p.2) (later_fails _ c.in_err-rest-2.field-0.0 c.in_ok-at.ensures (later_fails _ c.in_err-rest-2.field-0.0 c.in_ok-name.ensures (later_fails _ c.in_err-rest-2.field-0.0 c.in_ok-params.ensures (later_fails _ c.in_err-rest-2.field-0.0 c.in_ok-kind.ensures (later_fails _ c.in_err-rest-2.field-0.0 c.in_ok-rest.ensures (later_fails _ c.in_err-rest-2.field-0.0 c.in_ok-body.ensures (later_fails _ c.in_err-rest-2.field-0.0 c.in_ok-last.ensures (part_fails _ _ c.in_err-rest-2.field-0.0 c.in_err-rest-2.ensures))))))))

pub returns : goal.returns
unfolding method_at
returns c = then_gives _ c.in_ok-at.ensures (then_gives _ c.in_ok-name.ensures (then_gives _ c.in_ok-params.ensures (then_gives _ c.in_ok-kind.ensures (then_gives _ c.in_ok-rest.ensures (then_gives _ c.in_ok-body.ensures (then_gives _ c.in_ok-last.ensures (then_gives _ c.in_ok-rest-2.ensures refl)))))))

use Rattle.std.proofs.Common.{refl}
use Rattle.std.proofs.lemmas.Result.{err_from_is_err_and}
use Rattle.mace_grammar.specs.inner.Readers.{event_at}
use Rattle.mace_parser.proofs.Parts.{then_gives, part_fails, later_fails}
use Rattle.mace_parser.proofs.reader.Reader.event.Goals as goal

pub returns-in_err-at : goal.returns-in_err-at
unfolding event_at
returns-in_err-at c =
    let p = err_from_is_err_and c.from_residual.result c.from_residual.ensures.1 in
    rw (p.1, p.2) (part_fails _ _ c.in_err-at.field-0.0 c.in_err-at.ensures)

pub returns-in_err-name : goal.returns-in_err-name
unfolding event_at
returns-in_err-name c =
    let p = err_from_is_err_and c.from_residual-in_err-name.result c.from_residual-in_err-name.ensures.1 in
    rw (p.1, p.2) (later_fails _ c.in_err-name.field-0.0 c.in_ok-at.ensures (part_fails _ _ c.in_err-name.field-0.0 c.in_err-name.ensures))

pub returns-in_err-params : goal.returns-in_err-params
unfolding event_at
returns-in_err-params c =
    let p = err_from_is_err_and c.from_residual-in_err-params.result c.from_residual-in_err-params.ensures.1 in
    rw (p.1, p.2) (later_fails _ c.in_err-params.field-0.0 c.in_ok-at.ensures (later_fails _ c.in_err-params.field-0.0 c.in_ok-name.ensures (part_fails _ _ c.in_err-params.field-0.0 c.in_err-params.ensures)))

pub returns-in_err-kind : goal.returns-in_err-kind
unfolding event_at
returns-in_err-kind c =
    let p = err_from_is_err_and c.from_residual-in_err-kind.result c.from_residual-in_err-kind.ensures.1 in
    rw (p.1, p.2) (later_fails _ c.in_err-kind.field-0.0 c.in_ok-at.ensures (later_fails _ c.in_err-kind.field-0.0 c.in_ok-name.ensures (later_fails _ c.in_err-kind.field-0.0 c.in_ok-params.ensures (part_fails _ _ c.in_err-kind.field-0.0 c.in_err-kind.ensures))))

pub returns-in_err-rest : goal.returns-in_err-rest
unfolding event_at
returns-in_err-rest c =
    let p = err_from_is_err_and c.from_residual-in_err-rest.result c.from_residual-in_err-rest.ensures.1 in
    rw (p.1, p.2) (later_fails _ c.in_err-rest.field-0.0 c.in_ok-at.ensures (later_fails _ c.in_err-rest.field-0.0 c.in_ok-name.ensures (later_fails _ c.in_err-rest.field-0.0 c.in_ok-params.ensures (later_fails _ c.in_err-rest.field-0.0 c.in_ok-kind.ensures (part_fails _ _ c.in_err-rest.field-0.0 c.in_err-rest.ensures)))))

pub returns-in_err-here : goal.returns-in_err-here
unfolding event_at
returns-in_err-here c =
    let p = err_from_is_err_and c.from_residual-in_err-here.result c.from_residual-in_err-here.ensures.1 in
    rw (p.1, p.2) (later_fails _ c.in_err-here.field-0.0 c.in_ok-at.ensures (later_fails _ c.in_err-here.field-0.0 c.in_ok-name.ensures (later_fails _ c.in_err-here.field-0.0 c.in_ok-params.ensures (later_fails _ c.in_err-here.field-0.0 c.in_ok-kind.ensures (later_fails _ c.in_err-here.field-0.0 c.in_ok-rest.ensures (part_fails _ _ c.in_err-here.field-0.0 c.in_err-here.ensures))))))

pub returns-in_err-phases : goal.returns-in_err-phases
unfolding event_at
returns-in_err-phases c =
    let p = err_from_is_err_and c.from_residual-in_err-phases.result c.from_residual-in_err-phases.ensures.1 in
    rw (p.1, p.2) (later_fails _ c.in_err-phases.field-0.0 c.in_ok-at.ensures (later_fails _ c.in_err-phases.field-0.0 c.in_ok-name.ensures (later_fails _ c.in_err-phases.field-0.0 c.in_ok-params.ensures (later_fails _ c.in_err-phases.field-0.0 c.in_ok-kind.ensures (later_fails _ c.in_err-phases.field-0.0 c.in_ok-rest.ensures (later_fails _ c.in_err-phases.field-0.0 c.in_ok-here.ensures (part_fails _ _ c.in_err-phases.field-0.0 c.in_err-phases.ensures)))))))

pub returns-in_err-last : goal.returns-in_err-last
unfolding event_at
returns-in_err-last c =
    let p = err_from_is_err_and c.from_residual-in_err-last.result c.from_residual-in_err-last.ensures.1 in
    rw (p.1, p.2) (later_fails _ c.in_err-last.field-0.0 c.in_ok-at.ensures (later_fails _ c.in_err-last.field-0.0 c.in_ok-name.ensures (later_fails _ c.in_err-last.field-0.0 c.in_ok-params.ensures (later_fails _ c.in_err-last.field-0.0 c.in_ok-kind.ensures (later_fails _ c.in_err-last.field-0.0 c.in_ok-rest.ensures (later_fails _ c.in_err-last.field-0.0 c.in_ok-here.ensures (later_fails _ c.in_err-last.field-0.0 c.in_ok-phases.ensures (part_fails _ _ c.in_err-last.field-0.0 c.in_err-last.ensures))))))))

pub returns-in_err-rest-2 : goal.returns-in_err-rest-2
unfolding event_at
returns-in_err-rest-2 c =
    let p = err_from_is_err_and c.from_residual-in_err-rest-2.result c.from_residual-in_err-rest-2.ensures.1 in
    rw (p.1, p.2) (later_fails _ c.in_err-rest-2.field-0.0 c.in_ok-at.ensures (later_fails _ c.in_err-rest-2.field-0.0 c.in_ok-name.ensures (later_fails _ c.in_err-rest-2.field-0.0 c.in_ok-params.ensures (later_fails _ c.in_err-rest-2.field-0.0 c.in_ok-kind.ensures (later_fails _ c.in_err-rest-2.field-0.0 c.in_ok-rest.ensures (later_fails _ c.in_err-rest-2.field-0.0 c.in_ok-here.ensures (later_fails _ c.in_err-rest-2.field-0.0 c.in_ok-phases.ensures (later_fails _ c.in_err-rest-2.field-0.0 c.in_ok-last.ensures (part_fails _ _ c.in_err-rest-2.field-0.0 c.in_err-rest-2.ensures)))))))))

pub returns : goal.returns
unfolding event_at
returns c = then_gives _ c.in_ok-at.ensures (then_gives _ c.in_ok-name.ensures (then_gives _ c.in_ok-params.ensures (then_gives _ c.in_ok-kind.ensures (then_gives _ c.in_ok-rest.ensures (then_gives _ c.in_ok-here.ensures (then_gives _ c.in_ok-phases.ensures (then_gives _ c.in_ok-last.ensures (then_gives _ c.in_ok-rest-2.ensures refl))))))))

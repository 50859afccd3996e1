use Rattle.std.proofs.Common.{refl}
use Rattle.std.proofs.lemmas.Result.{err_from_is_err_and}
use Rattle.mace_grammar.specs.inner.Readers.{spawn_at}
use Rattle.mace_parser.proofs.Parts.{then_gives, part_fails, later_fails}
use Rattle.mace_parser.proofs.reader.Reader.spawn.Goals as goal

pub returns-in_err-at : goal.returns-in_err-at
unfolding spawn_at
returns-in_err-at c =
    let p = err_from_is_err_and c.from_residual.result c.from_residual.ensures.1 in
    rw (p.1, p.2) (part_fails _ _ c.in_err-at.field-0.0 c.in_err-at.ensures)

pub returns-in_err-event : goal.returns-in_err-event
unfolding spawn_at
returns-in_err-event c =
    let p = err_from_is_err_and c.from_residual-in_err-event.result c.from_residual-in_err-event.ensures.1 in
    rw (p.1, p.2) (later_fails _ c.in_err-event.field-0.0 c.in_ok-at.ensures (part_fails _ _ c.in_err-event.field-0.0 c.in_err-event.ensures))

pub returns-in_err-args : goal.returns-in_err-args
unfolding spawn_at
returns-in_err-args c =
    let p = err_from_is_err_and c.from_residual-in_err-args.result c.from_residual-in_err-args.ensures.1 in
    rw (p.1, p.2) (later_fails _ c.in_err-args.field-0.0 c.in_ok-at.ensures (later_fails _ c.in_err-args.field-0.0 c.in_ok-event.ensures (part_fails _ _ c.in_err-args.field-0.0 c.in_err-args.ensures)))

pub returns-in_err-rest : goal.returns-in_err-rest
unfolding spawn_at
returns-in_err-rest c =
    let p = err_from_is_err_and c.from_residual-in_err-rest.result c.from_residual-in_err-rest.ensures.1 in
    rw (p.1, p.2) (later_fails _ c.in_err-rest.field-0.0 c.in_ok-at.ensures (later_fails _ c.in_err-rest.field-0.0 c.in_ok-event.ensures (later_fails _ c.in_err-rest.field-0.0 c.in_ok-args.ensures (part_fails _ _ c.in_err-rest.field-0.0 c.in_err-rest.ensures))))

pub returns : goal.returns
unfolding spawn_at
returns c = then_gives _ c.in_ok-at.ensures (then_gives _ c.in_ok-event.ensures (then_gives _ c.in_ok-args.ensures (then_gives _ c.in_ok-rest.ensures refl)))

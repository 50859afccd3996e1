use Rattle.wave_effects.proofs.Freer.{first_stands}
use Rattle.wave_effects.proofs.first.first_entry.Goals as goal

pub returns-clause-entry : goal.returns-clause-entry
returns-clause-entry c = λ program shape_is.
    let new = c.new-entry.ensures in
    first_stands program c.args.shape.now c.args.path.now c.in_ok-first_record.field-0 c.new-entry.result c.reserve.new.self shape_is c.in_ok-first_record.ensures.fields c.in_ok-first_record.ensures.children new.body new.holder new.peeks new.served new.waiting new.moves c.reserve.ensures.same

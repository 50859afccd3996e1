use Rattle.wave_effects.specs.Keeping.{kept_of}
use Rattle.wave_machine.proofs.Near.{own_one, own_two}
use Rattle.wave_machine.proofs.renewing.relist_own.Goals as goal

pub returns-then-number-ne0-clause-relists : goal.returns-then-number-ne0-clause-relists
returns-then-number-ne0-clause-relists c =
    let old = c.args.index.now.items in
    let mid = c.relist_status.new.index.items in
    own_two (kept_of c.args.engine.now) c.args.ticket.0 c.args.number c.args.asked old mid c.relist_slot.new.index.items c.relist_status.ensures.relists c.relist_slot.ensures.relists

pub returns-else-number-ne0-clause-relists : goal.returns-else-number-ne0-clause-relists
returns-else-number-ne0-clause-relists c = own_one (kept_of c.args.engine.now) c.args.ticket.0 c.args.number c.args.asked c.args.index.now.items c.relist_status.new.index.items c.if-number-ne0.false c.relist_status.ensures.relists

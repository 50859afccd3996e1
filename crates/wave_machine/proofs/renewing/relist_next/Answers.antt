use Rattle.std.proofs.Common.{sym, subst}
use Rattle.std.specs.Prelude.{option_map}
use Rattle.wave_base.specs.declared.numbers.Ticket.{Ticket}
use Rattle.wave_effects.specs.Keeping.{kept_of}
use Rattle.wave_machine.specs.inner.Index.{RelistsNext}
use Rattle.wave_machine.proofs.Renewed.{next_none, next_some}
use Rattle.wave_machine.proofs.renewing.relist_next.Goals as goal

pub returns-in-Some-clause-relists : goal.returns-in-Some-clause-relists
returns-in-Some-clause-relists c =
    let m = kept_of c.args.engine.now in
    let old = c.args.index.now.items in
    let new = c.relist_slot.new.index.items in
    subst (λ o. RelistsNext m (option_map (λ (n : Ticket). n.0) o) old new) (sym c.in-Some.is) (next_some m c.in-Some.ticket.0 old new c.relist_slot.ensures.relists)

pub returns-in-None-clause-relists : goal.returns-in-None-clause-relists
returns-in-None-clause-relists c =
    let m = kept_of c.args.engine.now in
    let old = c.args.index.now.items in
    subst (λ o. RelistsNext m (option_map (λ (n : Ticket). n.0) o) old old) (sym c.in-None.is) (next_none m old)

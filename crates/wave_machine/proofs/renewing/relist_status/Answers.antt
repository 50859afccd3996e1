use Rattle.std.proofs.Common.{◌∙◌, Bool, sym, subst}
use Rattle.wave_effects.specs.Keeping.{kept_of}
use Rattle.wave_machine.specs.inner.Index.{RelistsStatus}
use Rattle.wave_machine.proofs.Near.{status_all, status_none}
use Rattle.wave_machine.proofs.renewing.relist_status.Goals as goal

pub returns-then-asked-clause-relists : goal.returns-then-asked-clause-relists
returns-then-asked-clause-relists c = status_all (kept_of c.args.engine.now) c.args.ticket.0 c.args.asked c.args.index.now.items c.relist_slot.new.index.items c.relist_slot.ensures.relists

pub returns-then-asks_at-clause-relists : goal.returns-then-asks_at-clause-relists
returns-then-asks_at-clause-relists c = subst (λ (b : Bool). RelistsStatus (kept_of c.args.engine.now) c.args.ticket.0 b c.args.index.now.items c.list_status.new.index.items) (sym c.if-asked.false) c.list_status.ensures.relists

pub returns-else-asks_at-clause-relists : goal.returns-else-asks_at-clause-relists
returns-else-asks_at-clause-relists c = status_none (kept_of c.args.engine.now) c.args.ticket.0 c.args.asked c.args.index.now.items c.if-asked.false (sym c.asks_at.ensures ∙ c.if-asks_at.false)

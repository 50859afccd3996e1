use Rattle.std.proofs.Common.{◌≡◌, ◌++◌, ◌-◌, List, map, sym, subst}
use Rattle.wave_states.specs.Labels.{Label}
use Rattle.wave_effects.specs.Keeping.{kept_of}
use Rattle.wave_machine.specs.inner.Asking.{in_order}
use Rattle.wave_machine.specs.inner.Index.{Goes, by_none}
use Rattle.wave_machine.proofs.Owned.{cell_there}
use Rattle.wave_machine.proofs.Renewed.{relists_at, relists_none}
use Rattle.wave_machine.proofs.renewing.relist_slot.Goals as goal

pub returns-in-Some-clause-relists : goal.returns-in-Some-clause-relists
returns-in-Some-clause-relists c =
    let m = kept_of c.args.engine.now in
    let t = c.args.ticket.0 in
    let k = c.args.number in
    let cell = c.in-Some.cell.now in
    let at = sym c.in-Some.ensures in
    let there = cell_there m t cell at in
    let mid = c.cut_slot.new.index.items in
    let new = c.put_some.new.index.items in
    relists_at m t k cell at c.args.index.now.items mid new c.cut_slot.ensures.cuts
    (subst (λ (ls : List Label). (u v : List Label) → Goes ls u v → map by_none mid ≡ in_order (u ++ v) → map by_none new ≡ in_order ((u ++ ls) ++ v)) c.slot_label.ensures c.put_some.ensures.parts)
    (c.requires.listable.numbered (t - m.first) cell there.at)

pub returns-in-None-clause-relists : goal.returns-in-None-clause-relists
returns-in-None-clause-relists c = relists_none (kept_of c.args.engine.now) c.args.ticket.0 c.args.number c.args.index.now.items (sym c.in-None.ensures)

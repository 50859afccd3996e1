use Rattle.std.proofs.Common.{◌≡◌, ◌∙◌, ◌++◌, ◌-◌, false, List, map, sym, ap, subst}
use Rattle.wave_states.specs.Labels.{Label}
use Rattle.event_cells.specs.declared.status.Status.{Status}
use Rattle.wave_effects.specs.Keeping.{kept_of}
use Rattle.wave_machine.specs.inner.Asking.{in_order, status_labels}
use Rattle.wave_machine.specs.inner.Index.{Goes, by_none}
use Rattle.wave_machine.proofs.Owned.{cell_there}
use Rattle.wave_machine.proofs.Renewed.{relists_none, status_put}
use Rattle.wave_machine.proofs.Near.{status_all}
use Rattle.wave_machine.proofs.renewing.list_status.Goals as goal

pub returns-in-Some-clause-relists : goal.returns-in-Some-clause-relists
returns-in-Some-clause-relists c =
    let m = kept_of c.args.engine.now in
    let t = c.args.ticket.0 in
    let cell = c.in-Some.cell.now in
    let at = sym c.in-Some.ensures in
    let old = c.args.index.now.items in
    let new = c.put_some.new.index.items in
    let asks = c.status_label.ensures ∙ ap (λ (s : Status). status_labels m.stores 0 t s) c.status.ensures in
    status_put m t cell at old new
    (subst (λ (ls : List Label). (u v : List Label) → Goes ls u v → map by_none old ≡ in_order (u ++ v) → map by_none new ≡ in_order ((u ++ ls) ++ v)) asks c.put_some.ensures.parts)

pub returns-in-None-clause-relists : goal.returns-in-None-clause-relists
returns-in-None-clause-relists c =
    let m = kept_of c.args.engine.now in
    let old = c.args.index.now.items in
    status_all m c.args.ticket.0 false old old (relists_none m c.args.ticket.0 0 old (sym c.in-None.ensures))

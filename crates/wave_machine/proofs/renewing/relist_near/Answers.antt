use Rattle.std.proofs.Common.{◌∙◌, ap, subst}
use Rattle.std.specs.Prelude.{option_map, slice_get}
use Rattle.wave_base.specs.declared.numbers.Ticket.{Ticket}
use Rattle.wave_labels.specs.Labels.{act_of}
use Rattle.wave_states.specs.Labels.{path_of}
use Rattle.wave_effects.specs.Keeping.{kept_of}
use Rattle.wave_machine.specs.inner.Index.{RelistsBoth, RelistsNear, act_number}
use Rattle.wave_machine.specs.inner.Updating.{next_at}
use Rattle.wave_machine.specs.inner.Others.{but}
use Rattle.wave_machine.proofs.Near.{near}
use Rattle.wave_machine.proofs.renewing.relist_near.Goals as goal

pub returns-clause-relists : goal.returns-clause-relists
returns-clause-relists c =
    let m = kept_of c.args.engine.now in
    let act = act_of c.args.label.now.act in
    let t = c.ticket_of-ticket.result.0 in
    let k = c.act_number.result in
    let n = c.args.seen.sent in
    let asked = c.args.seen.asked in
    let before = option_map (λ (x : Ticket). x.0) c.args.seen.next in
    let store = slice_get c.args.engine.now.stores.items c.args.label.now.host.0 in
    let after = next_at (path_of act) store in
    let old = c.args.index.now.items in
    let one = c.relist_own.new.index.items in
    let two = c.list_new.new.index.items in
    let new = c.relist_both.new.index.items in
    subst (λ u. RelistsNear m u (act_number act) n asked before (next_at (path_of act) store) old new) c.ticket_of-ticket.ensures
    (subst (λ j. RelistsNear m t j n asked before (next_at (path_of act) store) old new) c.act_number.ensures
    (near m t k n asked before after old one two new c.relist_own.ensures.relists c.list_new.ensures.lists
    (subst (λ o. RelistsBoth m o (but t after) two new) c.other.ensures
    (subst (λ o. RelistsBoth m (option_map (λ (x : Ticket). x.0) c.other.result) o two new) (c.other-2.ensures ∙ ap (but t) c.requires.next) c.relist_both.ensures.relists))))

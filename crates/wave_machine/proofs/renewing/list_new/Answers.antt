use Rattle.std.proofs.Common.{◌≡◌, ◌∙◌, ◌<◌, ◌≤◌, ◌-◌, ◌+◌, Some, length, take, drop, sym, ap, subst, arith, length-drop}
use Rattle.std.specs.Prelude.{flat_map}
use Rattle.std.specs.List.{AllByRecursion}
use Rattle.std.specs.List.Sorted.{IsStrictlySortedBy}
use Rattle.std.specs.Map.{keys_of}
use Rattle.std.specs.Ordering.{nat_cmp}
use Rattle.wave_base.specs.Fold.{tickets_from}
use Rattle.event_cells.specs.Keeps.{mail_in}
use Rattle.wave_effects.specs.Keeping.{kept_of}
use Rattle.wave_machine.specs.inner.Asking.{mail_labels}
use Rattle.wave_machine.specs.inner.Index.{Lists, share_by}
use Rattle.wave_machine.proofs.Owned.{cell_there}
use Rattle.wave_machine.proofs.Renewed.{above_asked, mails_share, new_at, new_none, rest_is, sorted_drop}
use Rattle.wave_machine.proofs.Weighing.{share_within}
use Rattle.wave_machine.proofs.renewing.list_new.Goals as goal

pub list_mails-requires-clause-room : goal.list_mails-requires-clause-room
list_mails-requires-clause-room c =
    let m = kept_of c.args.engine.now in
    let mails = c.mails-mails.result.now in
    let f = c.first_above.result in
    let rest = ap length (rest_is mails f) in
    let some = length-drop f mails in
    let same = ap length c.mails-mails.ensures.mails in
    let few = mails_share c.in-Some.cell.now in
    let is = ap share_by (sym c.in-Some.ensures) in
    let less = share_within m c.args.ticket.0 in
    let room = c.requires.room in
    omega (arith, rest, some, same, few, is, less, room)

pub list_mails-requires-clause-ordered : goal.list_mails-requires-clause-ordered
list_mails-requires-clause-ordered c =
    let mails = c.mails-mails.result.now in
    let f = c.first_above.result in
    subst (λ ms. IsStrictlySortedBy nat_cmp (keys_of ms)) (sym (rest_is mails f)) (sorted_drop f mails c.mails-mails.ensures.ordered)

pub returns-in-Some-clause-lists : goal.returns-in-Some-clause-lists
returns-in-Some-clause-lists c =
    let m = kept_of c.args.engine.now in
    let t = c.args.ticket.0 in
    let n = c.args.sent in
    let cell = c.in-Some.cell.now in
    let at = sym c.in-Some.ensures in
    let there = cell_there m t cell at in
    let box = cell.outbox in
    let mails = c.mails-mails.result.now in
    let f = c.first_above.result in
    let same = c.mails-mails.ensures.mails in
    let numbered = c.requires.listable.numbered (t - m.first) cell there.at in
    let sorted : IsStrictlySortedBy nat_cmp (keys_of box.mails) = subst (λ ms. IsStrictlySortedBy nat_cmp (keys_of ms)) same c.mails-mails.ensures.ordered in
    let above : AllByRecursion (λ e. n < e.0) (drop f box.mails) = subst (λ ms. AllByRecursion (λ e. n < e.0) (drop f ms)) same c.first_above.ensures.above in
    let below : AllByRecursion (λ e. e.0 ≤ n) (take f box.mails) = subst (λ ms. AllByRecursion (λ e. e.0 ≤ n) (take f ms)) same (c.first_above.ensures.below c.mails-mails.ensures.ordered) in
    let old = c.args.index.now.items in
    let new = c.list_mails.new.index.items in
    let labels = flat_map (λ e. mail_labels m.stores 0 t e.0 (Some e.1)) (drop f mails) in
    let are : labels ≡ flat_map (λ k. mail_labels m.stores 0 t k (mail_in box.mails k)) (tickets_from (n + 1) (box.sent - n)) =
    ap (λ ms. flat_map (λ e. mail_labels m.stores 0 t e.0 (Some e.1)) (drop f ms)) same ∙ above_asked m.stores t box numbered sorted n f above below in
    let rest = rest_is mails f in
    let lists : Lists t (n + 1) old new labels =
    subst (λ ms. Lists t (n + 1) old new (flat_map (λ e. mail_labels m.stores 0 t e.0 (Some e.1)) ms)) rest
    (c.list_mails.ensures.lists n (subst (λ ms. AllByRecursion (λ e. n < e.0) ms) (sym rest) c.first_above.ensures.above)) in
    new_at m t n cell at old new labels are lists

pub returns-in-Some-clause-len : goal.returns-in-Some-clause-len
returns-in-Some-clause-len c =
    let m = kept_of c.args.engine.now in
    let mails = c.mails-mails.result.now in
    let f = c.first_above.result in
    let rest = ap length (rest_is mails f) in
    let some = length-drop f mails in
    let same = ap length c.mails-mails.ensures.mails in
    let few = mails_share c.in-Some.cell.now in
    let is = ap share_by (sym c.in-Some.ensures) in
    let less = share_within m c.args.ticket.0 in
    let len = c.list_mails.ensures.len in
    omega (arith, rest, some, same, few, is, less, len)

pub returns-in-None-clause-lists : goal.returns-in-None-clause-lists
returns-in-None-clause-lists c = new_none (kept_of c.args.engine.now) c.args.ticket.0 c.args.sent c.args.index.now.items (sym c.in-None.ensures)

use Rattle.std.proofs.Common.{◌≡◌, ◌∙◌, ◌<◌, ◌+◌, Some, take, refl, sym, subst, arith}
use Rattle.std.specs.Prelude.{slice_get}
use Rattle.std.proofs.lemmas.Option.{slice_get_read}
use Rattle.wave_machine.specs.inner.Asking.{labels_in, mail_labels}
use Rattle.wave_machine.specs.inner.Index.{Lists}
use Rattle.wave_machine.proofs.Owned.{few_in, flat_take, flat_whole}
use Rattle.wave_machine.proofs.Relisted.{lists_more, lists_none, lists_put}
use Rattle.wave_machine.proofs.Renewed.{all_at, before_it, mails_below, own_mail_at}
use Rattle.wave_machine.proofs.renewing.list_mails.Goals as goal

pub loop-mail-init : goal.loop-mail-init
loop-mail-init c = record { lists = λ low a. lists_none c.args.ticket.0 (low + 1) c.args.index.now.items; len = omega arith; capacity = refl }

pub loop-mail-preserved : goal.loop-mail-preserved
loop-mail-preserved c =
    let stores = c.args.engine.now.stores.items in
    let t = c.args.ticket.0 in
    let ms = c.args.mails.now in
    let i = c.loop-mail.mail-index in
    let item = c.mail-item.result in
    let at : slice_get ms i ≡ Some item = slice_get_read ms _ i item refl c.loop-mail-test.true c.mail-item.is in
    let told = c.mail_label.ensures in
    let is = c.mail-item.is in
    let labels = mail_labels stores 0 t item.0 (Some item.1) in
    let same : labels_in c.mail_label.result ≡ labels = cc in
    let few = few_in c.mail_label.result in
    let old = c.args.index.now.items in
    let mid = c.loop-mail.index.items in
    let new = c.put_some.new.index.items in
    record {
      lists = λ low above.
          let past : low < item.0 = all_at (λ m. low < m.0) ms i item at above in
          subst (Lists t (low + 1) old new) (sym (flat_take (λ m. mail_labels stores 0 t m.0 (Some m.1)) ms i item at))
          (lists_more t (low + 1) item.0 old mid new _ labels (omega (arith, past)) (mails_below stores t low item.0 (take i ms) (before_it low ms i item at c.requires.ordered above)) (c.loop-mail.invariant.lists low above)
          (lists_put t item.0 mid new c.mail_label.result labels same (own_mail_at stores t item.0 (omega (arith, past)) (Some item.1)) c.put_some.ensures.parts));
      len = omega (arith, few, c.put_some.ensures.len, c.loop-mail.invariant.len);
      capacity = c.put_some.ensures.capacity ∙ c.loop-mail.invariant.capacity;
    }

pub returns-clause-lists : goal.returns-clause-lists
returns-clause-lists c = λ low above.
    let t = c.args.ticket.0 in
    subst (Lists t (low + 1) c.args.index.now.items c.loop-mail.index.items) (flat_whole (λ m. mail_labels c.args.engine.now.stores.items 0 t m.0 (Some m.1)) c.args.mails.now c.loop-mail.mail-index c.loop-mail-test.false) (c.loop-mail.invariant.lists low above)

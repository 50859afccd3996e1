use Rattle.std.proofs.Common.{◌≡◌, ◌∙◌, inl, inr, ◌+◌, true, Some, length, refl, arith}
use Rattle.std.specs.Prelude.{slice_get}
use Rattle.std.proofs.lemmas.Option.{slice_get_read}
use Rattle.wave_effects.specs.Keeping.{kept_of}
use Rattle.wave_machine.specs.inner.Index.{IsAmong, is_enter}
use Rattle.wave_machine.proofs.Entering.{among_less, among_more, among_none, renews_less, renews_more, renews_none}
use Rattle.wave_machine.proofs.renewing.relist_entering.Goals as goal

pub loop-mail-init : goal.loop-mail-init
loop-mail-init c =
    let m = kept_of c.args.engine.now in
    let t = c.args.ticket.0 in
    let h = c.args.host.0 in
    let p = c.args.path.now in
    let ms = c.args.mails.now in
    record { renews = renews_none m (λ u j. (u ≡ t) × IsAmong h p ms 0 j) (λ u j z. among_none h p ms j z.1) c.args.index.now.items; len = omega arith; capacity = refl }

pub loop-mail-preserved : goal.loop-mail-preserved
loop-mail-preserved c =
    let m = kept_of c.args.engine.now in
    let t = c.args.ticket.0 in
    let h = c.args.host.0 in
    let p = c.args.path.now in
    let ms = c.args.mails.now in
    let i = c.loop-mail.mail-index in
    let item = c.mail-item.result in
    let at : slice_get ms i ≡ Some item = slice_get_read ms _ i item refl c.loop-mail-test.true c.mail-item.is in
    record {
      renews = renews_more m (λ u j. (u ≡ t) × IsAmong h p ms i j) (λ u j. (c.is_enter.result ≡ true) × ((u ≡ t) × (j ≡ item.0))) (λ u j. (u ≡ t) × IsAmong h p ms (i + 1) j)
          (λ u j z. elim (among_more h p ms i j item at z.1) [ inl before ↦ inl (z.0, before) | inr last ↦ inr (c.is_enter.ensures ∙ last.1, (z.0, last.0)) ])
          c.args.index.now.items c.loop-mail.index.items c.relist_if.new.index.items c.loop-mail.invariant.renews c.relist_if.ensures.renews;
      len = omega (arith, c.relist_if.ensures.len, c.loop-mail.invariant.len);
      capacity = c.relist_if.ensures.capacity ∙ c.loop-mail.invariant.capacity;
    }

pub returns-clause-renews : goal.returns-clause-renews
returns-clause-renews c =
    let m = kept_of c.args.engine.now in
    let t = c.args.ticket.0 in
    let h = c.args.host.0 in
    let p = c.args.path.now in
    let ms = c.args.mails.now in
    renews_less m (λ u j. (u ≡ t) × IsAmong h p ms c.loop-mail.mail-index j) (λ u j. (u ≡ t) × IsAmong h p ms (length ms) j) (λ u j z. (z.0, among_less h p ms (length ms) c.loop-mail.mail-index j c.loop-mail-test.false z.1))
    c.args.index.now.items c.loop-mail.index.items c.loop-mail.invariant.renews

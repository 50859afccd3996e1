use Rattle.std.proofs.Common.{◌≡◌, ◌∙◌, ◌<◌, ◌+◌, true, Some, length, refl, ap, arith}
use Rattle.std.specs.Prelude.{slice_get}
use Rattle.std.proofs.lemmas.Option.{slice_get_read}
use Rattle.wave_effects.specs.Keeping.{kept_of}
use Rattle.wave_machine.specs.inner.Index.{IsAmong, is_enter, mail_at}
use Rattle.wave_machine.proofs.Entering.{all_enters, done_none, next_enters, renews_less, renews_more, renews_none}
use Rattle.wave_machine.proofs.Owned.{weight_drop, weight_next}
use Rattle.wave_machine.proofs.Renewed.{mails_share}
use Rattle.wave_machine.proofs.renewing.relist_enters.Goals as goal

pub loop-i-init : goal.loop-i-init
loop-i-init c =
    let m = kept_of c.args.engine.now in
    let h = c.args.host.0 in
    let p = c.args.path.now in
    let less = weight_drop c.args.done m.cells in
    record {
      renews = renews_none m (λ u j. (u < m.first + c.args.done) × (is_enter h p (mail_at m u j) ≡ true)) (done_none m h p c.args.done c.requires.done) c.args.index.now.items;
      len = omega (arith, less);
      capacity = refl;
    }

pub relist_entering-requires-clause-room : goal.relist_entering-requires-clause-room
relist_entering-requires-clause-room c =
    let m = kept_of c.args.engine.now in
    let i = c.loop-i.i in
    let cell = c.index.result.now in
    let within : i < length m.cells = omega (arith, c.loop-i-test.true, c.len-i-end.ensures) in
    let next = weight_next i m.cells cell (slice_get_read m.cells _ i cell refl within c.index.ensures) in
    let many = ap length c.mails.ensures.mails in
    let few = mails_share cell in
    omega (arith, next, many, few, c.loop-i.invariant.len, c.loop-i.invariant.capacity, c.requires.room)

pub loop-i-preserved : goal.loop-i-preserved
loop-i-preserved c =
    let m = kept_of c.args.engine.now in
    let h = c.args.host.0 in
    let p = c.args.path.now in
    let i = c.loop-i.i in
    let cell = c.index.result.now in
    let mails = c.mails.result.now in
    let within : i < length m.cells = omega (arith, c.loop-i-test.true, c.len-i-end.ensures) in
    let at : slice_get m.cells i ≡ Some cell = slice_get_read m.cells _ i cell refl within c.index.ensures in
    let next = weight_next i m.cells cell at in
    let many = ap length c.mails.ensures.mails in
    let few = mails_share cell in
    record {
      renews = renews_more m (λ u j. (u < m.first + i) × (is_enter h p (mail_at m u j) ≡ true)) (λ u j. (u ≡ m.first + i) × IsAmong h p mails (length mails) j) (λ u j. (u < m.first + (i + 1)) × (is_enter h p (mail_at m u j) ≡ true))
          (next_enters m h p i cell mails at c.mails.ensures.mails) c.args.index.now.items c.loop-i.index.items c.relist_entering.new.index.items c.loop-i.invariant.renews c.relist_entering.ensures.renews;
      len = omega (arith, next, many, few, c.loop-i.invariant.len, c.relist_entering.ensures.len);
      capacity = c.relist_entering.ensures.capacity ∙ c.loop-i.invariant.capacity;
    }

pub returns-clause-renews : goal.returns-clause-renews
returns-clause-renews c =
    let m = kept_of c.args.engine.now in
    let h = c.args.host.0 in
    let p = c.args.path.now in
    let within = c.requires.done.within in
    let end : c.loop-i.i ≡ length m.cells = omega (arith, within, c.loop-i-test.false, c.len-i-end.ensures, c.loop-i.auto.i-end) in
    renews_less m (λ u j. (u < m.first + c.loop-i.i) × (is_enter h p (mail_at m u j) ≡ true)) (λ u j. is_enter h p (mail_at m u j) ≡ true) (all_enters m h p c.loop-i.i end) c.args.index.now.items c.loop-i.index.items c.loop-i.invariant.renews

use Rattle.std.proofs.Common.{◌≤◌, ◌+◌, length, ◌∙◌, sym, subst, arith}
use Rattle.std.specs.Prelude.{option_copied}
use Rattle.event_cells.specs.inner.Releases.{keeps}
use Rattle.event_cells.proofs.Desks.{Sends, sends_kept, sends_more}
use Rattle.event_cells.proofs.live.release.Goals as goal
use Rattle.event_cells.proofs.live.release.Goals.{then-not-keeps, else-not-keeps}

pub loop-path-preserved : goal.loop-path-preserved
loop-path-preserved c =
    let keep = keeps (option_copied c.args.top) in
    let i = c.loop-path.path-index in
    let before = c.args.outbox.now in
    let now = c.loop-path.outbox in
    elim c.if-not-keeps.branch [
      | then-not-keeps w ↦
          let sent = sends_more keep c.args.held.now before.mails before.sent i now.mails now.sent w.send.new.self.mails w.send.new.self.sent c.loop-path-item.result c.loop-path-test.true c.loop-path-item.is (sym c.keeps.ensures ∙ w.if-not-keeps.true) w.send.ensures.sent w.send.ensures.mails c.loop-path.invariant.sends in
          let room : length c.args.held.now ≤ i + 1 + w.send.new.self.room = omega (arith, c.loop-path.invariant.room, w.send.ensures.room) in
          let few : length w.send.new.self.mails ≤ length before.mails + (i + 1) = omega (arith, c.loop-path.invariant.few, w.send.ensures.one_more) in
          let few_sent : w.send.new.self.sent ≤ before.sent + (i + 1) = omega (arith, c.loop-path.invariant.few_sent, w.send.ensures.sent) in
          record {
            sends = subst (λ o. Sends keep c.args.held.now before.mails before.sent (i + 1) o.mails o.sent) (sym w.outbox-is) sent;
            room = subst (λ o. length c.args.held.now ≤ i + 1 + o.room) (sym w.outbox-is) room;
            few = subst (λ o. length o.mails ≤ length before.mails + (i + 1)) (sym w.outbox-is) few;
            few_sent = subst (λ o. o.sent ≤ before.sent + (i + 1)) (sym w.outbox-is) few_sent;
          }
      | else-not-keeps w ↦
          let sent = sends_kept keep c.args.held.now before.mails before.sent i now.mails now.sent c.loop-path-item.result c.loop-path-test.true c.loop-path-item.is (sym c.keeps.ensures ∙ w.if-not-keeps.false) c.loop-path.invariant.sends in
          let room : length c.args.held.now ≤ i + 1 + now.room = omega (arith, c.loop-path.invariant.room) in
          let few : length now.mails ≤ length before.mails + (i + 1) = omega (arith, c.loop-path.invariant.few) in
          let few_sent : now.sent ≤ before.sent + (i + 1) = omega (arith, c.loop-path.invariant.few_sent) in
          record {
            sends = subst (λ o. Sends keep c.args.held.now before.mails before.sent (i + 1) o.mails o.sent) (sym w.outbox-is) sent;
            room = subst (λ o. length c.args.held.now ≤ i + 1 + o.room) (sym w.outbox-is) room;
            few = subst (λ o. length o.mails ≤ length before.mails + (i + 1)) (sym w.outbox-is) few;
            few_sent = subst (λ o. o.sent ≤ before.sent + (i + 1)) (sym w.outbox-is) few_sent;
          }
    ]

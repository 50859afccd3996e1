use Rattle.std.proofs.Common.{◌≤◌, ◌+◌, length}
use Rattle.std.specs.Prelude.{option_copied}
use Rattle.event_cells.specs.inner.Releases.{keeps}
use Rattle.event_cells.proofs.Desks.{Sends}
use Rattle.event_cells.proofs.live.release.Given as goal

abbrev pub invariant-loop-path : goal.invariant-loop-path
invariant-loop-path l = record {
  sends : Sends (keeps (option_copied l.top)) l.held l.fn.outbox.mails l.fn.outbox.sent l.path-index l.outbox.mails l.outbox.sent;
  room : length l.held ≤ l.path-index + l.outbox.room;
  few : length l.outbox.mails ≤ length l.fn.outbox.mails + l.path-index;
  few_sent : l.outbox.sent ≤ l.fn.outbox.sent + l.path-index;
}

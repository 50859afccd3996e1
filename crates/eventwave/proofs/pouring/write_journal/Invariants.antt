use Rattle.std.proofs.Common.{◌+◌, ◌≤◌, [], drop}
use Rattle.journal_text.specs.JournalTexts.{journal_text, labels_text}
use Rattle.listing_out.proofs.SinkLemmas.{IsTaken}
use Rattle.eventwave.proofs.pouring.write_journal.Given as goal

abbrev pub invariant-loop-i : goal.invariant-loop-i
invariant-loop-i g l = record {
  taken : IsTaken [] l.held (g.K.Sink.written l.fn.out) (g.K.Sink.written l.out) (labels_text l.shape (l.i + 1) (drop l.i l.journal)) (journal_text l.shape l.journal);
  later : g.K.Sink.faults l.fn.out ≤ g.K.Sink.faults l.out;
}

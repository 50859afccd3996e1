use Rattle.std.proofs.Common.{◌+◌, ◌≤◌, [], drop}
use Rattle.std.specs.List.{concat}
use Rattle.listing_out.specs.Listing.{lines_from, shown_of}
use Rattle.listing_out.proofs.SinkLemmas.{IsTaken}
use Rattle.listing_out.proofs.write.write_results.Given as goal

abbrev pub invariant-loop-i : goal.invariant-loop-i
invariant-loop-i g l = record {
  taken : IsTaken [] l.held (g.K.Sink.written l.fn.sink) (g.K.Sink.written l.sink) (concat (lines_from l.shape (l.first.0 + l.i) (drop l.i (shown_of l.done)))) (concat (lines_from l.shape l.first.0 (shown_of l.done)));
  later : g.K.Sink.faults l.fn.sink ≤ g.K.Sink.faults l.sink;
}

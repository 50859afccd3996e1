use Rattle.std.proofs.Common.{length}
use Rattle.snapshot_text.specs.inner.Fronts.{IsMapTextBehind}
use Rattle.snapshot_text.proofs.pairs.are_pairs_behind.Given as goal

abbrev pub invariant-loop-key : goal.invariant-loop-key
invariant-loop-key l = record {
  up : IsMapTextBehind l.last l.rest → IsMapTextBehind l.fn.before l.fn.text;
  down : IsMapTextBehind l.fn.before l.fn.text → IsMapTextBehind l.last l.rest;
}

abbrev pub decreases-loop-key : goal.decreases-loop-key
decreases-loop-key l = length l.rest

use Rattle.std.proofs.Common.{length}
use Rattle.wave_text.proofs.QuoteLemmas.{IsReadTo}
use Rattle.wave_text.proofs.quotes.read_quoted.Given as goal

abbrev pub invariant-loop-b : goal.invariant-loop-b
invariant-loop-b l = IsReadTo l.bytes l.text.items l.rest

abbrev pub decreases-loop-b : goal.decreases-loop-b
decreases-loop-b l = length l.rest

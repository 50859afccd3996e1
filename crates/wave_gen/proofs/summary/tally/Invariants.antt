use Rattle.std.proofs.Common.{◌≡◌, ◌+◌, ◌≤◌, drop}
use Rattle.wave_gen.specs.Summary.{tally}
use Rattle.wave_gen.proofs.summary.tally.Given as goal

abbrev pub invariant-loop-ended : goal.invariant-loop-ended
invariant-loop-ended l = (l.count + tally l.ending (drop l.ended-index l.results) ≡ tally l.ending l.results) × (l.count ≤ l.ended-index)

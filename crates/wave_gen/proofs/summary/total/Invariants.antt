use Rattle.wave_gen.proofs.Sums.{Summed}
use Rattle.wave_gen.proofs.summary.total.Given as goal

abbrev pub invariant-loop-ended : goal.invariant-loop-ended
invariant-loop-ended l = Summed l.results l.ended-index l.total

use Rattle.std.proofs.Common.{arith, subst}
use Rattle.std.proofs.lemmas.Int.{ints}
use Rattle.wave_gen.proofs.Sums.{Summed, summed_more}
use Rattle.wave_gen.proofs.summary.total.Goals as goal

pub loop-ended-preserved : goal.loop-ended-preserved
loop-ended-preserved c = summed_more c.args.results.now c.loop-ended.ended-index c.ended-item.result c.loop-ended.total c.worth.result _ c.loop-ended-test.true c.ended-item.is c.worth.ensures
    (omega (arith, ints)) (omega (arith, ints)) (omega (arith, ints))
    (subst (Summed c.args.results.now c.loop-ended.ended-index) c.loop-ended.total-is c.loop-ended.invariant)

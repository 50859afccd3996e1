use Rattle.std.proofs.Common.{◌≤◌, ◌*◌, ◌^◌, ◌+◌, pos, neg_ℤ, ◌+ℤ◌, ◌≤ℤ◌, sym, subst, ◌∙◌, arith, to_z}
use Rattle.std.specs.Int.{w128}
use Rattle.value_ops.proofs.SumLemmas.{total_more, sum_high, sum_low, kept_is}
use Rattle.value_ops.proofs.sums.total.Goals as goal

pub loop-pair-preserved : goal.loop-pair-preserved
loop-pair-preserved c =
    let t = to_z w128 c.loop-pair.total-bits in
    let v = c.wide-total.result in
    let i = c.loop-pair.pair-index in
    let is = c.loop-pair.invariant in
    let few : i ≤ 1000 = omega (arith, c.loop-pair-test.true, c.pairs-pairs.ensures.table.short) in
    let kept = kept_is t v i is.high is.low few c.wide-total.ensures.within in
    record {
      sum = kept ∙ (λ j. is.sum j +ℤ c.wide-total.ensures.same j) ∙ sym (total_more c.pairs-pairs.result.now i (pos 0, pos 0) c.loop-pair-test.true);
      high = subst (λ z. z ≤ℤ pos ((i + 1) * 2 ^ 63)) (sym kept) (sum_high t v i is.high is.low few c.wide-total.ensures.within);
      low = subst (λ z. neg_ℤ (pos ((i + 1) * 2 ^ 63)) ≤ℤ z) (sym kept) (sum_low t v i is.high is.low few c.wide-total.ensures.within);
    }

use Rattle.std.proofs.Common.{◌≡◌, ◌*◌, ◌^◌, pos, neg_ℤ, ◌≤ℤ◌, take}
use Rattle.value_ops.specs.Meanings.{total}
use Rattle.value_ops.proofs.sums.total.Given as goal

abbrev pub invariant-loop-pair : goal.invariant-loop-pair
invariant-loop-pair l = record { sum : l.total ≡ total (take l.pair-index l.pairs); high : l.total ≤ℤ pos (l.pair-index * 2 ^ 63); low : neg_ℤ (pos (l.pair-index * 2 ^ 63)) ≤ℤ l.total }

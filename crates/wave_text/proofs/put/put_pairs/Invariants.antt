use Rattle.std.proofs.Common.{◌≡◌, ◌++◌, take}
use Rattle.wave_text.specs.ValueTexts.{pairs_text}
use Rattle.wave_text.proofs.put.put_pairs.Given as goal

abbrev pub invariant-loop-i : goal.invariant-loop-i
invariant-loop-i l = l.out.items ≡ l.fn.out.items ++ pairs_text (take l.i l.pairs)

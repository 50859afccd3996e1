use Rattle.std.proofs.Common.{◌≡◌, map, take}
use Rattle.command_words.proofs.reading.texts.Given as goal

abbrev pub invariant-loop-i : goal.invariant-loop-i
invariant-loop-i l = map (λ w. w.now) l.texts.items ≡ take l.i l.words

use Rattle.std.proofs.Common.{List, take}
use Rattle.mace_lexer.specs.declared.token.Word.{Word}
use Rattle.mace_hints.specs.inner.Fronts.{IsFront, Tells}
use Rattle.mace_hints.proofs.telling.following.Given as goal

abbrev pub invariant-loop-hint : goal.invariant-loop-hint
invariant-loop-hint l = (ws : List Word) → IsFront l.front ws → Tells ws (take l.hint-index l.table) l.found.items

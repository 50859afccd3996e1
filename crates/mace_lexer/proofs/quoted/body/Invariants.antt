use Rattle.std.proofs.Common.{◌≡◌, suc, ◌-◌, ◌≤◌, All, ◌∷◌, ◌++◌, length, drop}
use Rattle.wave_base.specs.Text.{IsPrintable}
use Rattle.wave_base.specs.Text.{escaped_text}
use Rattle.mace_lexer.proofs.quoted.body.Given as goal

abbrev pub invariant-loop-b : goal.invariant-loop-b
invariant-loop-b l = record {
  split : l.text ≡ 34 ∷ (escaped_text l.bytes.items ++ drop l.n l.text);
  printable : All IsPrintable l.bytes.items;
  reach : l.n ≡ suc (length (escaped_text l.bytes.items));
  within : l.n ≤ length l.text;
}

abbrev pub decreases-loop-b : goal.decreases-loop-b
decreases-loop-b l = length l.text - l.n

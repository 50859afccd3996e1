use Rattle.std.proofs.Common.{◌≡◌, ◌+◌, ◌≤◌, drop}
use Rattle.mace_lexer.specs.Cuts.{past}
use Rattle.mace_lexer.proofs.place.past.Given as goal

abbrev pub invariant-loop-b : goal.invariant-loop-b
invariant-loop-b l = record {
  value : past l.place (drop l.b-index l.bytes) ≡ past l.fn.at l.bytes;
  line : l.place.line ≤ l.fn.at.line + l.b-index;
  col : l.place.col ≤ l.fn.at.col + l.b-index;
}

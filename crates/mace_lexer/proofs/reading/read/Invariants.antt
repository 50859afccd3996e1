use Rattle.std.proofs.Common.{◌≡◌, ◌+◌, ◌≤◌, length, List, ◌++◌}
use Rattle.wave_base.specs.declared.span.Span.{Span}
use Rattle.mace_lexer.specs.declared.token.Token.{Token}
use Rattle.mace_lexer.specs.declared.fault.LexFault.{LexFault}
use Rattle.mace_lexer.specs.Cuts.{Cuts, Faulty}
use Rattle.mace_lexer.specs.Lexed.{start}
use Rattle.mace_lexer.proofs.reading.read.Given as goal

abbrev pub invariant-pieces : goal.invariant-pieces
invariant-pieces l = record {
  within : l.from + length l.rest ≡ length l.text;
  line : l.at.line ≤ 1 + l.from;
  col : l.at.col ≤ 1 + l.from;
  cuts : (more : List Token) → Cuts l.at l.from l.rest more → Cuts start 0 l.text (l.tokens.items ++ more);
  faults : (e : LexFault) (place : Span) → Faulty l.at l.rest e place → Faulty start l.text e place;
}

abbrev pub decreases-pieces : goal.decreases-pieces
decreases-pieces l = length l.rest

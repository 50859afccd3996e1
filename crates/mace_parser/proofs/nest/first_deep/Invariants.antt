use Rattle.std.proofs.Common.{◌≡◌, take, fold}
use Rattle.mace_grammar.specs.Nest.{no_pieces, past_word, IsShallow}
use Rattle.mace_grammar.specs.Spelled.{words}
use Rattle.mace_parser.proofs.nest.first_deep.Given as goal

abbrev pub invariant-loop-j : goal.invariant-loop-j
invariant-loop-j l = record {
  pieces : l.pieces ≡ fold past_word no_pieces (words (take l.j l.tokens));
  shallow : IsShallow (words (take l.j l.tokens));
}

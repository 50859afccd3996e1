use Rattle.std.proofs.Common.{length}
use Rattle.script_reader.proofs.PieceLemmas.{ArePiecesTo}
use Rattle.script_reader.proofs.pieces.pieces_of.Given as goal

abbrev pub invariant-loop-rest : goal.invariant-loop-rest
invariant-loop-rest l = ArePiecesTo l.fn.line l.pieces.items l.rest

abbrev pub decreases-loop-rest : goal.decreases-loop-rest
decreases-loop-rest l = length l.rest

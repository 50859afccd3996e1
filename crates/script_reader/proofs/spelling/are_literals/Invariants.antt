use Rattle.std.proofs.Common.{length}
use Rattle.script_reader.proofs.LiteralLemmas.{AreSomeTo}
use Rattle.script_reader.proofs.spelling.are_literals.Given as goal

abbrev pub invariant-loop-rest : goal.invariant-loop-rest
invariant-loop-rest l = AreSomeTo l.fn.pieces l.rest

abbrev pub decreases-loop-rest : goal.decreases-loop-rest
decreases-loop-rest l = length l.rest

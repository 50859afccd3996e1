use Rattle.std.proofs.Common.{length}
use Rattle.script_reader.proofs.LiteralLemmas.{AreCopied}
use Rattle.script_reader.proofs.spelling.literals_of.Given as goal

abbrev pub invariant-loop-rest : goal.invariant-loop-rest
invariant-loop-rest l = AreCopied l.fn.pieces l.literals l.rest

abbrev pub decreases-loop-rest : goal.decreases-loop-rest
decreases-loop-rest l = length l.rest

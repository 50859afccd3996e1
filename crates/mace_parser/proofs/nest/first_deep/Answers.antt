use Rattle.std.proofs.Common.{arith}
use Rattle.mace_parser.proofs.Steps.{first_deep_here}
use Rattle.mace_parser.proofs.nest.first_deep.Goals as goal

pub returns-then-nest-gt-NEST : goal.returns-then-nest-gt-NEST
returns-then-nest-gt-NEST c = first_deep_here c.args.tokens.now c.loop-j.j c.loop-j.pieces c.pass.new.self c.index-tokens-j.result c.loop-j-test.true c.index-tokens-j.is c.loop-j.invariant.pieces c.in_ok-pass.ensures (omega (arith, c.if-nest-gt-NEST.true, c.nest.ensures)) c.loop-j.invariant.shallow

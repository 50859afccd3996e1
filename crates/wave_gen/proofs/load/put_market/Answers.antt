use Rattle.std.proofs.Common.{rules}
use Rattle.wave_gen.specs.Load.{market}
use Rattle.wave_gen.proofs.load.put_market.Goals as goal

pub returns : goal.returns
unfolding market
returns c = search rules

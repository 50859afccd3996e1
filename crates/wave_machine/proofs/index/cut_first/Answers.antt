use Rattle.std.proofs.Common.{◌∙◌, drop, ap, arith}
use Rattle.wave_machine.proofs.Parting.{drop_one}
use Rattle.wave_machine.proofs.index.cut_first.Goals as goal

pub loop-preserved : goal.loop-preserved
loop-preserved c = record {
  items = c.remove.ensures.items ∙ ap (drop 1) c.loop.invariant.items ∙ drop_one c.args.index.now.items c.loop.counter;
  len = omega (arith, c.remove.ensures.len, c.loop.invariant.len);
  capacity = c.remove.ensures.capacity ∙ c.loop.invariant.capacity;
}

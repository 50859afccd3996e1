use Rattle.std.proofs.Common.{◌∙◌, drop, ap, arith}
use Rattle.wave_base.proofs.Blocks.{remove_behind}
use Rattle.wave_base.proofs.block.cut_shorter.Goals as goal

pub returns-else-i-len-clause-pairs : goal.returns-else-i-len-clause-pairs
returns-else-i-len-clause-pairs c =
    let all = c.args.places.now in
    ap (drop c.args.free) c.remove.ensures.items ∙ remove_behind all.items c.args.free c.args.i (omega (arith, c.requires, all.ok.0))

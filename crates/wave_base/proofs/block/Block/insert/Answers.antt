use Rattle.std.proofs.Common.{◌∙◌, length, drop, ap, arith, length-drop}
use Rattle.std.specs.List.{insert}
use Rattle.wave_base.proofs.Blocks.{insert_behind}
use Rattle.wave_base.proofs.block.Block.insert.Goals as goal

pub returns : goal.returns
returns c =
    let b = c.self.inside in
    let size = ap length c.self.view_is in
    ap (drop b.free) c.in_ok-insert.ensures.items
    ∙ insert_behind b.places.items b.free c.args.i c.args.pair (omega (arith, c.requires, size, length-drop b.free b.places.items, c.self.invariant))
    ∙ ap (λ pairs. insert pairs c.args.i c.args.pair) c.self.view_is

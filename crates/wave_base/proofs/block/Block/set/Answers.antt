use Rattle.std.proofs.Common.{◌∙◌, ap, slice_set}
use Rattle.std.proofs.lemmas.List.{drop-set-add}
use Rattle.wave_base.proofs.block.Block.set.Goals as goal

pub returns : goal.returns
returns c =
    let b = c.self.inside in
    drop-set-add b.free b.places.items c.args.i c.args.pair ∙ ap (λ pairs. slice_set pairs c.args.i c.args.pair) c.self.view_is

use Rattle.std.proofs.Common.{◌≡◌, ◌∙◌, Some, refl, sym, ap}
use Rattle.std.specs.Prelude.{slice_get}
use Rattle.std.proofs.lemmas.Option.{slice_get_read}
use Rattle.wave_labels.specs.Labels.{label_of}
use Rattle.wave_drives.proofs.Picking.{draw_many}
use Rattle.wave_drives.proofs.rules.by_seed.Goals as goal

pub returns : goal.returns
returns c = λ s.
    let xs = c.args.labels.now in
    let x = c.args.draw.now in
    let label = c.index-labels-place.result in
    let place = c.draw_below-place.result in
    let draw = c.draw_below-place.ensures in
    let at : slice_get xs place ≡ Some label = slice_get_read xs _ place label refl draw.below c.index-labels-place.is in
    draw_many xs label x s c.if-labels-lt2.false (ap (slice_get xs) (sym draw.drawn) ∙ at) ∙ ap (λ n. (n, Some (label_of label))) (sym draw.state)

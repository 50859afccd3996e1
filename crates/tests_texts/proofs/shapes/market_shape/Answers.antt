use Rattle.std.proofs.Common.{◌≡◌, sym, subst, rules}
use Rattle.wave_base.specs.declared.shape.Shape.{Shape}
use Rattle.wave_base.specs.Names.{HasNames}
use Rattle.wave_base.specs.Shapes.{IsShape}
use Rattle.snapshot_text.specs.Sample.{market_shape}
use Rattle.snapshot_text.proofs.SampleShape.{market_is_shape, market_has_names}
use Rattle.tests_texts.proofs.shapes.market_shape.Goals as goal

pub returns-clause-shape : goal.returns-clause-shape
returns-clause-shape c =
    let shape : Shape = record { classes = c.in_ok-market_classes.field-0; events = c.new.result } in
    let same : shape ≡ market_shape = search rules in
    subst IsShape (sym same) market_is_shape

pub returns-clause-names : goal.returns-clause-names
returns-clause-names c =
    let shape : Shape = record { classes = c.in_ok-market_classes.field-0; events = c.new.result } in
    let same : shape ≡ market_shape = search rules in
    subst HasNames (sym same) market_has_names

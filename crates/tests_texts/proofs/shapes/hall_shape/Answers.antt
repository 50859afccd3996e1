use Rattle.std.proofs.Common.{◌≡◌, sym, subst, rules}
use Rattle.wave_base.specs.declared.shape.Shape.{Shape}
use Rattle.wave_base.specs.Names.{HasNames}
use Rattle.wave_base.specs.Shapes.{IsShape}
use Rattle.path_text.specs.Sample.{hall_shape}
use Rattle.path_text.proofs.SampleShape.{hall_is_shape}
use Rattle.journal_text.proofs.SampleNames.{hall_has_names}
use Rattle.tests_texts.proofs.shapes.hall_shape.Goals as goal

pub returns-clause-shape : goal.returns-clause-shape
returns-clause-shape c =
    let shape : Shape = record { classes = c.in_ok-two_classes.field-0; events = c.new.result } in
    let same : shape ≡ hall_shape = search rules in
    subst IsShape (sym same) hall_is_shape

pub returns-clause-names : goal.returns-clause-names
returns-clause-names c =
    let shape : Shape = record { classes = c.in_ok-two_classes.field-0; events = c.new.result } in
    let same : shape ≡ hall_shape = search rules in
    subst HasNames (sym same) hall_has_names

use Rattle.std.proofs.Common.{length, ap, arith}
use Rattle.tests_texts.proofs.SampleLemmas.{sample_is_shape}
use Rattle.tests_texts.proofs.shapes.shape_with.Goals as goal

pub returns : goal.returns
returns c = sample_is_shape c.in_ok-two_classes.field-0 c.from_vec.result c.in_ok-two_classes.ensures (omega (arith, ap length c.from_vec.ensures, c.requires))

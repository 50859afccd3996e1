use Rattle.type_laws.proofs.Classes.{typed_shape}
use Rattle.type_laws.proofs.laws.shapes_are_shapes.Goals as goal

pub returns : goal.returns
returns c = typed_shape

use Rattle.typed_names.proofs.Shapes.{named_shape}
use Rattle.typed_names.proofs.laws.typed_services_have_names.Goals as goal

pub returns : goal.returns
returns c = named_shape

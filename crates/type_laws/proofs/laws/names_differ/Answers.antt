use Rattle.type_laws.proofs.Classes.{typed_names}
use Rattle.type_laws.proofs.laws.names_differ.Goals as goal

pub returns : goal.returns
returns c = typed_names

use Rattle.typed_code.proofs.Services.{typed_code}
use Rattle.typed_code.proofs.laws.typed_services_have_code.Goals as goal

pub returns : goal.returns
returns c = typed_code

use Rattle.type_laws.proofs.Services.{typed_fits}
use Rattle.type_laws.proofs.laws.resolved_services_fit.Goals as goal

pub returns : goal.returns
returns c = typed_fits

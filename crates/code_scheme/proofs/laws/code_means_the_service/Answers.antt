use Rattle.code_scheme.proofs.Fitting.{scheme_fit, scheme_verified}
use Rattle.code_scheme.proofs.Law.{service_means}
use Rattle.code_scheme.proofs.laws.code_means_the_service.Goals as goal

pub returns : goal.returns
returns c = λ shape service call tree typed is_call young fits root. service_means shape service typed (scheme_fit shape service typed) (scheme_verified shape service typed) call tree is_call young fits root

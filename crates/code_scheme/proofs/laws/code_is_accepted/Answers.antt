use Rattle.code_scheme.proofs.Fitting.{scheme_fit, scheme_verified}
use Rattle.code_scheme.proofs.laws.code_is_accepted.Goals as goal

pub returns-clause-fit : goal.returns-clause-fit
returns-clause-fit c = λ shape service typed. scheme_fit shape service typed

pub returns-clause-verified : goal.returns-clause-verified
returns-clause-verified c = λ shape service typed. scheme_verified shape service typed

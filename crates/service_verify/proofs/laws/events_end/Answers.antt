use Rattle.service_verify.proofs.Touring.{code_ends}
use Rattle.service_verify.proofs.laws.events_end.Goals as goal

pub returns : goal.returns
returns c = λ program call tree fit verified is young has. code_ends program fit verified call tree is young has

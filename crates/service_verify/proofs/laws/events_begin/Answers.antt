use Rattle.service_verify.proofs.Locals.{begins}
use Rattle.service_verify.proofs.laws.events_begin.Goals as goal

pub returns : goal.returns
returns c = λ program call fit verified is young. begins program fit verified call is young

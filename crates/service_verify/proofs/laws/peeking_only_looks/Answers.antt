use Rattle.service_verify.proofs.Peeking.{only_looks_there}
use Rattle.service_verify.proofs.laws.peeking_only_looks.Goals as goal

pub returns : goal.returns
returns c = λ program p n e fields fit verified stands has peeking. only_looks_there program verified fit p n e fields stands has peeking

use Rattle.service_verify.proofs.Segmenting.{pauses}
use Rattle.service_verify.proofs.laws.segments_pause.Goals as goal

pub returns : goal.returns
returns c = λ program p n e fields fit verified s has. pauses program fit verified p n e fields s has

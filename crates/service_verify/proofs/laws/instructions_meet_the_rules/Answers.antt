use Rattle.service_verify.proofs.Meeting.{meets_next}
use Rattle.service_verify.proofs.laws.instructions_meet_the_rules.Goals as goal

pub returns : goal.returns
returns c = λ program p n e fields fit verified stands has count. meets_next program fit verified p n e fields stands has count

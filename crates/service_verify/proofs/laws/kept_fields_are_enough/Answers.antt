use Rattle.service_verify.proofs.Agreeing.{segment_same}
use Rattle.service_verify.proofs.laws.kept_fields_are_enough.Goals as goal

pub returns : goal.returns
returns c = λ program p n b levels others fields fit verified r has_levels agree has. segment_same program fit verified p levels others agree n b fields r has_levels has

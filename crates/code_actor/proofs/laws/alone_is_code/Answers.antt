use Rattle.code_actor.proofs.Whole.{whole}
use Rattle.code_actor.proofs.laws.alone_is_code.Goals as goal

pub returns : goal.returns
returns c = λ program call ticket tree fit verified is_job has. whole program fit verified call ticket tree is_job has

use Rattle.typed_code.proofs.SameCode.{same_programs}
use Rattle.typed_code.proofs.laws.views_tell_code.Goals as goal

pub returns : goal.returns
returns c = same_programs

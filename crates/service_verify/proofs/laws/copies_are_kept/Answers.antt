use Rattle.service_verify.proofs.Copying.{copies_same}
use Rattle.service_verify.proofs.laws.copies_are_kept.Goals as goal

pub returns : goal.returns
returns c = λ program call tree fit verified is young has n. copies_same program fit verified call tree is young has n

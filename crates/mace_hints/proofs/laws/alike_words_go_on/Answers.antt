use Rattle.mace_hints.proofs.Going.{begun_goes_on, goes_on_begun}
use Rattle.mace_hints.proofs.laws.alike_words_go_on.Goals as goal

pub returns : goal.returns
returns c = λ ws vs h g. begun_goes_on ws vs h (goes_on_begun ws g)

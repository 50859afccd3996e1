use Rattle.mace_hints.proofs.Going.{alike_self, begun_goes_on, goes_on_begun}
use Rattle.mace_hints.proofs.laws.what_begins_goes_on.Goals as goal

pub returns : goal.returns
returns c = λ ws. (begun_goes_on ws ws (alike_self ws), goes_on_begun ws)

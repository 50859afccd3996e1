use Rattle.value_laws.proofs.Calls.{calls_bounded}
use Rattle.value_laws.proofs.laws.calls_are_bounded.Goals as goal

pub returns : goal.returns
returns c = calls_bounded

use Rattle.meaning_laws.proofs.Keeps.{kept_call}
use Rattle.meaning_laws.proofs.laws.calls_keep_trees.Goals as goal

pub returns : goal.returns
returns c = kept_call

use Rattle.meaning_laws.proofs.SameMeaning.{same_calls}
use Rattle.meaning_laws.proofs.laws.views_tell_meanings.Goals as goal

pub returns : goal.returns
returns c = same_calls

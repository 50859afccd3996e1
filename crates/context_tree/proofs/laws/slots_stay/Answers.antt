use Rattle.context_tree.proofs.SlotLemmas.{slot_stays}
use Rattle.context_tree.proofs.laws.slots_stay.Goals as goal

pub returns : goal.returns
returns c = slot_stays

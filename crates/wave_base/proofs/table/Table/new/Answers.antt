use Rattle.wave_base.proofs.Places.{table_none}
use Rattle.wave_base.proofs.table.Table.new.Goals as goal

pub invariant_of-result : goal.invariant_of-result
invariant_of-result c = rw c.new.ensures table_none

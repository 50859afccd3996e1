use Rattle.value_ops.proofs.RowLemmas.{reads_map}
use Rattle.value_ops.proofs.maps.apply_map.Goals as goal

pub read_map-requires-clause-reads : goal.read_map-requires-clause-reads
read_map-requires-clause-reads c = reads_map c.args.row c.requires c.if-row-eq-CUT.false

use Rattle.host_map.proofs.StoreMaps.{found_key}
use Rattle.host_map.proofs.store.search.Goals as goal

pub returns-clause-key : goal.returns-clause-key
returns-clause-key c = found_key c.args.table.now c.args.path.now c.get_index_of.result c.get_index_of.ensures.index

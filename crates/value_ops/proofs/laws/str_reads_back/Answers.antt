use Rattle.value_ops.proofs.LawLemmas.{str_reads}
use Rattle.value_ops.proofs.laws.str_reads_back.Goals as goal

pub returns : goal.returns
returns c = str_reads

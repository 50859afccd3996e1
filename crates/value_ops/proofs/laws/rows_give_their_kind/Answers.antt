use Rattle.value_ops.proofs.LawLemmas.{row_gives_its_kind}
use Rattle.value_ops.proofs.laws.rows_give_their_kind.Goals as goal

pub returns : goal.returns
returns c = row_gives_its_kind

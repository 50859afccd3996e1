use Rattle.value_ops.proofs.RowLemmas.{says_of_texts}
use Rattle.value_ops.proofs.texts.apply_texts.Goals as goal

pub compare_texts-requires-clause-says : goal.compare_texts-requires-clause-says
compare_texts-requires-clause-says c = says_of_texts c.args.row c.requires c.if-row-eq-CAT.false

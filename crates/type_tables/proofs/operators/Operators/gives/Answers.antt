use Rattle.std.proofs.Common.{sym, ap, ◌∙◌, slice_get}
use Rattle.type_tables.proofs.OperatorLemmas.{tells_row}
use Rattle.type_tables.proofs.operators.Operators.gives.Goals as goal

pub returns : goal.returns
returns c = (tells_row c.args.row c.row.result (ap (λ t. slice_get t c.args.row) (sym c.args.self.now.wave) ∙ c.row.ensures)).1

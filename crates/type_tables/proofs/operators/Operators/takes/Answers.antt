use Rattle.std.proofs.Common.{sym, ap, ◌∙◌, slice_get}
use Rattle.type_tables.proofs.OperatorLemmas.{front_row}
use Rattle.type_tables.proofs.operators.Operators.takes.Goals as goal

pub returns-clause-kinds : goal.returns-clause-kinds
returns-clause-kinds c =
    c.first_ones.ensures.kinds ∙ front_row c.args.row c.row.result (ap (λ t. slice_get t c.args.row) (sym c.args.self.now.wave) ∙ c.row.ensures) c.requires

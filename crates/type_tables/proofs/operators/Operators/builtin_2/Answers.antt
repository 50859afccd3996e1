use Rattle.std.proofs.Common.{sym, ap, ◌∙◌, arith}
use Rattle.value_ops.specs.Rows.{first_builtin}
use Rattle.type_tables.proofs.OperatorLemmas.{builtin_row_2}
use Rattle.type_tables.proofs.operators.Operators.builtin_2.Goals as goal

pub overflow_cast-result : goal.overflow_cast-result
overflow_cast-result c = let h = builtin_row_2 c.args.name.now c.in-Some.row (ap (λ t. first_builtin t c.args.name.now) (sym c.args.self.now.wave) ∙ sym c.find.ensures ∙ c.in-Some.is) in omega arith

pub returns-in-Some-clause-within : goal.returns-in-Some-clause-within
returns-in-Some-clause-within c = builtin_row_2 c.args.name.now c.in-Some.row (ap (λ t. first_builtin t c.args.name.now) (sym c.args.self.now.wave) ∙ sym c.find.ensures ∙ c.in-Some.is)

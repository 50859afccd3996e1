use Rattle.std.proofs.Common.{sym, ap, ◌∙◌, slice_get}
use Rattle.type_tables.proofs.Flags.{all_pass, first_fails, second_fails, none_from_not}
use Rattle.type_tables.proofs.OperatorLemmas.{row_fits}
use Rattle.type_tables.proofs.operators.Operators.takes_operands.Goals as goal

pub returns-then-not-has_kind : goal.returns-then-not-has_kind
returns-then-not-has_kind c =
    first_fails _ _ _ _ (row_fits c.args.row c.row.result (ap (λ t. slice_get t c.args.row) (sym c.args.self.now.wave) ∙ c.row.ensures) c.args.a c.args.b) (sym c.has_kind.ensures ∙ c.if-not-has_kind.true)

pub returns-then-not-is_operand : goal.returns-then-not-is_operand
returns-then-not-is_operand c =
    second_fails _ _ _ _ (row_fits c.args.row c.row.result (ap (λ t. slice_get t c.args.row) (sym c.args.self.now.wave) ∙ c.row.ensures) c.args.a c.args.b) (sym c.has_kind.ensures ∙ c.if-not-has_kind.false) (sym c.is_operand.ensures ∙ c.if-not-is_operand.true)

pub returns : goal.returns
returns c =
    none_from_not _ _ c.is_none.ensures
    ∙ all_pass _ _ _ _ (row_fits c.args.row c.row.result (ap (λ t. slice_get t c.args.row) (sym c.args.self.now.wave) ∙ c.row.ensures) c.args.a c.args.b) (sym c.has_kind.ensures ∙ c.if-not-has_kind.false) (sym c.is_operand.ensures ∙ c.if-not-is_operand.false)

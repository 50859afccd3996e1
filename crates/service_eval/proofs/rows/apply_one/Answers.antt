use Rattle.std.proofs.Common.{[], ◌∷◌, refl, sym, subst}
use Rattle.value_ops.specs.Operators.{apply_row, operators}
use Rattle.value_ops.proofs.RowLemmas.{not_row, gives_no_text}
use Rattle.service_eval.specs.inner.Answers.{Gives}
use Rattle.service_eval.proofs.RowLemmas.{past_rows}
use Rattle.service_eval.proofs.rows.apply_one.Goals as goal

pub returns-then-row-ge-OPERATORS : goal.returns-then-row-ge-OPERATORS
returns-then-row-ge-OPERATORS c = subst (λ a. Gives a c.args.at c.trapping.result) (sym (past_rows c.args.row (c.args.a.now ∷ []) c.if-row-ge-OPERATORS.true)) c.trapping.ensures

pub returns-in-Bool-Bool : goal.returns-in-Bool-Bool
unfolding apply_row operators
returns-in-Bool-Bool c = rw (not_row c.args.row (sym c.in-Bool-Bool.ensures), c.in-Bool-Bool.is-1) refl

pub returns-in_default : goal.returns-in_default
returns-in_default c = subst (λ vs. Gives (apply_row c.args.row vs) c.args.at c.apply_any.result) c.from_ref.ensures.value c.apply_any.ensures

pub apply_int-requires-clause-gives : goal.apply_int-requires-clause-gives
apply_int-requires-clause-gives c = gives_no_text c.args.row (sym c.in-Int-Int.ensures) c.if-row-ne-STR.true

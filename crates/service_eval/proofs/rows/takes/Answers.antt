use Rattle.std.proofs.Common.{ap, sym, ◌∙◌}
use Rattle.value_ops.specs.Rows.{three}
use Rattle.value_ops.specs.Operators.{takes_of}
use Rattle.service_eval.specs.inner.Answers.{are_kinds}
use Rattle.service_eval.proofs.RowLemmas.{kinds_are, not_taken, past_rows, few_kinds}
use Rattle.service_eval.proofs.rows.takes.Goals as goal

pub returns-then-row-lt-OPERATORS-clause-kinds : goal.returns-then-row-lt-OPERATORS-clause-kinds
returns-then-row-lt-OPERATORS-clause-kinds c = λ h.
    let kinds = c.kinds.ensures ∙ ap three c.takes_of.ensures in
    kinds_are (takes_of c.args.row) c.args.args.now (few_kinds c.args.row c.if-row-lt-OPERATORS.true) (ap (λ ks. are_kinds ks c.args.args.now) (sym kinds) ∙ sym c.are_kinds.ensures ∙ h)

pub returns-then-row-lt-OPERATORS-clause-none : goal.returns-then-row-lt-OPERATORS-clause-none
returns-then-row-lt-OPERATORS-clause-none c = λ h.
    let kinds = c.kinds.ensures ∙ ap three c.takes_of.ensures in
    not_taken c.args.row c.args.args.now c.if-row-lt-OPERATORS.true (ap (λ ks. are_kinds ks c.args.args.now) (sym kinds) ∙ sym c.are_kinds.ensures ∙ h)

pub returns-else-row-lt-OPERATORS-clause-none : goal.returns-else-row-lt-OPERATORS-clause-none
returns-else-row-lt-OPERATORS-clause-none c = λ h. past_rows c.args.row c.args.args.now c.if-row-lt-OPERATORS.false

use Rattle.std.proofs.Common.{◌∙◌, ap, sym, subst, [], ◌∷◌, w64}
use Rattle.std.proofs.lemmas.Int.{to_z-of_z}
use Rattle.wave_base.specs.declared.value.Value.TheVariants as value
use Rattle.value_ops.specs.Answers.{Answers}
use Rattle.value_ops.specs.Operators.{apply_row}
use Rattle.value_ops.proofs.AnswerLemmas.{traps}
use Rattle.value_ops.proofs.RowLemmas.{gives_no_text}
use Rattle.value_ops.proofs.values.apply_any_int.Goals as goal

pub returns-then-row-eq-STR : goal.returns-then-row-eq-STR
returns-then-row-eq-STR c =
    let given = subst (λ z. Answers (apply_row 26 (value.Int z ∷ [])) c.text_of_int.result) (to_z-of_z w64 c.args.a c.ranges.a) c.text_of_int.ensures in
    subst (λ row. Answers (apply_row row (value.Int c.args.a ∷ [])) c.text_of_int.result) (sym c.if-row-eq-STR.true) given

pub apply_int-requires-clause-gives : goal.apply_int-requires-clause-gives
apply_int-requires-clause-gives c = gives_no_text c.args.row c.requires c.if-row-eq-STR.false

pub returns-in_err-apply_int : goal.returns-in_err-apply_int
returns-in_err-apply_int c =
    traps _ _ _ c.from_residual.ensures.1 (sym (c.in_err-apply_int.ensures ∙ ap (λ z. apply_row c.args.row (value.Int z ∷ [])) (to_z-of_z w64 c.args.a c.ranges.a)))

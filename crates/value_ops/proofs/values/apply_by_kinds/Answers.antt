use Rattle.std.proofs.Common.{◌≡◌, ◌∙◌, sym, subst, rules, refl, not, Ok}
use Rattle.wave_base.specs.declared.value.Value.TheVariants as value
use Rattle.value_ops.specs.Answers.{Answers}
use Rattle.value_ops.specs.Operators.{apply_row, operators}
use Rattle.value_ops.proofs.OperandLemmas.{of_one, of_two, of_three, passed_on}
use Rattle.value_ops.proofs.AnswerLemmas.{traps}
use Rattle.value_ops.proofs.RowLemmas.{not_row, part_row, put_row}
use Rattle.value_ops.proofs.values.apply_by_kinds.Goals as goal

pub returns-in_err-apply_ints-in-Ints : goal.returns-in_err-apply_ints-in-Ints
returns-in_err-apply_ints-in-Ints c =
    of_two (λ vs. Answers (apply_row c.args.row vs) c.from_residual.result) c.args.args.now (c.requires.kinds ∙ sym c.in-Ints.ensures) (passed_on _ (search rules) c.int.ensures) (passed_on _ (search rules) c.int-in-Ints.ensures)
    (traps _ _ _ c.from_residual.ensures.1 (sym c.in_err-apply_ints-in-Ints.ensures))

pub returns-in_ok-apply_ints-in-Ints : goal.returns-in_ok-apply_ints-in-Ints
returns-in_ok-apply_ints-in-Ints c =
    of_two (λ vs. apply_row c.args.row vs ≡ Ok c.in_ok-apply_ints-in-Ints.field-0) c.args.args.now (c.requires.kinds ∙ sym c.in-Ints.ensures) (passed_on _ (search rules) c.int.ensures) (passed_on _ (search rules) c.int-in-Ints.ensures)
    (sym c.in_ok-apply_ints-in-Ints.ensures)

pub returns-in-Int : goal.returns-in-Int
returns-in-Int c = of_one (λ vs. Answers (apply_row c.args.row vs) c.apply_any_int.result) c.args.args.now (c.requires.kinds ∙ sym c.in-Int.ensures) (passed_on _ (search rules) c.int-in-Int.ensures) c.apply_any_int.ensures

pub returns-in-Bool : goal.returns-in-Bool
unfolding apply_row operators
returns-in-Bool c =
    of_one (λ vs. apply_row c.args.row vs ≡ Ok (value.Bool (not c.flag.result))) c.args.args.now (c.requires.kinds ∙ sym c.in-Bool.ensures) c.flag.ensures
    (rw (not_row c.args.row (sym c.in-Bool.ensures)) refl)

pub returns-in-Bools : goal.returns-in-Bools
returns-in-Bools c =
    of_two (λ vs. apply_row c.args.row vs ≡ Ok (value.Bool c.compare_flags.result)) c.args.args.now (c.requires.kinds ∙ sym c.in-Bools.ensures) c.flag-in-Bools.ensures c.flag-in-Bools-2.ensures c.compare_flags.ensures

pub returns-in_err-read_text-in-Text : goal.returns-in_err-read_text-in-Text
returns-in_err-read_text-in-Text c =
    of_one (λ vs. Answers (apply_row c.args.row vs) c.from_residual-in_err-read_text-in-Text.result) c.args.args.now (c.requires.kinds ∙ sym c.in-Text.ensures) c.text.ensures
    (traps _ _ _ c.from_residual-in_err-read_text-in-Text.ensures.1 (sym c.in_err-read_text-in-Text.ensures))

pub returns-in_ok-read_text-in-Text : goal.returns-in_ok-read_text-in-Text
returns-in_ok-read_text-in-Text c =
    of_one (λ vs. apply_row c.args.row vs ≡ Ok c.in_ok-read_text-in-Text.field-0) c.args.args.now (c.requires.kinds ∙ sym c.in-Text.ensures) c.text.ensures
    (sym c.in_ok-read_text-in-Text.ensures)

pub returns-in_err-sum_up-in-Map : goal.returns-in_err-sum_up-in-Map
returns-in_err-sum_up-in-Map c =
    of_one (λ vs. Answers (apply_row c.args.row vs) c.from_residual-in_err-sum_up-in-Map.result) c.args.args.now (c.requires.kinds ∙ sym c.in-Map.ensures) c.table.ensures
    (traps _ _ _ c.from_residual-in_err-sum_up-in-Map.ensures.1 (sym c.in_err-sum_up-in-Map.ensures))

pub returns-in_ok-sum_up-in-Map : goal.returns-in_ok-sum_up-in-Map
returns-in_ok-sum_up-in-Map c =
    of_one (λ vs. apply_row c.args.row vs ≡ Ok c.in_ok-sum_up-in-Map.field-0) c.args.args.now (c.requires.kinds ∙ sym c.in-Map.ensures) c.table.ensures
    (sym c.in_ok-sum_up-in-Map.ensures)

pub returns-in-TextIntInt : goal.returns-in-TextIntInt
returns-in-TextIntInt c =
    subst (λ row. Answers (apply_row row c.args.args.now) c.part.result) (sym (part_row c.args.row (sym c.in-TextIntInt.ensures)))
    (of_three (λ vs. Answers (apply_row _ vs) c.part.result) c.args.args.now (c.requires.kinds ∙ sym c.in-TextIntInt.ensures) c.text-in-TextIntInt.ensures (passed_on _ (search rules) c.int-in-TextIntInt.ensures) (passed_on _ (search rules) c.int-in-TextIntInt-2.ensures) c.part.ensures)

pub returns-in-MapIntInt : goal.returns-in-MapIntInt
returns-in-MapIntInt c =
    subst (λ row. Answers (apply_row row c.args.args.now) c.put.result) (sym (put_row c.args.row (sym c.in-MapIntInt.ensures)))
    (of_three (λ vs. Answers (apply_row _ vs) c.put.result) c.args.args.now (c.requires.kinds ∙ sym c.in-MapIntInt.ensures) c.table-in-MapIntInt.ensures (passed_on _ (search rules) c.int-in-MapIntInt.ensures) (passed_on _ (search rules) c.int-in-MapIntInt-2.ensures) c.put.ensures)

pub returns-in-Texts : goal.returns-in-Texts
returns-in-Texts c =
    of_two (λ vs. Answers (apply_row c.args.row vs) c.apply_texts.result) c.args.args.now (c.requires.kinds ∙ sym c.in-Texts.ensures) c.text-in-Texts.ensures c.text-in-Texts-2.ensures c.apply_texts.ensures

pub returns-in-MapInt : goal.returns-in-MapInt
returns-in-MapInt c =
    of_two (λ vs. Answers (apply_row c.args.row vs) c.apply_map.result) c.args.args.now (c.requires.kinds ∙ sym c.in-MapInt.ensures) c.table-in-MapInt.ensures (passed_on _ (search rules) c.int-in-MapInt.ensures) c.apply_map.ensures

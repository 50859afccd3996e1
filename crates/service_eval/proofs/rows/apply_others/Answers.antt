use Rattle.std.proofs.Common.{◌≡◌, false, [], ◌∷◌, sym, subst}
use Rattle.wave_base.specs.declared.value.Kind.TheVariants.{Int, Bool, Text, Map}
use Rattle.value_ops.specs.Operators.{takes_of}
use Rattle.value_ops.specs.Rows.{three}
use Rattle.service_eval.specs.inner.Answers.{Gives, are_kinds}
use Rattle.service_eval.proofs.KindLemmas.{no_int, no_bool, no_text, no_map, first_wrong, second_wrong, no_two}
use Rattle.service_eval.proofs.RowLemmas.{past_rows, not_taken, answers_two}
use Rattle.service_eval.proofs.rows.apply_others.Goals.{in_default-via-in-MapInt+in-Map+in_default, in_default-via-in-MapInt+in_default, in_default-via-in-Texts+in-Str+in_default, in_default-via-in-Texts+in_default, in_default-via-in-Bools+in-Bool+in_default, in_default-via-in-Bools+in_default, in_default-via-in-Ints+in-Int+in_default, in_default-via-in-Ints+in_default, in_default-via-in_default}
use Rattle.service_eval.proofs.rows.apply_others.Goals as goal

pub returns-then-row-ge-OPERATORS : goal.returns-then-row-ge-OPERATORS
returns-then-row-ge-OPERATORS c = subst (λ a. Gives a c.args.at c.trapping.result) (sym (past_rows c.args.row (c.args.a.now ∷ c.args.b.now ∷ []) c.if-row-ge-OPERATORS.true)) c.trapping.ensures

pub returns-in-Texts-Str-Str : goal.returns-in-Texts-Str-Str
returns-in-Texts-Str-Str c = c.with_place.ensures _ (answers_two c.args.row _ _ _ _ _ c.in-Texts-Str-Str.is-1 c.in-Texts-Str-Str.is-2 c.apply_texts.ensures)

pub returns-in_default : goal.returns-in_default
returns-in_default c =
    let a = c.args.a.now in
    let b = c.args.b.now in
    let wrong : are_kinds (three (takes_of c.args.row)) (a ∷ b ∷ []) ≡ false = elim c.in_default.branch [
      | in_default-via-in-MapInt+in-Map+in_default w ↦ subst (λ ks. are_kinds (three ks) (a ∷ b ∷ []) ≡ false) w.in_default.ensures (second_wrong Map Int a b (no_int b w.in_default.not-Int-2))
      | in_default-via-in-MapInt+in_default w ↦ subst (λ ks. are_kinds (three ks) (a ∷ b ∷ []) ≡ false) w.in_default.ensures (first_wrong Map Int a b (no_map a w.in_default.not-Map-1))
      | in_default-via-in-Texts+in-Str+in_default w ↦ subst (λ ks. are_kinds (three ks) (a ∷ b ∷ []) ≡ false) w.in_default.ensures (second_wrong Text Text a b (no_text b w.in_default.not-Str-2))
      | in_default-via-in-Texts+in_default w ↦ subst (λ ks. are_kinds (three ks) (a ∷ b ∷ []) ≡ false) w.in_default.ensures (first_wrong Text Text a b (no_text a w.in_default.not-Str-1))
      | in_default-via-in-Bools+in-Bool+in_default w ↦ subst (λ ks. are_kinds (three ks) (a ∷ b ∷ []) ≡ false) w.in_default.ensures (second_wrong Bool Bool a b (no_bool b w.in_default.not-Bool-2))
      | in_default-via-in-Bools+in_default w ↦ subst (λ ks. are_kinds (three ks) (a ∷ b ∷ []) ≡ false) w.in_default.ensures (first_wrong Bool Bool a b (no_bool a w.in_default.not-Bool-1))
      | in_default-via-in-Ints+in-Int+in_default w ↦ subst (λ ks. are_kinds (three ks) (a ∷ b ∷ []) ≡ false) w.in_default.ensures (second_wrong Int Int a b (no_int b w.in_default.not-Int-2))
      | in_default-via-in-Ints+in_default w ↦ subst (λ ks. are_kinds (three ks) (a ∷ b ∷ []) ≡ false) w.in_default.ensures (first_wrong Int Int a b (no_int a w.in_default.not-Int-1))
      | in_default-via-in_default w ↦ subst (λ ks. are_kinds (three ks) (a ∷ b ∷ []) ≡ false) c.takes_of.ensures (no_two c.takes_of.result a b w.in_default.not-MapInt-0 w.in_default.not-Texts-0 w.in_default.not-Bools-0 w.in_default.not-Ints-0)
    ] in
    subst (λ x. Gives x c.args.at c.trapping-in_default.result) (sym (not_taken c.args.row (a ∷ b ∷ []) c.if-row-ge-OPERATORS.false wrong)) c.trapping-in_default.ensures

use Rattle.std.proofs.Common.{◌≡◌, false, [], ◌∷◌, rules, sym, ap, subst, ◌∙◌, w64, FitsSigned}
use Rattle.std.proofs.lemmas.Int.{to_z-of_z}
use Rattle.wave_base.specs.declared.value.Kind.TheVariants as k
use Rattle.wave_base.specs.declared.value.Value.{Value}
use Rattle.wave_base.specs.declared.value.Value.TheVariants.{Int}
use Rattle.value_ops.specs.Operators.{takes_of, apply_row}
use Rattle.value_ops.specs.Rows.{three}
use Rattle.value_ops.proofs.RowLemmas.{part_row, put_row}
use Rattle.service_eval.specs.inner.Answers.{Gives, are_kinds}
use Rattle.service_eval.proofs.KindLemmas.{no_int, no_text, no_map, first_of_three, second_of_three, third_of_three, no_three}
use Rattle.service_eval.proofs.RowLemmas.{past_rows, not_taken, answers_three}
use Rattle.service_eval.proofs.rows.apply_three.Goals.{in_default-via-in-TextIntInt+in-Str+in-Int+in_default, in_default-via-in-TextIntInt+in-Str+in_default, in_default-via-in-TextIntInt+in_default, in_default-via-in-MapIntInt+in-Map+in-Int+in_default, in_default-via-in-MapIntInt+in-Map+in_default, in_default-via-in-MapIntInt+in_default, in_default-via-in_default}
use Rattle.service_eval.proofs.rows.apply_three.Goals as goal

pub returns-then-row-ge-OPERATORS : goal.returns-then-row-ge-OPERATORS
returns-then-row-ge-OPERATORS c = subst (λ a. Gives a c.args.at c.trapping.result) (sym (past_rows c.args.row (c.args.a.now ∷ c.args.b.now ∷ c.args.c.now ∷ []) c.if-row-ge-OPERATORS.true)) c.trapping.ensures

pub returns-in-TextIntInt-Str-Int-Int : goal.returns-in-TextIntInt-Str-Int-Int
returns-in-TextIntInt-Str-Int-Int c =
    let w = c.in-TextIntInt-Str-Int-Int in
    let x : FitsSigned w64 w.x = search rules in
    let y : FitsSigned w64 w.y = search rules in
    c.with_place.ensures _
    (answers_three c.args.row _ _ _ _ _ _ _ _ (part_row c.args.row (sym w.ensures)) w.is-1 (w.is-2 ∙ ap Int (sym (to_z-of_z w64 w.x x))) (w.is-3 ∙ ap Int (sym (to_z-of_z w64 w.y y))) c.part.ensures)

-- the row's answer to values as they are named
given_three : (row n : _) (a b c u v w : Value) (at : _) (r : _) → row ≡ n → a ≡ u → b ≡ v → c ≡ w → Gives (apply_row n (u ∷ v ∷ w ∷ [])) at r → Gives (apply_row row (a ∷ b ∷ c ∷ [])) at r
given_three row n a b c u v w at r e f g h given = subst (λ x. Gives x at r) (λ i. apply_row (sym e i) (sym f i ∷ sym g i ∷ sym h i ∷ [])) given

pub returns-in-MapIntInt-Map-Int-Int : goal.returns-in-MapIntInt-Map-Int-Int
returns-in-MapIntInt-Map-Int-Int c =
    let w = c.in-MapIntInt-Map-Int-Int in
    let x : FitsSigned w64 w.k = search rules in
    let y : FitsSigned w64 w.v = search rules in
    given_three c.args.row _ _ _ _ _ _ _ _ _ (put_row c.args.row (sym w.ensures)) w.is-1 (w.is-2 ∙ ap Int (sym (to_z-of_z w64 w.k x))) (w.is-3 ∙ ap Int (sym (to_z-of_z w64 w.v y))) c.with_pair.ensures

pub returns-in_default : goal.returns-in_default
returns-in_default c =
    let x = c.args.a.now in
    let y = c.args.b.now in
    let z = c.args.c.now in
    let wrong : are_kinds (three (takes_of c.args.row)) (x ∷ y ∷ z ∷ []) ≡ false = elim c.in_default.branch [
      | in_default-via-in-TextIntInt+in-Str+in-Int+in_default w ↦ subst (λ ks. are_kinds (three ks) (x ∷ y ∷ z ∷ []) ≡ false) w.in_default.ensures (third_of_three k.Text k.Int k.Int x y z (no_int z w.in_default.not-Int-3))
      | in_default-via-in-TextIntInt+in-Str+in_default w ↦ subst (λ ks. are_kinds (three ks) (x ∷ y ∷ z ∷ []) ≡ false) w.in_default.ensures (second_of_three k.Text k.Int k.Int x y z (no_int y w.in_default.not-Int-2))
      | in_default-via-in-TextIntInt+in_default w ↦ subst (λ ks. are_kinds (three ks) (x ∷ y ∷ z ∷ []) ≡ false) w.in_default.ensures (first_of_three k.Text k.Int k.Int x y z (no_text x w.in_default.not-Str-1))
      | in_default-via-in-MapIntInt+in-Map+in-Int+in_default w ↦ subst (λ ks. are_kinds (three ks) (x ∷ y ∷ z ∷ []) ≡ false) w.in_default.ensures (third_of_three k.Map k.Int k.Int x y z (no_int z w.in_default.not-Int-3))
      | in_default-via-in-MapIntInt+in-Map+in_default w ↦ subst (λ ks. are_kinds (three ks) (x ∷ y ∷ z ∷ []) ≡ false) w.in_default.ensures (second_of_three k.Map k.Int k.Int x y z (no_int y w.in_default.not-Int-2))
      | in_default-via-in-MapIntInt+in_default w ↦ subst (λ ks. are_kinds (three ks) (x ∷ y ∷ z ∷ []) ≡ false) w.in_default.ensures (first_of_three k.Map k.Int k.Int x y z (no_map x w.in_default.not-Map-1))
      | in_default-via-in_default w ↦ subst (λ ks. are_kinds (three ks) (x ∷ y ∷ z ∷ []) ≡ false) c.takes_of.ensures (no_three c.takes_of.result x y z w.in_default.not-TextIntInt-0 w.in_default.not-MapIntInt-0)
    ] in
    subst (λ a. Gives a c.args.at c.trapping-in_default.result) (sym (not_taken c.args.row (x ∷ y ∷ z ∷ []) c.if-row-ge-OPERATORS.false wrong)) c.trapping-in_default.ensures

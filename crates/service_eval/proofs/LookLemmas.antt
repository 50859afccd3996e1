-- Values that are found one after the other.
use Rattle.std.proofs.Common.{◌≡◌, ℕ, true, false, List, [], ◌∷◌, Option, Result, Ok, Err, sym, ap, subst, ◌∙◌}
use Rattle.wave_base.specs.declared.path.Path.{Path}
use Rattle.wave_base.specs.declared.span.Span.{Span}
use Rattle.wave_base.specs.declared.value.Value.{Value}
use Rattle.wave_base.specs.declared.value.Value.TheVariants.{Bool as Truth}
use Rattle.value_ops.specs.Kinds.{Answer}
use Rattle.value_ops.specs.Operators.{apply_row}
use Rattle.resolved_service.specs.Meaning.{State, Outcome, Done, Trapped, Act, and_then, ◌>>=◌, give, answer, choose, value, values}
use Rattle.resolved_service.specs.View.{Tree, Op, no_trees, tree}
use Rattle.resolved_service.specs.World.{is_true}
use Rattle.service_eval.specs.declared.operand.Operand.{Operand}
use Rattle.service_eval.specs.declared.stop.Stop.{Stop}
use Rattle.service_eval.specs.declared.stop.Stop.TheVariants as stop
use Rattle.service_eval.specs.inner.Answers.{Gives, Looks, made_operand}

module _ (o : Outcome Value) (x y : Act Value) (a b : Value) (st : State) (r : Result (Option Operand) Stop) (found : o ≡ Done a st) (same : b ≡ a) where
  pub decided_true : is_true b ≡ true → Looks (x st) st r → Looks (and_then o (λ a. choose (is_true a) x y)) st r
  decided_true e h = subst (λ o. Looks (and_then o (λ a. choose (is_true a) x y)) st r) (sym found) (subst (λ c. Looks (choose (is_true c) x y st) st r) same (subst (λ c. Looks (choose c x y st) st r) (sym e) h))

  pub decided_false : is_true b ≡ false → Looks (y st) st r → Looks (and_then o (λ a. choose (is_true a) x y)) st r
  decided_false e h = subst (λ o. Looks (and_then o (λ a. choose (is_true a) x y)) st r) (sym found) (subst (λ c. Looks (choose (is_true c) x y st) st r) same (subst (λ c. Looks (choose c x y st) st r) (sym e) h))

module _ (o : Outcome Value) (x : Act Value) (a b : Value) (st : State) (found : o ≡ Done a st) (same : b ≡ a) where
  pub is_false : is_true b ≡ false → and_then o (λ a. choose (is_true a) x (give (Truth false))) ≡ Done (Truth false) st
  is_false e = ap (λ o. and_then o (λ a. choose (is_true a) x (give (Truth false)))) found ∙ ap (λ c. choose c x (give (Truth false)) st) (ap is_true (sym same) ∙ e)

  pub holds : is_true b ≡ true → and_then o (λ a. choose (is_true a) (give (Truth true)) x) ≡ Done (Truth true) st
  holds e = ap (λ o. and_then o (λ a. choose (is_true a) (give (Truth true)) x)) found ∙ ap (λ c. choose c (give (Truth true)) x st) (ap is_true (sym same) ∙ e)

-- an operator's answer, as it is found
looked : (a : Answer Value) (at : Span) (st : State) (r : Result Value Stop) → Gives a at r → Looks (answer a at st) st (made_operand r)
looked a at st (Ok v) h = ap (λ a. answer a at st) h
looked a at st (Err (stop.Trapped t)) h = ap (λ a. answer a at st) h.0 ∙ ap (λ x. Trapped t.kind x st.world) (sym h.1)
looked a at st (Err (stop.OutOfMemory _)) h = tt
looked a at st (Err (stop.Ended r)) h = absurd h

-- an operator whose operands were found, as they are passed on
module _ (k : ℕ → Path → List Value → Act (Option Value)) (p : Path) (at : Span) (row : ℕ) (st : State) (r : Result Value Stop) where
  abbrev applied : List Value → Outcome Value
  applied ops = answer (apply_row row ops) at st

  abbrev alone : Value → Act (List Value)
  alone first = give [] >>= (λ others. give (first ∷ others))

  abbrev before : Value → List Value → Act (List Value)
  before first others = give (first ∷ others)

  abbrev last : List Value → Act Value
  last ops = answer (apply_row row ops) at

  pub one : (t : Tree) (x a : Value) → value k p t st ≡ Done x st → a ≡ x → Gives (apply_row row (a ∷ [])) at r → Looks (value k p (Op at row (tree t no_trees)) st) st (made_operand r)
  one t x a f e h =
      let meant : value k p (Op at row (tree t no_trees)) st ≡ applied (x ∷ []) = ap (λ o. and_then (and_then o alone) last) f in
      subst (λ o. Looks o st (made_operand r)) (sym (meant ∙ ap (λ v. applied (v ∷ [])) (sym e))) (looked (apply_row row (a ∷ [])) at st r h)

  pub two : (t u : Tree) (x y a b : Value) → value k p t st ≡ Done x st → value k p u st ≡ Done y st → a ≡ x → b ≡ y → Gives (apply_row row (a ∷ b ∷ [])) at r → Looks (value k p (Op at row (tree t (tree u no_trees))) st) st (made_operand r)
  two t u x y a b f g d e h =
      let meant : value k p (Op at row (tree t (tree u no_trees))) st ≡ applied (x ∷ y ∷ []) =
      ap (λ o. and_then (and_then o (λ first. values k p (tree u no_trees) >>= before first)) last) f
      ∙ ap (λ o. and_then (and_then (and_then o alone) (before x)) last) g in
      subst (λ o. Looks o st (made_operand r)) (sym (meant ∙ (λ i. applied (sym d i ∷ sym e i ∷ [])))) (looked (apply_row row (a ∷ b ∷ [])) at st r h)

  pub three : (t u w : Tree) (x y z a b c : Value) → value k p t st ≡ Done x st → value k p u st ≡ Done y st → value k p w st ≡ Done z st → a ≡ x → b ≡ y → c ≡ z → Gives (apply_row row (a ∷ b ∷ c ∷ [])) at r → Looks (value k p (Op at row (tree t (tree u (tree w no_trees)))) st) st (made_operand r)
  three t u w x y z a b c f g j d e s h =
      let meant : value k p (Op at row (tree t (tree u (tree w no_trees)))) st ≡ applied (x ∷ y ∷ z ∷ []) =
      ap (λ o. and_then (and_then o (λ first. values k p (tree u (tree w no_trees)) >>= before first)) last) f
      ∙ ap (λ o. and_then (and_then (and_then o (λ first. values k p (tree w no_trees) >>= before first)) (before x)) last) g
      ∙ ap (λ o. and_then (and_then (and_then (and_then o alone) (before y)) (before x)) last) j in
      subst (λ o. Looks o st (made_operand r)) (sym (meant ∙ (λ i. applied (sym d i ∷ sym e i ∷ sym s i ∷ [])))) (looked (apply_row row (a ∷ b ∷ c ∷ [])) at st r h)

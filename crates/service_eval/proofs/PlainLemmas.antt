-- Values of expressions, where those of their parts are known.
use Rattle.std.proofs.Common.{◌≡◌, ℕ, true, false, List, [], ◌∷◌, Option, Some, None, Ok, IfSome, option_map, refl, sym, ap, subst, ◌∙◌}
use Rattle.wave_base.specs.declared.path.Path.{Path}
use Rattle.wave_base.specs.declared.span.Span.{Span}
use Rattle.wave_base.specs.declared.value.Value.{Value}
use Rattle.wave_base.specs.declared.value.Value.TheVariants.{Bool as Truth}
use Rattle.value_ops.specs.Operators.{apply_row}
use Rattle.resolved_service.specs.Meaning.{State, Done, Act, and_then, give, choose, value}
use Rattle.resolved_service.specs.View.{Tree, Op, And, Or, no_trees, tree}
use Rattle.resolved_service.specs.World.{is_true}
use Rattle.service_eval.proofs.LookLemmas.{one, two, three}

-- an operator of values that are known
module _ (k : ℕ → Path → List Value → Act (Option Value)) (p : Path) (at : Span) (row : ℕ) (st : State) where
  pub of_one : (t : Tree) (x v : Value) → value k p t st ≡ Done x st → apply_row row (x ∷ []) ≡ Ok v → value k p (Op at row (tree t no_trees)) st ≡ Done v st
  of_one t x v f e = one k p at row st (Ok v) t x x f refl e

  pub of_two : (t u : Tree) (x y v : Value) → value k p t st ≡ Done x st → value k p u st ≡ Done y st → apply_row row (x ∷ y ∷ []) ≡ Ok v → value k p (Op at row (tree t (tree u no_trees))) st ≡ Done v st
  of_two t u x y v f g e = two k p at row st (Ok v) t u x y x y f g refl refl e

  pub of_three : (t u w : Tree) (x y z v : Value) → value k p t st ≡ Done x st → value k p u st ≡ Done y st → value k p w st ≡ Done z st → apply_row row (x ∷ y ∷ z ∷ []) ≡ Ok v → value k p (Op at row (tree t (tree u (tree w no_trees)))) st ≡ Done v st
  of_three t u w x y z v f g h e = three k p at row st (Ok v) t u w x y z x y z f g h refl refl refl e

-- `&&` and `||` where the left operand is known
module _ (k : ℕ → Path → List Value → Act (Option Value)) (p : Path) (at : Span) (st : State) (l r : Tree) where
  pub and_true : (v : Value) → value k p l st ≡ Done (Truth true) st → value k p r st ≡ Done v st → value k p (And at l r) st ≡ Done v st
  and_true v f g = ap (λ o. and_then o (λ a. choose (is_true a) (value k p r) (give (Truth false)))) f ∙ g

  pub and_false : value k p l st ≡ Done (Truth false) st → value k p (And at l r) st ≡ Done (Truth false) st
  and_false f = ap (λ o. and_then o (λ a. choose (is_true a) (value k p r) (give (Truth false)))) f

  pub or_true : value k p l st ≡ Done (Truth true) st → value k p (Or at l r) st ≡ Done (Truth true) st
  or_true f = ap (λ o. and_then o (λ a. choose (is_true a) (give (Truth true)) (value k p r))) f

  pub or_false : (v : Value) → value k p l st ≡ Done (Truth false) st → value k p r st ≡ Done v st → value k p (Or at l r) st ≡ Done v st
  or_false v f g = ap (λ o. and_then o (λ a. choose (is_true a) (give (Truth true)) (value k p r))) f ∙ g

-- what is said of what is there
pub if_some : {A : Type 0} (P Q : A → Type 0) (o : Option A) → ((x : A) → P x → Q x) → IfSome o P → IfSome o Q
if_some P Q None f h = tt
if_some P Q (Some x) f h = f x h

pub if_mapped : {A B : Type 0} (f : A → B) (P : B → Type 0) (o : Option A) (r : Option B) → r ≡ option_map f o → IfSome o (λ x. P (f x)) → IfSome r P
if_mapped f P None r e h = subst (λ o. IfSome o P) (sym e) tt
if_mapped f P (Some x) r e h = subst (λ o. IfSome o P) (sym e) h

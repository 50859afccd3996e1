-- Whether something is ready.
use Rattle.std.proofs.Common.{◌≡◌, ◌≢◌, ◌∙◌, ◌↔◌, Bool, eqb, List, [], ◌∷◌, Option, Some, None, IsTrue, is_some, false, length, map, ne_eqb, refl, sym, ap, subst, arith}
use mathlib.Core.Bool.{not}

pub none_if : {A : Type 0} → (o : Option A) → is_some o ≡ false → o ≡ None
none_if None e = refl
none_if (Some x) e = absurd cc

cons_nil : {A : Type 0} → (x : A) (xs : List A) → x ∷ xs ≡ [] → ⊥
cons_nil x xs e = cc

module _ {A B : Type 0} (f : A → B) (ys : List B) (W : Type 0) (w : W) where
  by_list : (xs : List A) → map f xs ≡ ys → IsTrue (not (eqb (length xs) 0)) ↔ (W × (ys ≢ []))
  by_list [] e = ((λ t. absurd cc), (λ p. absurd (p.1 (sym e))))
  by_list (x ∷ xs) e = (
    (λ t. (w, (λ no. cons_nil (f x) (map f xs) (e ∙ no)))),
    (λ p. ap not (ne_eqb (length (x ∷ xs)) 0 (λ z. absurd (omega (arith, z))))),
  )

  -- something is, where a list is not empty
  pub ready_iff : (xs : List A) → map f xs ≡ ys → (b : Bool) → b ≡ eqb (length xs) 0 → IsTrue (not b) ↔ (W × (ys ≢ []))
  ready_iff xs e b is = subst (λ z. IsTrue (not z) ↔ (W × (ys ≢ []))) (sym is) (by_list xs e)

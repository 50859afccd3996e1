-- A list of values whose number is known, by its items.
use Rattle.std.proofs.Common.{◌≡◌, ℤ, List, [], ◌∷◌, map, Option, Some, slice_get, ap, sym, subst, ◌∙◌, w64, FitsSigned, to_z, of_z}
use Rattle.std.proofs.lemmas.Int.{to_z-of_z}
use Rattle.wave_base.specs.declared.value.Kind.{Kind}
use Rattle.wave_base.specs.declared.value.Value.{Value}
use Rattle.wave_base.specs.declared.value.Value.TheVariants.{Int}
use Rattle.wave_base.specs.Values.{kind_of}

one : (vs : List Value) (k : Kind) (x : Value) → map kind_of vs ≡ k ∷ [] → slice_get vs 0 ≡ Some x → vs ≡ x ∷ []
one [] k x e a = cc
one (v ∷ []) k x e a = cc
one (v ∷ w ∷ vs) k x e a = cc

two : (vs : List Value) (k l : Kind) (x y : Value) → map kind_of vs ≡ k ∷ l ∷ [] → slice_get vs 0 ≡ Some x → slice_get vs 1 ≡ Some y → vs ≡ x ∷ y ∷ []
two [] k l x y e a b = cc
two (v ∷ []) k l x y e a b = cc
two (v ∷ w ∷ []) k l x y e a b = cc
two (v ∷ w ∷ u ∷ vs) k l x y e a b = cc

three : (vs : List Value) (k l m : Kind) (x y z : Value) → map kind_of vs ≡ k ∷ l ∷ m ∷ [] → slice_get vs 0 ≡ Some x → slice_get vs 1 ≡ Some y → slice_get vs 2 ≡ Some z → vs ≡ x ∷ y ∷ z ∷ []
three [] k l m x y z e a b c = cc
three (v ∷ []) k l m x y z e a b c = cc
three (v ∷ w ∷ []) k l m x y z e a b c = cc
three (v ∷ w ∷ u ∷ []) k l m x y z e a b c = cc
three (v ∷ w ∷ u ∷ t ∷ vs) k l m x y z e a b c = cc

module _ (P : List Value → Type 0) (vs : List Value) where
  pub of_one : {k : Kind} {x : Value} → map kind_of vs ≡ k ∷ [] → slice_get vs 0 ≡ Some x → P (x ∷ []) → P vs
  of_one {k = k} {x = x} e a p = subst P (sym (one vs k x e a)) p

  pub of_two : {k l : Kind} {x y : Value} → map kind_of vs ≡ k ∷ l ∷ [] → slice_get vs 0 ≡ Some x → slice_get vs 1 ≡ Some y → P (x ∷ y ∷ []) → P vs
  of_two {k = k} {l = l} {x = x} {y = y} e a b p = subst P (sym (two vs k l x y e a b)) p

  pub of_three : {k l m : Kind} {x y z : Value} → map kind_of vs ≡ k ∷ l ∷ m ∷ [] → slice_get vs 0 ≡ Some x → slice_get vs 1 ≡ Some y → slice_get vs 2 ≡ Some z → P (x ∷ y ∷ z ∷ []) → P vs
  of_three {k = k} {l = l} {m = m} {x = x} {y = y} {z = z} e a b c p = subst P (sym (three vs k l m x y z e a b c)) p

-- an int, as it stands where it is passed on
pub passed_on : (z : ℤ) {o : Option Value} → FitsSigned w64 z → o ≡ Some (Int z) → o ≡ Some (Int (to_z w64 (of_z w64 z)))
passed_on z fits e = e ∙ ap (λ n. Some (Int n)) (sym (to_z-of_z w64 z fits))

-- Sets of classes: which are apart, and which lie in another.
use Rattle.std.proofs.Common.{◌≡◌, ◌⊎◌, inl, inr, List, [], ◌∷◌, ◌++◌, Bool, true, false, ◌||◌, ◌&&◌, not, refl, subst, ⊎_elim}
use Rattle.mace_grammar.specs.declared.class.Class.{Class}
use Rattle.mace_grammar.specs.inner.Classes.{class_eq}
use Rattle.mace_grammar.specs.inner.Run.{has}
use Rattle.mace_grammar.proofs.Classes.{class_same}

abbrev pub disjoint : List Class → List Class → Bool
disjoint [] other = true
disjoint (d ∷ ds) other = not (has other d) && disjoint ds other

or_true : (a b : Bool) → (a || b) ≡ true → (a ≡ true) ⊎ (b ≡ true)
or_true true b e = inl refl
or_true false b e = inr e

or_left : (a b : Bool) → a ≡ true → (a || b) ≡ true
or_left true b e = refl
or_left false b e = cc

or_right : (a b : Bool) → b ≡ true → (a || b) ≡ true
or_right true b e = refl
or_right false b e = e

or_false : (a b : Bool) → (a || b) ≡ false → (a ≡ false) × (b ≡ false)
or_false true b e = cc
or_false false b e = (refl, e)

and_true : (a b : Bool) → (a && b) ≡ true → (a ≡ true) × (b ≡ true)
and_true true b e = (refl, e)
and_true false b e = cc

not_true : (a : Bool) → not a ≡ true → a ≡ false
not_true true e = cc
not_true false e = refl

pub has-left : (f g : List Class) (c : Class) → has f c ≡ true → has (f ++ g) c ≡ true
has-left [] g c e = cc
has-left (d ∷ f) g c e = ⊎_elim (λ h. or_left _ _ h) (λ h. or_right _ _ (has-left f g c h)) (or_true (class_eq d c) (has f c) e)

pub has-right : (f g : List Class) (c : Class) → has g c ≡ true → has (f ++ g) c ≡ true
has-right [] g c e = e
has-right (d ∷ f) g c e = or_right _ _ (has-right f g c e)

pub has_not : (f g : List Class) (c : Class) → has (f ++ g) c ≡ false → (has f c ≡ false) × (has g c ≡ false)
has_not [] g c e = (refl, e)
has_not (d ∷ f) g c e =
    let a = or_false (class_eq d c) (has (f ++ g) c) e in
    let b = has_not f g c a.1 in
    (rw a.0 b.0, b.1)

pub apart : (f g : List Class) (c : Class) → disjoint f g ≡ true → has f c ≡ true → has g c ≡ false
apart [] g c d e = cc
apart (x ∷ f) g c d e =
    let a = and_true _ _ d in
    ⊎_elim (λ h. let same : x ≡ c = class_same x c h in subst (λ y. has g y ≡ false) same (not_true _ a.0)) (λ h. apart f g c a.1 h) (or_true (class_eq x c) (has f c) e)

abbrev pub subset : List Class → List Class → Bool
subset [] other = true
subset (d ∷ ds) other = has other d && subset ds other

pub subset_has : (f g : List Class) (c : Class) → subset f g ≡ true → has f c ≡ true → has g c ≡ true
subset_has [] g c d e = cc
subset_has (x ∷ f) g c d e =
    let a = and_true _ _ d in
    ⊎_elim (λ h. let same : x ≡ c = class_same x c h in subst (λ y. has g y ≡ true) same a.0) (λ h. subset_has f g c a.1 h) (or_true (class_eq x c) (has f c) e)

pub subset_not : (f g : List Class) (c : Class) → subset f g ≡ true → has g c ≡ false → has f c ≡ false
subset_not f g c d e = go (has f c) refl
  where
    go : (b : Bool) → has f c ≡ b → has f c ≡ false
    go true h = let k : has g c ≡ true = subset_has f g c d h in cc
    go false h = h

-- what can follow what may be empty
abbrev pub if_empty : Bool → List Class → List Class
if_empty true f = f
if_empty false f = []

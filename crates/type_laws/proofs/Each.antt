-- A fact of each element of a list, whose elements are numbered from some number on.
use Rattle.std.proofs.Common.{◌≡◌, ◌+◌, ◌<◌, ℕ, zero, suc, List, [], ◌∷◌, ◌++◌, length, map, get_or, All, refl, sym, subst, arith}
use Rattle.std.proofs.lemmas.List.{length-append, length-map, get_or_append_left, get_or-append-add, get_or-map}

module _ {X : Type 0} (P : ℕ → X → Type 0) where
  abbrev pub Each : ℕ → List X → Type 0
  Each n xs = (j : ℕ) (d : X) → j < length xs → P (n + j) (get_or xs j d)

  pub each_none : (n : ℕ) → Each n []
  each_none n j d h = absurd (omega arith)

  pub each_first : (n : ℕ) (x : X) (xs : List X) → Each n (x ∷ xs) → P n x
  each_first n x xs h = subst (λ m. P m x) (plus n) (h 0 x (omega arith))
    where
      plus : (n : ℕ) → n + 0 ≡ n
      plus n = omega arith

  pub each_rest : (n : ℕ) (x : X) (xs : List X) → Each n (x ∷ xs) → Each (n + 1) xs
  each_rest n x xs h j d l = let e : n + suc j ≡ n + 1 + j = omega arith in subst (λ m. P m (get_or xs j d)) e (h (suc j) d (omega arith))

  pub each_cons : (n : ℕ) (x : X) (xs : List X) → P n x → Each (n + 1) xs → Each n (x ∷ xs)
  each_cons n x xs p h zero d l = let e : n ≡ n + 0 = omega arith in subst (λ m. P m x) e p
  each_cons n x xs p h (suc j) d l = let e : n + 1 + j ≡ n + suc j = omega arith in subst (λ m. P m (get_or xs j d)) e (h j d (omega arith))

  pub each_front : (n : ℕ) (xs ys : List X) → Each n (xs ++ ys) → Each n xs
  each_front n xs ys h j d l =
      subst (λ x. P (n + j) x) (get_or_append_left xs ys d j l) (h j d (let e = length-append xs ys in omega arith))

  pub each_back : (n : ℕ) (xs ys : List X) → Each n (xs ++ ys) → Each (n + length xs) ys
  each_back n xs ys h j d l =
      let e : n + (length xs + j) ≡ n + length xs + j = omega arith in
      subst (λ m. P m (get_or ys j d)) e (subst (λ x. P (n + (length xs + j)) x) (get_or-append-add xs ys j d) (h (length xs + j) d (let e = length-append xs ys in omega arith)))

  pub each_both : (n : ℕ) (xs ys : List X) → Each n xs → Each (n + length xs) ys → Each n (xs ++ ys)
  each_both n [] ys a b = let e : n + 0 ≡ n = omega arith in subst (λ m. Each m ys) e b
  each_both n (x ∷ xs) ys a b =
      let e : n + suc (length xs) ≡ n + 1 + length xs = omega arith in
      each_cons n x (xs ++ ys) (each_first n x xs a) (each_both (n + 1) xs ys (each_rest n x xs a) (subst (λ m. Each m ys) e b))

-- a list at its own numbers
pub each_self : {X : Type 0} (d : X) (all : List X) → Each (λ i x. get_or all i d ≡ x) 0 all
each_self d all j e l = let z : j ≡ 0 + j = omega arith in subst (λ m. get_or all m d ≡ get_or all j e) z (same all j d e l)
  where
    same : {X : Type 0} (all : List X) (j : ℕ) (d e : X) → j < length all → get_or all j d ≡ get_or all j e
    same [] j d e l = absurd (omega arith)
    same (x ∷ xs) zero d e l = refl
    same (x ∷ xs) (suc j) d e l = same xs j d e (omega arith)

-- values of the elements
pub all_of_each : {X Y : Type 0} (f : X → Y) (Q : Y → Type 0) (P : ℕ → X → Type 0) (n : ℕ) (d : X) (xs : List X) → ((i : ℕ) (x : X) → P i x → Q (f x)) → Each P n xs → All Q (map f xs)
all_of_each f Q P n d xs g h k e l =
    let short : k < length xs = subst (λ m. k < m) (length-map xs f) l in
    subst Q (sym (get_or-map f xs k d e short)) (g (n + k) (get_or xs k d) (h k d short))

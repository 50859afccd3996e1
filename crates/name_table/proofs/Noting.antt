-- One more name in a table of first numbers.
use Rattle.std.proofs.Common.{◌≡◌, ◌≢◌, ◌⊎◌, inl, inr, ◌+◌, ◌<◌, ◌==◌, ℕ, zero, suc, Bool, true, false, cond, List, [], ◌∷◌, ◌++◌, length, position, get_or, set, Option, Some, None, is_some, if◌then◌else◌, refl, sym, ap, subst, ◌∙◌, arith}
use Rattle.std.specs.Option.{option_or}
use Rattle.std.specs.List.{position_from}
use Rattle.std.specs.Cmp.Lexicographic.{nat_list_eq_equiv}
use Rattle.std.proofs.lemmas.Iterator.Adapters.{position_from-zero}
use Rattle.std.proofs.lemmas.Bool.Decides.{eqb_tells}
use Rattle.std.proofs.lemmas.List.{get_or-set_same, get_or-set_other}
use Rattle.wave_base.specs.Names.{same_bytes}
use Rattle.name_table.specs.Numbers.{first_number, numbers_with, TellsFirst, TellFirst}

or_none : {A : Type 0} (o : Option A) → option_or o None ≡ o
or_none None = refl
or_none (Some x) = refl

-- ---- a search that goes on by one element

module _ {X : Type 0} (p : X → Bool) where
  from_push : (xs : List X) (i : ℕ) (x : X) → position_from p i (xs ++ x ∷ []) ≡ option_or (position_from p i xs) (cond (p x) (Some (i + length xs)) None)
  from_push [] i x = let e : i ≡ i + 0 = omega arith in ap (λ n. cond (p x) (Some n) None) e
  from_push (y ∷ xs) i x = by (p y) (from_push xs (i + 1) x)
    where
      by : (b : Bool) → position_from p (i + 1) (xs ++ x ∷ []) ≡ option_or (position_from p (i + 1) xs) (cond (p x) (Some (i + 1 + length xs)) None)
          → cond b (Some i) (position_from p (i + 1) (xs ++ x ∷ [])) ≡ option_or (cond b (Some i) (position_from p (i + 1) xs)) (cond (p x) (Some (i + suc (length xs))) None)
      by true below = refl
      by false below =
          let e : (i + 1) + length xs ≡ i + suc (length xs) = omega arith in
          below ∙ ap (λ n. option_or (position_from p (i + 1) xs) (cond (p x) (Some n) None)) e

  position_push : (xs : List X) (x : X) → position p (xs ++ x ∷ []) ≡ option_or (position p xs) (cond (p x) (Some (length xs)) None)
  position_push xs x =
      let e : 0 + length xs ≡ length xs = omega arith in
      position_from-zero p (xs ++ x ∷ []) ∙ from_push xs 0 x ∙ (λ i. option_or (sym (position_from-zero p xs) i) (cond (p x) (Some (e i)) None))

  -- one more that does not pass
  pub position_other : (xs : List X) (x : X) → p x ≡ false → position p (xs ++ x ∷ []) ≡ position p xs
  position_other xs x h = position_push xs x ∙ ap (λ b. option_or (position p xs) (cond b (Some (length xs)) None)) h ∙ or_none (position p xs)

-- ---- names that are noted

first_push : (ps : List (List ℕ × ℕ)) (name : List ℕ) (number : ℕ) (q : List ℕ)
    → first_number (ps ++ (name, number) ∷ []) q ≡ option_or (first_number ps q) (cond (same_bytes name q) (Some number) None)
first_push [] name number q = refl
first_push (p ∷ ps) name number q = by (same_bytes p.0 q) (first_push ps name number q)
  where
    by : (b : Bool) → first_number (ps ++ (name, number) ∷ []) q ≡ option_or (first_number ps q) (cond (same_bytes name q) (Some number) None)
        → cond b (Some p.1) (first_number (ps ++ (name, number) ∷ []) q) ≡ option_or (cond b (Some p.1) (first_number ps q)) (cond (same_bytes name q) (Some number) None)
    by true below = refl
    by false below = below

-- names that are the same are found alike
first_same : (ps : List (List ℕ × ℕ)) (a b : List ℕ) → same_bytes a b ≡ true → first_number ps a ≡ first_number ps b
first_same [] a b h = refl
first_same (p ∷ ps) a b h =
    ap (λ t. cond t (Some p.1) (first_number ps a)) (same p.0) ∙ ap (λ o. cond (same_bytes p.0 b) (Some p.1) o) (first_same ps a b h)
  where
    same : (n : List ℕ) → same_bytes n a ≡ same_bytes n b
    same n = nat_list_eq_equiv.symm n a ∙ nat_list_eq_equiv.congr a b n h ∙ nat_list_eq_equiv.symm b n

module _ {X : Type 0} (p : List ℕ → X → Bool) (xs : List X) (x : X) (name : List ℕ) (is : (q : List ℕ) → p q x ≡ same_bytes name q) where
  -- a table that tells the first of each name among those so far tells it among one more
  pub noted_more : (ps : List (List ℕ × ℕ)) → TellsFirst p xs ps → TellsFirst p (xs ++ x ∷ []) (numbers_with ps name (length xs))
  noted_more ps tells q = by (first_number ps name) refl
    where
      all : position (p q) (xs ++ x ∷ []) ≡ option_or (first_number ps q) (cond (same_bytes name q) (Some (length xs)) None)
      all = position_push (p q) xs x ∙ (λ i. option_or (sym (tells q) i) (cond (is q i) (Some (length xs)) None))

      old : (k : ℕ) → first_number ps name ≡ Some k → (b : Bool) → same_bytes name q ≡ b → first_number ps q ≡ option_or (first_number ps q) (cond b (Some (length xs)) None)
      old k e true h = let found : first_number ps q ≡ Some k = sym (first_same ps name q h) ∙ e in found ∙ sym (ap (λ o. option_or o (Some (length xs))) found)
      old k e false h = sym (or_none (first_number ps q))

      by : (o : Option ℕ) → first_number ps name ≡ o → first_number (numbers_with ps name (length xs)) q ≡ position (p q) (xs ++ x ∷ [])
      by None e = ap (λ o. first_number (if is_some o then ps else ps ++ (name, length xs) ∷ []) q) e ∙ first_push ps name (length xs) q ∙ sym all
      by (Some k) e = ap (λ o. first_number (if is_some o then ps else ps ++ (name, length xs) ∷ []) q) e ∙ old k e (same_bytes name q) refl ∙ sym all

-- ---- tables that stand side by side

-- where there is no table, an empty one tells the same
pub get_or_blank : {X : Type 0} (xss : List (List X)) (n : ℕ) → get_or (xss ++ [] ∷ []) n [] ≡ get_or xss n []
get_or_blank [] zero = refl
get_or_blank [] (suc n) = refl
get_or_blank (xs ∷ xss) zero = refl
get_or_blank (xs ∷ xss) (suc n) = get_or_blank xss n

module _ {X : Type 0} (p : ℕ → List ℕ → X → Bool) (xs : List X) (tables : List (List (List ℕ × ℕ))) (tell : TellFirst p xs tables) where
  -- one table more, and no item of its
  pub told_blank : TellFirst p xs (tables ++ [] ∷ [])
  told_blank n q = ap (λ ps. first_number ps q) (get_or_blank tables n) ∙ tell n q

  -- one item more, which is in no table
  pub told_other : (x : X) → ((n : ℕ) (q : List ℕ) → p n q x ≡ false) → TellFirst p (xs ++ x ∷ []) tables
  told_other x other n q = tell n q ∙ sym (position_other (p n q) xs x (other n q))

  module _ (x : X) (at : ℕ) (name : List ℕ) (is : (q : List ℕ) → p at q x ≡ same_bytes name q) (other : (n : ℕ) (q : List ℕ) → at ≢ n → p n q x ≡ false) (there : at < length tables) where
    -- one item more, which is in one of them
    pub told_in : TellFirst p (xs ++ x ∷ []) (set tables at (numbers_with (get_or tables at []) name (length xs)))
    told_in n q = by (eqb_tells at n)
      where
        now : List (List ℕ × ℕ)
        now = numbers_with (get_or tables at []) name (length xs)

        by : (((at == n) ≡ true) × (at ≡ n)) ⊎ (((at == n) ≡ false) × (at ≢ n)) → first_number (get_or (set tables at now) n []) q ≡ position (p n q) (xs ++ x ∷ [])
        by (inl e) = subst (λ n. first_number (get_or (set tables at now) n []) q ≡ position (p n q) (xs ++ x ∷ [])) e.1
            (ap (λ ps. first_number ps q) (get_or-set_same tables at now [] there) ∙ noted_more (p at) xs x name is (get_or tables at []) (tell at) q)
        by (inr e) = ap (λ ps. first_number ps q) (get_or-set_other tables at n now [] (λ h. e.1 (sym h))) ∙ tell n q ∙ sym (position_other (p n q) xs x (other n q e.1))

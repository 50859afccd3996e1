-- What is found in a level.
use Rattle.std.proofs.Common.{◌≡◌, ℕ, zero, suc, ◌+◌, ◌<◌, ◌≤◌, List, [], ◌∷◌, ◌++◌, length, drop, get_or, if◌then◌else◌, Bool, true, false, Option, Some, None, refl, ap, sym, ◌∙◌, arith, append_assoc}
use Rattle.std.specs.Prelude.{slice_get, ◌==◌}
use Rattle.std.proofs.Math.Seq.{drop-cons}
use Rattle.std.proofs.lemmas.Bool.Decides.{nat_tests}
use Rattle.wave_base.specs.declared.value.Value.{Value}
use Rattle.downgrade_views.specs.Levels.{Level, value_in, keeps, kept_from, kept_level, whole_from, whole_level}

choose : {A : Type 0} (b : Bool) (c : Bool) (x y : A) → b ≡ c → (if b then x else y) ≡ (if c then x else y)
choose b c x y e = ap (λ d. if d then x else y) e

same_number : (n m : ℕ) → n ≡ m → (n == m) ≡ true
same_number n m e = grind (arith, nat_tests)

other_number : (n m : ℕ) → n < m → (n == m) ≡ false
other_number n m lt = grind (arith, nat_tests)

-- a field whose number is higher than that of the first one
kept_above : (field : ℕ) (kept : List Bool) (xs : List Value) (n : ℕ) → n < field → value_in (kept_from field kept xs) n ≡ None
kept_above field [] xs n lt = refl
kept_above field (k ∷ kept) [] n lt = refl
kept_above field (true ∷ kept) (x ∷ xs) n lt = choose (field == n) false _ _ (grind (arith, nat_tests)) ∙ kept_above (suc field) kept xs n (omega arith)
kept_above field (false ∷ kept) (x ∷ xs) n lt = kept_above (suc field) kept xs n (omega arith)

kept_at : (field : ℕ) (kept : List Bool) (xs : List Value) (n : ℕ) → value_in (kept_from field kept xs) (field + n) ≡ (if keeps kept n then slice_get xs n else None)
kept_at field [] xs n = refl
kept_at field (k ∷ kept) [] n = none (keeps (k ∷ kept) n)
  where
    none : (b : Bool) → ◌≡◌ {A = Option Value} None (if b then slice_get [] n else None)
    none true = refl
    none false = refl
kept_at field (true ∷ kept) (x ∷ xs) zero = choose (field == field + 0) true _ _ (same_number field (field + 0) (omega arith))
kept_at field (false ∷ kept) (x ∷ xs) zero = kept_above (suc field) kept xs (field + 0) (omega arith)
kept_at field (true ∷ kept) (x ∷ xs) (suc n) =
    choose (field == field + suc n) false _ _ (other_number field (field + suc n) (omega arith))
    ∙ (let e : field + suc n ≡ suc field + n = omega arith in ap (value_in (kept_from (suc field) kept xs)) e)
    ∙ kept_at (suc field) kept xs n
kept_at field (false ∷ kept) (x ∷ xs) (suc n) =
    (let e : field + suc n ≡ suc field + n = omega arith in ap (value_in (kept_from (suc field) kept xs)) e)
    ∙ kept_at (suc field) kept xs n

-- a kept field has its value, and no other one is there
pub kept_field : (kept : List Bool) (xs : List Value) (n : ℕ) → value_in (kept_level kept xs) n ≡ (if keeps kept n then slice_get xs n else None)
kept_field kept xs n = (let e : n ≡ 0 + n = omega arith in ap (value_in (kept_level kept xs)) e) ∙ kept_at 0 kept xs n

whole_at : (field : ℕ) (xs : List Value) (n : ℕ) → value_in (whole_from field xs) (field + n) ≡ slice_get xs n
whole_at field [] n = refl
whole_at field (x ∷ xs) zero = choose (field == field + 0) true _ _ (same_number field (field + 0) (omega arith))
whole_at field (x ∷ xs) (suc n) =
    choose (field == field + suc n) false _ _ (other_number field (field + suc n) (omega arith))
    ∙ (let e : field + suc n ≡ suc field + n = omega arith in ap (value_in (whole_from (suc field) xs)) e)
    ∙ whole_at (suc field) xs n

-- each field is there
pub whole_field : (xs : List Value) (n : ℕ) → value_in (whole_level xs) n ≡ slice_get xs n
whole_field xs n = (let e : n ≡ 0 + n = omega arith in ap (value_in (whole_level xs)) e) ∙ whole_at 0 xs n

-- the first field, and the rest
kept_next : (field : ℕ) (kept : List Bool) (xs : List Value) (k : Bool) (x : Value) → kept_from field (k ∷ kept) (x ∷ xs) ≡ (if k then (field, x) ∷ [] else []) ++ kept_from (suc field) kept xs
kept_next field kept xs true x = refl
kept_next field kept xs false x = refl

-- the next field, where there is one
pub kept_step : (i : ℕ) (kept : List Bool) (xs : List Value) (d : Value) (copies new whole : Level) (k : Bool) → i < length kept → i < length xs → get_or kept i false ≡ k → new ≡ copies ++ (if k then (i, get_or xs i d) ∷ [] else []) → copies ++ kept_from i (drop i kept) (drop i xs) ≡ whole → new ++ kept_from (i + 1) (drop (i + 1) kept) (drop (i + 1) xs) ≡ whole
kept_step i kept xs d copies new whole k lt lt' is new_is e =
    let up : suc i ≡ i + 1 = omega arith in
    let next : kept_from i (drop i kept) (drop i xs) ≡ (if k then (i, get_or xs i d) ∷ [] else []) ++ kept_from (i + 1) (drop (i + 1) kept) (drop (i + 1) xs) =
    (λ j. kept_from i (drop-cons kept i false lt j) (drop-cons xs i d lt' j))
    ∙ kept_next i (drop (suc i) kept) (drop (suc i) xs) (get_or kept i false) (get_or xs i d)
    ∙ (λ j. (if is j then (i, get_or xs i d) ∷ [] else []) ++ kept_from (up j) (drop (up j) kept) (drop (up j) xs)) in
    ap (λ cs. cs ++ kept_from (i + 1) (drop (i + 1) kept) (drop (i + 1) xs)) new_is
    ∙ append_assoc copies (if k then (i, get_or xs i d) ∷ [] else []) (kept_from (i + 1) (drop (i + 1) kept) (drop (i + 1) xs))
    ∙ ap (λ cs. copies ++ cs) (sym next)
    ∙ e

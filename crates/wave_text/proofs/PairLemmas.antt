-- Pairs in the order of their keys, one after the other.
use Rattle.std.proofs.Common.{◌≡◌, ◌+◌, ◌<◌, ℕ, zero, suc, ℤ, List, [], ◌∷◌, ◌++◌, length, take, get_or, slice_get, Some, OnOk, Result, Ok, Err, refl, sym, ap, ◌∙◌, append_assoc, append-nil, arith}
use Rattle.std.specs.Prelude.{codes}
use Rattle.std.specs.Fmt.{signed_decimal}
use Rattle.wave_text.specs.ValueTexts.{pair_text, comma_before, pairs_from}

pub at_place : {A : Type 0} (xs : List A) (i : ℕ) (d : A) → i < length xs → slice_get xs i ≡ Some (get_or xs i d)
at_place [] i d h = absurd (omega arith)
at_place (x ∷ xs) zero d h = refl
at_place (x ∷ xs) (suc i) d h = at_place xs i d (omega arith)

pub on_ok : {T E P Q : Type 0} (r : Result T E) → OnOk r P → (P → Q) → OnOk r Q
on_ok (Ok x) p f = f p
on_ok (Err e) p f = p

-- a pair written in its three parts
pub three_parts : (out a b c : List ℕ) (k v : ℤ) → a ≡ out ++ signed_decimal k → b ≡ a ++ codes ": " → c ≡ b ++ signed_decimal v → c ≡ out ++ pair_text (k, v)
three_parts out a b c k v p q r =
    r ∙ ap (λ z. z ++ signed_decimal v) (q ∙ ap (λ z. z ++ codes ": ") p) ∙ append_assoc (out ++ signed_decimal k) (codes ": ") (signed_decimal v)
    ∙ append_assoc out (signed_decimal k) (codes ": " ++ signed_decimal v) ∙ ap (λ z. out ++ z) (sym (append_assoc (signed_decimal k) (codes ": ") (signed_decimal v)))

take_more : (pairs : List (ℤ × ℤ)) (i n : ℕ) (p : ℤ × ℤ) → slice_get pairs n ≡ Some p
    → pairs_from i (take (suc n) pairs) ≡ pairs_from i (take n pairs) ++ (comma_before (i + n) ++ pair_text p)
take_more [] i n p e = cc
take_more (q ∷ qs) i zero p e =
    let same : q ≡ p = cc in
    let first : i + 0 ≡ i = omega arith in
    append-nil (comma_before i ++ pair_text q) ∙ (λ j. comma_before (sym first j) ++ pair_text (same j))
take_more (q ∷ qs) i (suc n) p e =
    let next : i + 1 + n ≡ i + suc n = omega arith in
    ap (λ z. (comma_before i ++ pair_text q) ++ z) (take_more qs (i + 1) n p e)
    ∙ sym (append_assoc (comma_before i ++ pair_text q) (pairs_from (i + 1) (take n qs)) (comma_before (i + 1 + n) ++ pair_text p))
    ∙ ap (λ k. ((comma_before i ++ pair_text q) ++ pairs_from (i + 1) (take n qs)) ++ (comma_before k ++ pair_text p)) next

-- one pair more is written
pub pairs_more : (out a b : List ℕ) (pairs : List (ℤ × ℤ)) (n : ℕ) (p : ℤ × ℤ) → slice_get pairs n ≡ Some p → a ≡ out ++ pairs_from 0 (take n pairs) → b ≡ (a ++ comma_before n) ++ pair_text p
    → b ≡ out ++ pairs_from 0 (take (n + 1) pairs)
pairs_more out a b pairs n p e f g =
    let one : n + 1 ≡ suc n = omega arith in
    let same : 0 + n ≡ n = omega arith in
    g ∙ append_assoc a (comma_before n) (pair_text p) ∙ ap (λ z. z ++ (comma_before n ++ pair_text p)) f
    ∙ append_assoc out (pairs_from 0 (take n pairs)) (comma_before n ++ pair_text p)
    ∙ ap (λ z. out ++ z) (ap (λ k. pairs_from 0 (take n pairs) ++ (comma_before k ++ pair_text p)) (sym same) ∙ sym (take_more pairs 0 n p e) ∙ ap (λ k. pairs_from 0 (take k pairs)) (sym one))

-- The number of a text's lines, and the head that tells it.
use Rattle.std.proofs.Common.{◌≡◌, ◌+◌, ◌<◌, ◌≤◌, ◌^◌, ℕ, zero, suc, Bool, true, false, cond, List, [], ◌∷◌, ◌++◌, length, get_or, refl, sym, ap, subst, ◌∙◌, length-append, arith}
use Rattle.std.specs.Prelude.{◌==◌, ◌&&◌, not, count_by}
use Rattle.std.specs.Char.{is_ascii_digit}
use Rattle.std.specs.Fmt.{decimal}
use Rattle.std.specs.List.{list_all}
use Rattle.std.proofs.lemmas.Bool.{and_parts}
use Rattle.std.proofs.lemmas.Bool.Decides.{nat_tests}
use Rattle.std.proofs.lemmas.Fmt.{digits_decimal}
use Rattle.std.proofs.lemmas.List.Sums.{sum_by-cons, sum_by-append, count_by-le-length}
use Rattle.wave_text.specs.Counted.{left_over, line_count, counted_lines, IsBehindHead, HasNoHead}
use Rattle.wave_text.specs.Splits.{is_other, HasNone, IsSplit}
use Rattle.wave_text.proofs.NumberLemmas.{own}
use Rattle.wave_text.proofs.SplitLemmas.{none-append, nowhere, one_split}

-- ---- what stands behind the last line feed

pub ends_fed : (l : List ℕ) (n : ℕ) → length l ≡ suc n → get_or l n 0 ≡ 10 → 0 ≡ left_over l
ends_fed [] n e h = absurd (omega arith)
ends_fed (b ∷ []) zero e h = grind (arith, nat_tests)
ends_fed (b ∷ []) (suc n) e h = absurd (omega arith)
ends_fed (b ∷ c ∷ bs) zero e h = absurd (omega arith)
ends_fed (b ∷ c ∷ bs) (suc n) e h = ends_fed (c ∷ bs) n (omega arith) h

pub ends_unfed : (l : List ℕ) (n : ℕ) → length l ≡ suc n → (get_or l n 0 ≡ 10 → ⊥) → 1 ≡ left_over l
ends_unfed [] n e h = absurd (omega arith)
ends_unfed (b ∷ []) zero e h = grind (arith, nat_tests)
ends_unfed (b ∷ []) (suc n) e h = absurd (omega arith)
ends_unfed (b ∷ c ∷ bs) zero e h = absurd (omega arith)
ends_unfed (b ∷ c ∷ bs) (suc n) e h = ends_unfed (c ∷ bs) n (omega arith) h

abbrev is_feed : ℕ → Bool
is_feed b = b == 10

-- ---- the number of lines is small

left_few : (text : List ℕ) → left_over text ≤ 1
left_few [] = omega arith
left_few (b ∷ []) = elim (b == 10) as (λ t. cond t 0 1 ≤ 1) [ true ↦ omega arith | false ↦ omega arith ]
left_few (b ∷ c ∷ bs) = left_few (c ∷ bs)

pub few_lines : (text : List ℕ) → line_count text ≤ length text + 1
few_lines text = omega (arith, left_few text, count_by-le-length is_feed text)

-- ---- a line more

feeds_none : (xs : List ℕ) → HasNone 10 xs → count_by is_feed xs ≡ 0
feeds_none [] h = refl
feeds_none (b ∷ bs) h =
    let t = and_parts (not (b == 10)) (list_all (is_other 10) bs) h in
    sum_by-cons (λ x. cond (is_feed x) 1 0) b bs ∙ zero (b == 10) t.0 (count_by is_feed bs) (feeds_none bs t.1)
  where
    zero : (t : Bool) → not t ≡ true → (n : ℕ) → n ≡ 0 → cond t 1 0 + n ≡ 0
    zero true h n e = cc
    zero false h n e = omega arith

pub left_behind : (xs ys : List ℕ) → left_over (xs ++ 10 ∷ ys) ≡ left_over (10 ∷ ys)
left_behind [] ys = refl
left_behind (x ∷ []) ys = refl
left_behind (x ∷ z ∷ xs) ys = left_behind (z ∷ xs) ys

left_feed : (ys : List ℕ) → left_over (10 ∷ ys) ≡ left_over ys
left_feed [] = refl
left_feed (y ∷ ys) = refl

pub line_more : (xs ys : List ℕ) → HasNone 10 xs → line_count (xs ++ 10 ∷ ys) ≡ 1 + line_count ys
line_more xs ys h =
    let feeds : count_by is_feed (xs ++ 10 ∷ ys) ≡ count_by is_feed xs + count_by is_feed (10 ∷ ys) = sum_by-append (λ x. cond (is_feed x) 1 0) xs (10 ∷ ys) in
    let one : count_by is_feed (10 ∷ ys) ≡ 1 + count_by is_feed ys = sum_by-cons (λ x. cond (is_feed x) 1 0) 10 ys in
    omega (arith, feeds, one, feeds_none xs h, left_behind xs ys, left_feed ys)

-- ---- the head at the front of a text

other_digits : (bs : List ℕ) → list_all is_ascii_digit bs ≡ true → HasNone 10 bs
other_digits [] h = refl
other_digits (b ∷ bs) h =
    let t = and_parts (is_ascii_digit b) (list_all is_ascii_digit bs) h in
    (λ i. is_no_feed t.0 i && list_all (is_other 10) bs) ∙ other_digits bs t.1
  where
    is_no_feed : is_ascii_digit b ≡ true → is_other 10 b ≡ true
    is_no_feed e = grind (arith, nat_tests)

module _ (word : List ℕ) (none : HasNone 10 word) where
  head_has_none : (n : ℕ) → n < 2 ^ 64 → HasNone 10 (word ++ decimal n)
  head_has_none n h = none-append 10 word (decimal n) none (other_digits (decimal n) (digits_decimal own n h))

  behind_short : (xs ys : List ℕ) → length ys ≤ length (xs ++ 10 ∷ ys)
  behind_short xs ys = omega (arith, length-append xs (10 ∷ ys))

  pub no_line_feed : (text : List ℕ) → HasNone 10 text → HasNoHead word text
  no_line_feed text h other f = nowhere 10 (word ++ decimal (line_count other)) other (subst (HasNone 10) f h)

  module _ (text head rest : List ℕ) (short : length text < 2 ^ 63) (s : IsSplit 10 text head rest) where
    head_front : (other : List ℕ) → text ≡ counted_lines word other → (head ≡ word ++ decimal (line_count rest)) × (rest ≡ other)
    head_front other e =
        let within : length other ≤ length text = subst (λ t. length other ≤ length t) (sym e) (behind_short (word ++ decimal (line_count other)) other) in
        let few : line_count other < 2 ^ 64 = omega (arith, few_lines other) in
        let parts = one_split 10 head rest (word ++ decimal (line_count other)) other s.first (head_has_none (line_count other) few) (sym s.spelled ∙ e) in
        (parts.0 ∙ ap (λ t. word ++ decimal (line_count t)) (sym parts.1), parts.1)

    pub behind_head : (written : List ℕ) → written ≡ word ++ decimal (line_count rest) → written ≡ head → IsBehindHead word text rest
    behind_head written w e = record {
      spelled = s.spelled ∙ ap (λ h. h ++ 10 ∷ rest) (sym e ∙ w);
      only = λ other f. sym (head_front other f).1;
    }

    pub no_head : (written : List ℕ) → written ≡ word ++ decimal (line_count rest) → (written ≡ head → ⊥) → HasNoHead word text
    no_head written w differ other f = differ (w ∙ sym (head_front other f).0)

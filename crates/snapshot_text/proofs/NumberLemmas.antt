-- Which bytes stand nowhere in numbers and values as they are written.
use Rattle.std.proofs.Common.{◌≡◌, ◌+◌, ◌<◌, ℕ, ℤ, true, false, cond, List, [], ◌∷◌, ◌++◌, FitsSigned, w64, refl, ap, ◌∙◌, append_assoc, append-nil, arith, lit<}
use Rattle.std.specs.Prelude.{◌==◌, ◌&&◌, ◌||◌, codes}
use Rattle.std.specs.Char.{is_ascii_digit}
use Rattle.std.specs.Fmt.{signed_decimal}
use Rattle.std.specs.List.{list_all}
use Rattle.std.proofs.lemmas.Bool.Decides.{nat_tests}
use Rattle.wave_base.specs.Names.{is_digits}
use Rattle.wave_text.specs.ValueTexts.{pair_text, comma_before, pairs_from, pairs_text}
use Rattle.wave_text.specs.Words.{is_whole}
use Rattle.wave_text.proofs.ReadBack.{whole_again}
use Rattle.wave_text.specs.Splits.{is_other, HasNone}
use Rattle.journal_text.proofs.SolidLemmas.{IsSolid, all_imply, whole_solid, solid_has_none}
use Rattle.wave_text.proofs.SplitLemmas.{none-append}
use Rattle.snapshot_text.specs.inner.Guesses.{AreNumbers}
use Rattle.snapshot_text.proofs.ByteLemmas.{is_number_byte, not_comma, not_colon, not_brace}

digit_is : (b : ℕ) → is_ascii_digit b ≡ true → is_number_byte b ≡ true
digit_is b h = ap (λ t. t || b == 45) h

minus_is : (b : ℕ) → b == 45 ≡ true → is_number_byte b ≡ true
minus_is b h = grind (arith, nat_tests)

digits_are : (bs : List ℕ) → is_digits bs ≡ true → list_all is_number_byte bs ≡ true
digits_are [] h = refl
digits_are (b ∷ bs) h = all_imply is_ascii_digit is_number_byte digit_is (b ∷ bs) h

whole_are : (bs : List ℕ) → is_whole bs ≡ true → list_all is_number_byte bs ≡ true
whole_are [] h = refl
whole_are (b ∷ bs) h =
    elim (b == 45) as (λ t. b == 45 ≡ t → is_digits (cond t bs (b ∷ bs)) ≡ true → list_all is_number_byte (b ∷ bs) ≡ true) [
      | true ↦ λ e d. ap (λ t. t && list_all is_number_byte bs) (minus_is b e) ∙ digits_are bs d
      | false ↦ λ e d. digits_are (b ∷ bs) d
    ] refl h

number_none : (b : ℕ) → ((c : ℕ) → is_number_byte c ≡ true → is_other b c ≡ true) → (z : ℤ) → FitsSigned w64 z → HasNone b (signed_decimal z)
number_none b f z h = all_imply is_number_byte (is_other b) f (signed_decimal z) (whole_are (signed_decimal z) (whole_again z h).0)

pub number_no_colon : (z : ℤ) → FitsSigned w64 z → HasNone 58 (signed_decimal z)
number_no_colon = number_none 58 not_colon

-- no byte up to the space
pub number_solid : (z : ℤ) → FitsSigned w64 z → IsSolid (signed_decimal z)
number_solid z h = whole_solid (signed_decimal z) (whole_again z h).0

pub number_has_none : (b : ℕ) → b < 33 → (z : ℤ) → FitsSigned w64 z → HasNone b (signed_decimal z)
number_has_none b low z h = solid_has_none b low (signed_decimal z) (number_solid z h)

-- ---- pairs

pub pair_spelled : (p : ℤ × ℤ) → pair_text p ≡ signed_decimal p.0 ++ 58 ∷ 32 ∷ signed_decimal p.1
pair_spelled p = append_assoc (signed_decimal p.0) (58 ∷ 32 ∷ []) (signed_decimal p.1)

pair_none : (b : ℕ) → HasNone b (58 ∷ 32 ∷ []) → ((c : ℕ) → is_number_byte c ≡ true → is_other b c ≡ true) → (p : ℤ × ℤ) → AreNumbers p → HasNone b (pair_text p)
pair_none b h f p a = none-append b (signed_decimal p.0 ++ 58 ∷ 32 ∷ []) (signed_decimal p.1) (none-append b (signed_decimal p.0) (58 ∷ 32 ∷ []) (number_none b f p.0 a.key) h) (number_none b f p.1 a.value)

pub pair_no_comma : (p : ℤ × ℤ) → AreNumbers p → HasNone 44 (pair_text p)
pair_no_comma = pair_none 44 refl not_comma

pub pair_no_brace : (p : ℤ × ℤ) → AreNumbers p → HasNone 125 (pair_text p)
pair_no_brace = pair_none 125 refl not_brace

pub pair_no_feed : (p : ℤ × ℤ) → AreNumbers p → HasNone 10 (pair_text p)
pair_no_feed p a =
    none-append 10 (signed_decimal p.0 ++ 58 ∷ 32 ∷ []) (signed_decimal p.1)
    (none-append 10 (signed_decimal p.0) (58 ∷ 32 ∷ []) (number_has_none 10 (lit< tt) p.0 a.key) refl) (number_has_none 10 (lit< tt) p.1 a.value)

-- pairs with a comma and a space between two of them
abbrev pub joined : List (ℤ × ℤ) → List ℕ
joined [] = []
joined (p ∷ []) = pair_text p
joined (p ∷ q ∷ ps) = pair_text p ++ 44 ∷ 32 ∷ joined (q ∷ ps)

comma_more : (i : ℕ) → comma_before (i + 1) ≡ 44 ∷ 32 ∷ []
comma_more i = (let later : (i + 1) == 0 ≡ false = grind (arith, nat_tests) in ap (λ t. cond t [] (codes ", ")) later)

from_joined : (i : ℕ) (p : ℤ × ℤ) (ps : List (ℤ × ℤ)) → pairs_from i (p ∷ ps) ≡ comma_before i ++ joined (p ∷ ps)
from_joined i p [] = append-nil (comma_before i ++ pair_text p)
from_joined i p (q ∷ qs) =
    ap (λ z. (comma_before i ++ pair_text p) ++ z) (from_joined (i + 1) q qs ∙ ap (λ c. c ++ joined (q ∷ qs)) (comma_more i))
    ∙ append_assoc (comma_before i) (pair_text p) (44 ∷ 32 ∷ joined (q ∷ qs))

pub pairs_joined : (ps : List (ℤ × ℤ)) → pairs_text ps ≡ joined ps
pairs_joined [] = refl
pairs_joined (p ∷ ps) = from_joined 0 p ps

abbrev pub Fit : List (ℤ × ℤ) → Type 0
Fit [] = Unit {0}
Fit (p ∷ ps) = AreNumbers p × Fit ps

joined_none : (b : ℕ) → HasNone b (44 ∷ 32 ∷ []) → ((p : ℤ × ℤ) → AreNumbers p → HasNone b (pair_text p)) → (ps : List (ℤ × ℤ)) → Fit ps → HasNone b (joined ps)
joined_none b h f [] a = refl
joined_none b h f (p ∷ []) a = f p a.0
joined_none b h f (p ∷ q ∷ ps) a = none-append b (pair_text p) ((44 ∷ 32 ∷ []) ++ joined (q ∷ ps)) (f p a.0) (none-append b (44 ∷ 32 ∷ []) (joined (q ∷ ps)) h (joined_none b h f (q ∷ ps) a.1))

pub joined_no_brace : (ps : List (ℤ × ℤ)) → Fit ps → HasNone 125 (joined ps)
joined_no_brace = joined_none 125 refl pair_no_brace

pub joined_no_feed : (ps : List (ℤ × ℤ)) → Fit ps → HasNone 10 (joined ps)
joined_no_feed = joined_none 10 refl pair_no_feed

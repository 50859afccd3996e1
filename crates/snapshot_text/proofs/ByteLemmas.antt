-- Which bytes stand nowhere in numbers and in words.
use Rattle.std.proofs.Common.{◌≡◌, ℕ, Bool, true, false, cond, List, [], ◌∷◌, ◌++◌, refl, sym, ap, subst, ◌∙◌, append-nil, arith}
use Rattle.std.specs.Prelude.{◌==◌, ◌&&◌, ◌||◌, not, nat_le}
use Rattle.std.specs.Char.{is_ascii_digit}
use Rattle.std.specs.List.{list_all}
use Rattle.std.proofs.lemmas.Bool.{and_parts}
use Rattle.std.proofs.lemmas.Bool.Decides.{nat_tests}
use Rattle.wave_base.specs.Names.{is_name_start, is_name_byte, is_word}
use Rattle.wave_text.specs.Splits.{is_other, HasNone}
use Rattle.wave_text.proofs.SplitLemmas.{one_split, nowhere}
use Rattle.journal_text.proofs.SolidLemmas.{all_imply, start_is_byte}
use Rattle.snapshot_text.specs.Forms.{is_plain_digits, is_zero, is_plain}
use Rattle.snapshot_text.specs.inner.Fronts.{Ends, IsRun}

-- ---- numbers

abbrev pub is_number_byte : ℕ → Bool
is_number_byte b = is_ascii_digit b || b == 45

digit_is : (b : ℕ) → is_ascii_digit b ≡ true → is_number_byte b ≡ true
digit_is b h = ap (λ t. t || b == 45) h

minus_is : (b : ℕ) → b == 45 ≡ true → is_number_byte b ≡ true
minus_is b h = grind (arith, nat_tests)

high_digit : (b : ℕ) → (nat_le 49 b && nat_le b 57) ≡ true → is_ascii_digit b ≡ true
high_digit b h = grind (arith, nat_tests)

pub plain_digits : (bs : List ℕ) → is_plain_digits bs ≡ true → list_all is_ascii_digit bs ≡ true
plain_digits [] h = refl
plain_digits (b ∷ []) h = ap (λ t. t && true) h
plain_digits (b ∷ c ∷ bs) h =
    let k = and_parts (nat_le 49 b && nat_le b 57) (list_all is_ascii_digit (c ∷ bs)) h in
    ap (λ t. t && list_all is_ascii_digit (c ∷ bs)) (high_digit b k.0) ∙ k.1

digit_bytes : (bs : List ℕ) → is_plain_digits bs ≡ true → list_all is_number_byte bs ≡ true
digit_bytes bs h = all_imply is_ascii_digit is_number_byte digit_is bs (plain_digits bs h)

pub plain_bytes : (n : List ℕ) → is_plain n ≡ true → list_all is_number_byte n ≡ true
plain_bytes [] h = refl
plain_bytes (b ∷ bs) h =
    elim (b == 45) as (λ t. b == 45 ≡ t → cond t (is_plain_digits bs && not (is_zero bs)) (is_plain_digits (b ∷ bs)) ≡ true → list_all is_number_byte (b ∷ bs) ≡ true) [
      | true ↦ λ e d. ap (λ t. t && list_all is_number_byte bs) (minus_is b e) ∙ digit_bytes bs (and_parts (is_plain_digits bs) (not (is_zero bs)) d).0
      | false ↦ λ e d. digit_bytes (b ∷ bs) d
    ] refl h

plain_none : (b : ℕ) → ((c : ℕ) → is_number_byte c ≡ true → is_other b c ≡ true) → (n : List ℕ) → is_plain n ≡ true → HasNone b n
plain_none b f n h = all_imply is_number_byte (is_other b) f n (plain_bytes n h)

not_space : (c : ℕ) → is_number_byte c ≡ true → is_other 32 c ≡ true
not_space c h = grind (arith, nat_tests)

pub not_comma : (c : ℕ) → is_number_byte c ≡ true → is_other 44 c ≡ true
not_comma c h = grind (arith, nat_tests)

pub not_colon : (c : ℕ) → is_number_byte c ≡ true → is_other 58 c ≡ true
not_colon c h = grind (arith, nat_tests)

pub not_brace : (c : ℕ) → is_number_byte c ≡ true → is_other 125 c ≡ true
not_brace c h = grind (arith, nat_tests)

pub plain_no_space : (n : List ℕ) → is_plain n ≡ true → HasNone 32 n
plain_no_space = plain_none 32 not_space

pub plain_no_comma : (n : List ℕ) → is_plain n ≡ true → HasNone 44 n
plain_no_comma = plain_none 44 not_comma

pub plain_no_colon : (n : List ℕ) → is_plain n ≡ true → HasNone 58 n
plain_no_colon = plain_none 58 not_colon

pub plain_no_brace : (n : List ℕ) → is_plain n ≡ true → HasNone 125 n
plain_no_brace = plain_none 125 not_brace

-- a number begins with a digit or a minus
pub plain_first : (b : ℕ) (bs : List ℕ) → is_plain (b ∷ bs) ≡ true → is_number_byte b ≡ true
plain_first b bs h = (and_parts (is_number_byte b) (list_all is_number_byte bs) (plain_bytes (b ∷ bs) h)).0

-- ---- words

not_equals : (b : ℕ) → is_name_byte b ≡ true → is_other 61 b ≡ true
not_equals b h = grind (arith, nat_tests)

pub word_no_equals : (w : List ℕ) → is_word w ≡ true → HasNone 61 w
word_no_equals [] h = refl
word_no_equals (b ∷ bs) h =
    let k = and_parts (is_name_start b) (list_all is_name_byte bs) h in
    ap (λ t. t && list_all (is_other 61) bs) (not_equals b (start_is_byte b k.0)) ∙ all_imply is_name_byte (is_other 61) not_equals bs k.1

-- ---- the bytes before the first space

pub one_run : (text run rest : List ℕ) → IsRun text run rest → (front left : List ℕ) → HasNone 32 front → Ends left → text ≡ front ++ left → (run ≡ front) × (rest ≡ left)
one_run text run rest r front left none ends e = by_ends rest left r.ends ends (sym r.spelled ∙ e)
  where
    by_ends : (rest left : List ℕ) → Ends rest → Ends left → run ++ rest ≡ front ++ left → (run ≡ front) × (rest ≡ left)
    by_ends [] [] p q f = (sym (append-nil run) ∙ f ∙ append-nil front, refl)
    by_ends [] (c ∷ left) p q f = absurd (nowhere 32 front left (subst (HasNone 32) (sym (append-nil run) ∙ f ∙ ap (λ x. front ++ x ∷ left) q) r.solid))
    by_ends (b ∷ rest) [] p q f = absurd (nowhere 32 run rest (subst (HasNone 32) (sym (append-nil front) ∙ sym f ∙ ap (λ x. run ++ x ∷ rest) p) none))
    by_ends (b ∷ rest) (c ∷ left) p q f =
        let o = one_split 32 run rest front left r.solid none (ap (λ x. run ++ x ∷ rest) (sym p) ∙ f ∙ ap (λ x. front ++ x ∷ left) q) in
        (o.0, λ i. (p ∙ sym q) i ∷ o.1 i)

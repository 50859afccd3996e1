-- The step at the front of a text.
use Rattle.std.proofs.Common.{◌≡◌, ℕ, Bool, true, false, cond, List, [], ◌∷◌, ◌++◌, length, refl, sym, ap, subst, ◌∙◌, append_assoc, arith}
use Rattle.std.specs.Prelude.{◌==◌, ◌&&◌, nat_le}
use Rattle.std.specs.Char.{is_ascii_digit}
use Rattle.std.specs.List.{list_all}
use Rattle.std.proofs.lemmas.Bool.{and_parts}
use Rattle.std.proofs.lemmas.Bool.Decides.{nat_tests}
use Rattle.wave_base.specs.Names.{is_digits, is_name_start, is_name_byte, is_word}
use Rattle.wave_text.specs.Words.{is_whole, without_minus}
use Rattle.wave_text.proofs.SplitLemmas.{one_split, nowhere}
use Rattle.path_text.specs.declared.written.Written.{Written}
use Rattle.wave_text.specs.Splits.{is_other, HasNone, IsSplit}
use Rattle.path_text.specs.inner.Fronts.{AreParts, IsFront, IsOnlyFront, HasNoFront}
use Rattle.path_text.specs.Steps.{is_key, is_step, step_text}

-- ---- a step at the front

word_byte : (b : ℕ) → is_name_byte b ≡ true → is_other 91 b ≡ true
word_byte b h = grind (arith, nat_tests)

key_digit : (b : ℕ) → is_ascii_digit b ≡ true → is_other 93 b ≡ true
key_digit b h = grind (arith, nat_tests)

head_of_all : (p : ℕ → Bool) (b : ℕ) (bs : List ℕ) → list_all p (b ∷ bs) ≡ true → (p b ≡ true) × (list_all p bs ≡ true)
head_of_all p b bs h = elim (p b) as (λ t. (t && list_all p bs) ≡ true → (t ≡ true) × (list_all p bs ≡ true)) [ true ↦ λ k. (refl, k) | false ↦ λ k. cc ] h

all_imply : (p q : ℕ → Bool) → ((b : ℕ) → p b ≡ true → q b ≡ true) → (bs : List ℕ) → list_all p bs ≡ true → list_all q bs ≡ true
all_imply p q f [] h = refl
all_imply p q f (b ∷ bs) h =
    let k = head_of_all p b bs h in
    (λ i. f b k.0 i && list_all q bs) ∙ all_imply p q f bs k.1

start_is_byte : (b : ℕ) → is_name_start b ≡ true → is_name_byte b ≡ true
start_is_byte b h = grind (arith, nat_tests)

pub word_has_none : (w : List ℕ) → is_word w ≡ true → HasNone 91 w
word_has_none [] h = cc
word_has_none (b ∷ bs) h =
    let k = and_parts (is_name_start b) (list_all is_name_byte bs) h in
    (λ i. word_byte b (start_is_byte b k.0) i && list_all (is_other 91) bs) ∙ all_imply is_name_byte (is_other 91) word_byte bs k.1

digits_have_none : (bs : List ℕ) → is_digits bs ≡ true → HasNone 93 bs
digits_have_none [] h = cc
digits_have_none (b ∷ bs) h = all_imply is_ascii_digit (is_other 93) key_digit (b ∷ bs) h

pub key_has_none : (k : List ℕ) → is_key k ≡ true → HasNone 93 k
key_has_none k h = whole k (and_parts (is_whole k) (nat_le (length (without_minus k)) 19) h).0
  where
    is_minus : (b : ℕ) → b == 45 ≡ true → is_other 93 b ≡ true
    is_minus b e = grind (arith, nat_tests)

    whole : (k : List ℕ) → is_whole k ≡ true → HasNone 93 k
    whole [] h = cc
    whole (b ∷ bs) h =
        elim (b == 45) as (λ t. b == 45 ≡ t → is_digits (cond t bs (b ∷ bs)) ≡ true → HasNone 93 (b ∷ bs)) [
          | true ↦ λ e d. (λ i. is_minus b e i && list_all (is_other 93) bs) ∙ digits_have_none bs d
          | false ↦ λ e d. digits_have_none (b ∷ bs) d
        ] refl h

-- the parts of a step in a text
parts : (s : Written) (rest : List ℕ) → step_text s ++ rest ≡ 47 ∷ (s.name ++ 91 ∷ (s.key ++ 93 ∷ rest))
parts s rest = ap (λ r. 47 ∷ r) (append_assoc s.name (91 ∷ (s.key ++ 93 ∷ [])) rest ∙ ap (λ r. s.name ++ 91 ∷ r) (append_assoc s.key (93 ∷ []) rest))

pub front_is : (text : List ℕ) (s : Written) (rest : List ℕ) → AreParts text s.name s.key rest → is_step s ≡ true → IsFront text s rest
front_is text s rest a form = record {
  spelled = a.slash ∙ ap (λ r. 47 ∷ r) (a.bracket.spelled ∙ ap (λ r. s.name ++ 91 ∷ r) a.close.spelled) ∙ sym (parts s rest);
  form = form;
}

-- any step at the front begins with the same name
name_is : (behind name inner : List ℕ) (s : Written) (rest : List ℕ) → IsSplit 91 behind name inner → IsFront (47 ∷ behind) s rest → (name ≡ s.name) × (inner ≡ s.key ++ 93 ∷ rest)
name_is behind name inner s rest b f =
    let form = and_parts (is_word s.name) (is_key s.key) f.form in
    let whole : 47 ∷ behind ≡ 47 ∷ (s.name ++ 91 ∷ (s.key ++ 93 ∷ rest)) = f.spelled ∙ parts s rest in
    let same : behind ≡ s.name ++ 91 ∷ (s.key ++ 93 ∷ rest) = cc in
    one_split 91 name inner s.name (s.key ++ 93 ∷ rest) b.first (word_has_none s.name form.0) (sym b.spelled ∙ same)

pub no_close : (text behind name inner : List ℕ) → text ≡ 47 ∷ behind → IsSplit 91 behind name inner → HasNone 93 inner → HasNoFront text
no_close text behind name inner e b h s rest f =
    let n = name_is behind name inner s rest b (subst (λ t. IsFront t s rest) e f) in
    nowhere 93 s.key rest (subst (HasNone 93) n.1 h)

-- the text has one step at its front
pub one_front : (text name key left : List ℕ) → AreParts text name key left → (s : Written) (rest : List ℕ) → IsFront text s rest → (name ≡ s.name) × (key ≡ s.key) × (left ≡ rest)
one_front text name key left a s rest f =
    let form = and_parts (is_word s.name) (is_key s.key) f.form in
    let n = name_is a.behind name a.inner s rest a.bracket (subst (λ t. IsFront t s rest) a.slash f) in
    let k = one_split 93 key left s.key rest a.close.first (key_has_none s.key form.1) (sym a.close.spelled ∙ n.1) in
    (n.0, k.0, k.1)

pub no_form : (text name key left : List ℕ) → AreParts text name key left → (is_word name && is_key key) ≡ false → HasNoFront text
no_form text name key left a h s rest f =
    let o = one_front text name key left a s rest f in
    absurd (cc (sym f.form ∙ (λ i. is_word (sym o.0 i) && is_key (sym o.1 i)) ∙ h))

pub only_front : (text : List ℕ) (s : Written) (left : List ℕ) → AreParts text s.name s.key left → (is_word s.name && is_key s.key) ≡ true → IsOnlyFront text s left
only_front text s left a form = record {
  front = front_is text s left a form;
  only = λ other rest f.
      let o = one_front text s.name s.key left a other rest f in
      ((λ i. record { name = sym o.0 i; key = sym o.1 i }), sym o.2);
}

-- What the first two bytes tell of a piece.
use Rattle.std.proofs.Common.{◌≡◌, ℕ, Bool, true, false, ◌&&◌, ◌||◌, List, [], ◌∷◌, length, get_or, Option, Some, All, refl, sym, ◌∙◌, ap, subst, arith, ⊎_elim, eqb-true}
use Rattle.std.specs.Prelude.{◌==◌, if◌then◌else◌}
use Rattle.std.specs.Char.{is_ascii_digit}
use Rattle.std.specs.List.{list_all}
use Rattle.std.specs.Str.{bytes_eq}
use Rattle.std.proofs.lemmas.Bool.Decides.{nat_tests}
use Rattle.std.proofs.lemmas.Slice.Eq.{bytes_eq-Decides}
use Rattle.wave_base.specs.Names.{is_digits, is_name_start, is_name_byte, is_word}
use Rattle.wave_base.specs.Text.{IsPrintable}
use Rattle.mace_lexer.specs.declared.cut.Form.{Form}
use Rattle.mace_lexer.specs.declared.cut.Form.TheVariants as form
use Rattle.mace_lexer.specs.declared.keyword.Keyword.{Keyword}
use Rattle.mace_lexer.specs.declared.sign.Sign.{Sign}
use Rattle.mace_lexer.specs.declared.token.Word.TheVariants as word
use Rattle.mace_lexer.specs.declared.fault.LexFault.TheVariants.{BadByte, NumberRange, OpenText, NameLong, TextLong}
use Rattle.mace_lexer.specs.Spellings.{keywords, signs}
use Rattle.mace_lexer.specs.Words.{is_blank, is_inside_line, is_comment, entry_of, keyword, sign}
use Rattle.mace_lexer.specs.inner.Fronts.{form_by, form_of}
use Rattle.wave_base.specs.Text.{quoted_text}
use Rattle.mace_lexer.specs.Pieces.{Piece, Gap, Spell, Wrong, IsPiece}

-- ---- tests

pub and_cases : (a b : Bool) → (a && b) ≡ true → (a ≡ true) × (b ≡ true)
and_cases true b e = (refl, e)
and_cases false b e = cc

-- what passes a test is not what fails it
differs : (p : ℕ → Bool) (a n : ℕ) → p a ≡ true → p n ≡ false → (a == n) ≡ false
differs p a n h k = go (a == n) refl
  where
    go : (b : Bool) → (a == n) ≡ b → (a == n) ≡ false
    go false e = e
    go true e = let same : a ≡ n = eqb-true a n e in let l : p n ≡ true = subst (λ x. p x ≡ true) same h in cc

-- ---- tables

found : {A : Type 0} (p : List ℕ → Bool) (t : List ℕ) (y : A) (bs : List ℕ) (x : A) (others : Option A) → p t ≡ true → (others ≡ Some x → p bs ≡ true) → (if bytes_eq t bs then Some y else others) ≡ Some x → p bs ≡ true
found p t y bs x others h more e = go (bytes_eq t bs) refl
  where
    go : (b : Bool) → bytes_eq t bs ≡ b → p bs ≡ true
    go true k = subst (λ w. p w ≡ true) ((bytes_eq-Decides t bs).0 k) h
    go false k = more (sym (ap (λ b. if b then Some y else others) k) ∙ e)

-- what every entry of a table passes, what is found there passes
pub entry_passes : {A : Type 0} (p : List ℕ → Bool) (table : List (List ℕ × A)) (bs : List ℕ) (x : A) → list_all (λ (e : List ℕ × A). p e.0) table ≡ true → entry_of table bs ≡ Some x → p bs ≡ true
entry_passes p [] bs x h e = cc
entry_passes p (t ∷ table) bs x h e =
    let both = and_cases (p t.0) (list_all (λ f. p f.0) table) h in
    found p t.0 t.1 bs x (entry_of table bs) both.0 (entry_passes p table bs x both.1) e

pub keyword_passes : (p : List ℕ → Bool) (bs : List ℕ) (k : Keyword) → list_all (λ (e : List ℕ × Keyword). p e.0) keywords ≡ true → keyword bs ≡ Some k → p bs ≡ true
unfolding keyword
keyword_passes p bs k h e = entry_passes p keywords bs k h e

pub sign_passes : (p : List ℕ → Bool) (bs : List ℕ) (s : Sign) → list_all (λ (e : List ℕ × Sign). p e.0) signs ≡ true → sign bs ≡ Some s → p bs ≡ true
unfolding sign
sign_passes p bs s h e = entry_passes p signs bs s h e

-- ---- the forms

-- bytes that are a piece of this form
abbrev pub FormAt : Form → List ℕ → Type 0
FormAt form.Blank bs = length bs ≡ 1
FormAt form.LineEnd bs = length bs ≡ 2
FormAt form.Comment bs = is_comment bs ≡ true
FormAt form.Text bs = (t : List ℕ) × (bs ≡ quoted_text t) × All IsPrintable t
FormAt form.Name bs = is_word bs ≡ true
FormAt form.Number bs = is_digits bs ≡ true
FormAt form.Sign bs = (s : Sign) × (sign bs ≡ Some s)

first_test : (a b : ℕ) → (a == 32 || a == 9 || a == 10) ≡ true → form_by a b ≡ form.Blank
first_test a b h = ap (λ t. if t then form.Blank else if a == 13 && b == 10 then form.LineEnd else if a == 47 && b == 47 then form.Comment else if a == 34 then form.Text else if is_name_start a then form.Name else if is_ascii_digit a then form.Number else form.Sign) h

line_end : (a b : ℕ) → (a == 13 && b == 10) ≡ true → form_by a b ≡ form.LineEnd
line_end a b h =
    let both = and_cases (a == 13) (b == 10) h in
    let x : a ≡ 13 = eqb-true a 13 both.0 in
    let y : b ≡ 10 = eqb-true b 10 both.1 in
    rw (x, y) refl

two_slashes : (a b : ℕ) → (a == 47 && b == 47) ≡ true → form_by a b ≡ form.Comment
two_slashes a b h =
    let two = and_cases (a == 47) (b == 47) h in
    let x : a ≡ 47 = eqb-true a 47 two.0 in
    let y : b ≡ 47 = eqb-true b 47 two.1 in
    rw (x, y) refl

blank_form : (bs : List ℕ) → is_blank bs ≡ true → FormAt (form_of bs) bs
blank_form [] h = cc
blank_form (a ∷ []) h = subst (λ f. FormAt f (a ∷ [])) (sym (first_test a 0 h)) refl
blank_form (a ∷ b ∷ []) h = subst (λ f. FormAt f (a ∷ b ∷ [])) (sym (line_end a b h)) refl
blank_form (a ∷ b ∷ c ∷ bs) h = cc

comment_form : (bs : List ℕ) → is_comment bs ≡ true → FormAt (form_of bs) bs
comment_form [] h = cc
comment_form (a ∷ []) h = cc
comment_form (a ∷ b ∷ bs) h = subst (λ f. FormAt f (a ∷ b ∷ bs)) (sym (two_slashes a b (and_cases (a == 47 && b == 47) (list_all is_inside_line bs) h).0)) h

letter_form : (a b : ℕ) → is_name_start a ≡ true → form_by a b ≡ form.Name
letter_form a b h = rw (differs is_name_start a 32 h refl, differs is_name_start a 9 h refl, differs is_name_start a 10 h refl, differs is_name_start a 13 h refl, differs is_name_start a 47 h refl, differs is_name_start a 34 h refl, h) refl

name_is : (bs : List ℕ) → is_word bs ≡ true → form_of bs ≡ form.Name
name_is [] h = cc
name_is (a ∷ bs) h = letter_form a (get_or bs 0 0) (and_cases (is_name_start a) (list_all is_name_byte bs) h).0

name_form : (bs : List ℕ) → is_word bs ≡ true → FormAt (form_of bs) bs
name_form bs h = subst (λ f. FormAt f bs) (sym (name_is bs h)) h

digit_no_letter : (a : ℕ) → is_ascii_digit a ≡ true → is_name_start a ≡ false
digit_no_letter a h = grind (arith, nat_tests)

digit_form : (a b : ℕ) → is_ascii_digit a ≡ true → form_by a b ≡ form.Number
digit_form a b h = rw (differs is_ascii_digit a 32 h refl, differs is_ascii_digit a 9 h refl, differs is_ascii_digit a 10 h refl, differs is_ascii_digit a 13 h refl, differs is_ascii_digit a 47 h refl, differs is_ascii_digit a 34 h refl, digit_no_letter a h, h) refl

number_is : (bs : List ℕ) → is_digits bs ≡ true → form_of bs ≡ form.Number
number_is [] h = cc
number_is (a ∷ bs) h = digit_form a (get_or bs 0 0) (and_cases (is_ascii_digit a) (list_all is_ascii_digit bs) h).0

number_form : (bs : List ℕ) → is_digits bs ≡ true → FormAt (form_of bs) bs
number_form bs h = subst (λ f. FormAt f bs) (sym (number_is bs h)) h

text_is : (bs t : List ℕ) → bs ≡ quoted_text t → form_of bs ≡ form.Text
text_is bs t h = rw h refl

text_form : (bs t : List ℕ) → bs ≡ quoted_text t → All IsPrintable t → FormAt (form_of bs) bs
text_form bs t h k = subst (λ f. FormAt f bs) (sym (text_is bs t h)) (t, h, k)

abbrev is_sign_form : Form → Bool
is_sign_form form.Blank = false
is_sign_form form.LineEnd = false
is_sign_form form.Comment = false
is_sign_form form.Text = false
is_sign_form form.Name = false
is_sign_form form.Number = false
is_sign_form form.Sign = true

sign_only : (f : Form) → is_sign_form f ≡ true → f ≡ form.Sign
sign_only form.Sign h = refl
sign_only form.Blank h = cc
sign_only form.LineEnd h = cc
sign_only form.Comment h = cc
sign_only form.Text h = cc
sign_only form.Name h = cc
sign_only form.Number h = cc

sign_is : (bs : List ℕ) (s : Sign) → sign bs ≡ Some s → form_of bs ≡ form.Sign
sign_is bs s h = sign_only (form_of bs) (sign_passes (λ w. is_sign_form (form_of w)) bs s refl h)

sign_form : (bs : List ℕ) (s : Sign) → sign bs ≡ Some s → FormAt (form_of bs) bs
sign_form bs s h = subst (λ f. FormAt f bs) (sym (sign_is bs s h)) (s, h)

-- a piece has the form that its first two bytes tell
pub formed : (p : Piece) (bs : List ℕ) → IsPiece p bs → FormAt (form_of bs) bs
formed Gap bs h = ⊎_elim (blank_form bs) (comment_form bs) h
formed (Spell (word.Name t)) bs h = name_form bs h.0
formed (Spell (word.Key k)) bs h = name_form bs (keyword_passes is_word bs k refl h)
formed (Spell (word.Number n)) bs h = number_form bs h.0
formed (Spell (word.Text t)) bs h = text_form bs t h.0 h.1
formed (Spell (word.Sign s)) bs h = sign_form bs s h
formed (Wrong NameLong) bs h = name_form bs h.0
formed (Wrong NumberRange) bs h = number_form bs h.0
formed (Wrong TextLong) bs h = text_form bs h.0 h.1 h.2
formed (Wrong BadByte) bs h = absurd h
formed (Wrong OpenText) bs h = absurd h

-- ---- a number for each form, and for each piece

abbrev pub form_tag : Form → ℕ
form_tag form.Blank = 0
form_tag form.LineEnd = 0
form_tag form.Comment = 0
form_tag form.Text = 1
form_tag form.Name = 2
form_tag form.Number = 3
form_tag form.Sign = 4

abbrev pub tag : Piece → ℕ
tag Gap = 0
tag (Spell (word.Text t)) = 1
tag (Wrong TextLong) = 1
tag (Spell (word.Name t)) = 2
tag (Spell (word.Key k)) = 2
tag (Wrong NameLong) = 2
tag (Spell (word.Number n)) = 3
tag (Wrong NumberRange) = 3
tag (Spell (word.Sign s)) = 4
tag (Wrong BadByte) = 5
tag (Wrong OpenText) = 5

blank_tag : (bs : List ℕ) → is_blank bs ≡ true → form_tag (form_of bs) ≡ 0
blank_tag [] h = cc
blank_tag (a ∷ []) h = ap form_tag (first_test a 0 h)
blank_tag (a ∷ b ∷ []) h = ap form_tag (line_end a b h)
blank_tag (a ∷ b ∷ c ∷ bs) h = cc

comment_tag : (bs : List ℕ) → is_comment bs ≡ true → form_tag (form_of bs) ≡ 0
comment_tag [] h = cc
comment_tag (a ∷ []) h = cc
comment_tag (a ∷ b ∷ bs) h = ap form_tag (two_slashes a b (and_cases (a == 47 && b == 47) (list_all is_inside_line bs) h).0)

pub tagged : (p : Piece) (bs : List ℕ) → IsPiece p bs → form_tag (form_of bs) ≡ tag p
tagged Gap bs h = ⊎_elim (blank_tag bs) (comment_tag bs) h
tagged (Spell (word.Name t)) bs h = ap form_tag (name_is bs h.0)
tagged (Spell (word.Key k)) bs h = ap form_tag (name_is bs (keyword_passes is_word bs k refl h))
tagged (Spell (word.Number n)) bs h = ap form_tag (number_is bs h.0)
tagged (Spell (word.Text t)) bs h = ap form_tag (text_is bs t h.0)
tagged (Spell (word.Sign s)) bs h = ap form_tag (sign_is bs s h)
tagged (Wrong NameLong) bs h = ap form_tag (name_is bs h.0)
tagged (Wrong NumberRange) bs h = ap form_tag (number_is bs h.0)
tagged (Wrong TextLong) bs h = ap form_tag (text_is bs h.0 h.1)
tagged (Wrong BadByte) bs h = absurd h
tagged (Wrong OpenText) bs h = absurd h

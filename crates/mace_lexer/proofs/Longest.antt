-- The longest front of a text that is a piece.
use Rattle.std.proofs.Common.{◌≡◌, ℕ, zero, suc, ◌+◌, ◌<◌, ◌≤◌, inl, inr, Bool, true, false, cond, ◌&&◌, ◌||◌, List, [], ◌∷◌, ◌++◌, length, take, drop, get_or, Some, None, All, refl, sym, ◌∙◌, ap, subst, arith, eqb-true, append_assoc, length-append}
use Rattle.std.specs.Prelude.{◌==◌, if◌then◌else◌, nat_le}
use Rattle.std.specs.Char.{is_ascii_digit}
use Rattle.std.specs.List.{list_all, prefix_len}
use Rattle.std.proofs.Math.Numerals.{one-add}
use Rattle.std.proofs.lemmas.List.{get_or-take, length-take, take_at, take-append-drop, append_cancel_left}
use Rattle.std.proofs.lemmas.List.Sums.{prefix_len-le-length}
use Rattle.std.proofs.lemmas.Bool.Decides.{nat_tests}
use Rattle.wave_base.specs.Names.{is_digits, is_name_start, is_name_byte, is_word}
use Rattle.wave_base.specs.Text.{IsPrintable}
use Rattle.mace_lexer.specs.declared.cut.Form.{Form}
use Rattle.mace_lexer.specs.declared.cut.Form.TheVariants as form
use Rattle.mace_lexer.specs.declared.quoted.Inside.TheVariants.{Close}
use Rattle.mace_lexer.specs.declared.sign.Sign.{Sign}
use Rattle.mace_lexer.specs.declared.token.Word.TheVariants as word
use Rattle.mace_lexer.specs.Words.{is_blank, is_inside_line, is_comment, sign}
use Rattle.mace_lexer.specs.Texts.{inside_of, is_byte}
use Rattle.wave_base.specs.Text.{escaped_text, quoted_text}
use Rattle.mace_lexer.specs.Pieces.{Piece, Gap, Spell, IsPiece, IsLongest, HasNone}
use Rattle.mace_lexer.specs.inner.Fronts.{form_by, form_of, IsBody}
use Rattle.mace_lexer.proofs.Forms.{and_cases, FormAt, formed, sign_passes}
use Rattle.mace_lexer.proofs.Bodies.{close_is, same_body}

-- ---- the tests behind a form

abbrev chain : Bool → Bool → Bool → Bool → Bool → Bool → Form
chain t1 t2 t3 t4 t5 t6 =
    if t1 then form.Blank
    else if t2 then form.LineEnd
    else if t3 then form.Comment
    else if t4 then form.Text
    else if t5 then form.Name
    else if t6 then form.Number
    else form.Sign

abbrev Told : Form → Bool → Bool → Bool → Bool → Bool → Bool → Type 0
Told form.Blank t1 t2 t3 t4 t5 t6 = t1 ≡ true
Told form.LineEnd t1 t2 t3 t4 t5 t6 = t2 ≡ true
Told form.Comment t1 t2 t3 t4 t5 t6 = t3 ≡ true
Told form.Text t1 t2 t3 t4 t5 t6 = t4 ≡ true
Told form.Name t1 t2 t3 t4 t5 t6 = t5 ≡ true
Told form.Number t1 t2 t3 t4 t5 t6 = t6 ≡ true
Told form.Sign t1 t2 t3 t4 t5 t6 = (t1 ≡ false) × (t4 ≡ false) × (t5 ≡ false) × (t6 ≡ false)

told : (t1 t2 t3 t4 t5 t6 : Bool) → Told (chain t1 t2 t3 t4 t5 t6) t1 t2 t3 t4 t5 t6
told true t2 t3 t4 t5 t6 = refl
told false true t3 t4 t5 t6 = refl
told false false true t4 t5 t6 = refl
told false false false true t5 t6 = refl
told false false false false true t6 = refl
told false false false false false true = refl
told false false false false false false = (refl, refl, refl, refl)

abbrev Tests : Form → ℕ → ℕ → Type 0
Tests f a b = Told f (a == 32 || a == 9 || a == 10) (a == 13 && b == 10) (a == 47 && b == 47) (a == 34) (is_name_start a) (is_ascii_digit a)

pub tests : (f : Form) (a b : ℕ) → form_by a b ≡ f → Tests f a b
tests f a b h = subst (λ g. Tests g a b) h (told (a == 32 || a == 9 || a == 10) (a == 13 && b == 10) (a == 47 && b == 47) (a == 34) (is_name_start a) (is_ascii_digit a))

-- ---- a longest piece, by its form

front_form : (text : List ℕ) (m : ℕ) → 1 < m → form_of (take m text) ≡ form_of text
front_form text m h =
    let a : get_or (take m text) 0 0 ≡ get_or text 0 0 = get_or-take m text 0 0 (omega arith) in
    let b : get_or (take m text) 1 0 ≡ get_or text 1 0 = get_or-take m text 1 0 h in
    ap (λ x. form_by x (get_or (take m text) 1 0)) a ∙ ap (λ x. form_by (get_or text 0 0) x) b

pub longest_by : (text : List ℕ) (n : ℕ) (p : Piece) (f : Form) → form_of text ≡ f → 0 < n → n ≤ length text → IsPiece p (take n text) → ((m : ℕ) → n < m → m ≤ length text → FormAt f (take m text) → ⊥) → IsLongest text n p
longest_by text n p f h some within piece more = record {
  within = within;
  piece = piece;
  longest = λ m q l k s. more m l k (subst (λ g. FormAt g (take m text)) (front_form text m (omega arith) ∙ h) (formed q (take m text) s));
}

-- ---- no bytes are no piece

abbrev is_some_byte : List ℕ → Bool
is_some_byte [] = false
is_some_byte (a ∷ bs) = true

pub no_empty : (q : Piece) → IsPiece q [] → ⊥
no_empty q s = let e : FormAt form.Sign [] = formed q [] s in let no : is_some_byte [] ≡ true = sign_passes is_some_byte [] e.0 refl e.1 in cc

-- ---- blanks

blank_front : (text : List ℕ) → 0 < length text → form_of text ≡ form.Blank → is_blank (take 1 text) ≡ true
blank_front [] l h = absurd (omega arith)
blank_front (a ∷ bs) l h = tests form.Blank a (get_or bs 0 0) h

pub blank_cut : (text : List ℕ) → 0 < length text → form_of text ≡ form.Blank → IsLongest text 1 Gap
blank_cut text l h = longest_by text 1 Gap form.Blank h (omega arith) l (inl (blank_front text l h)) (λ m lt le e. omega (arith, length-take m text, e))

two_bytes : (text : List ℕ) → form_of text ≡ form.LineEnd → (2 ≤ length text) × (is_blank (take 2 text) ≡ true)
two_bytes [] h = cc
two_bytes (a ∷ []) h = let t : (a == 13 && 0 == 10) ≡ true = tests form.LineEnd a 0 h in let no : (0 == 10) ≡ true = (and_cases (a == 13) (0 == 10) t).1 in cc
two_bytes (a ∷ b ∷ bs) h = (omega arith, tests form.LineEnd a b h)

pub line_end_cut : (text : List ℕ) → form_of text ≡ form.LineEnd → IsLongest text 2 Gap
line_end_cut text h = let two = two_bytes text h in longest_by text 2 Gap form.LineEnd h (omega arith) two.0 (inr_blank two.1) (λ m lt le e. omega (arith, length-take m text, e))
  where
    inr_blank : is_blank (take 2 text) ≡ true → IsPiece Gap (take 2 text)
    inr_blank k = inl k

-- ---- runs

pub all_taken : (p : ℕ → Bool) (text : List ℕ) → list_all p (take (prefix_len p text) text) ≡ true
all_taken p [] = refl
all_taken p (a ∷ bs) = go (p a) refl (all_taken p bs)
  where
    go : (b : Bool) → p a ≡ b → list_all p (take (prefix_len p bs) bs) ≡ true → list_all p (take (cond (p a) (1 + prefix_len p bs) 0) (a ∷ bs)) ≡ true
    go true e ih = rw (e, one-add (prefix_len p bs), e) ih
    go false e ih = rw e refl

pub within_run : (p : ℕ → Bool) (text : List ℕ) (m : ℕ) → m ≤ length text → list_all p (take m text) ≡ true → m ≤ prefix_len p text
within_run p text zero l h = omega arith
within_run p [] (suc m) l h = absurd (omega arith)
within_run p (a ∷ bs) (suc m) l h =
    let both = and_cases (p a) (list_all p (take m bs)) h in
    let ih = within_run p bs m (omega arith) both.1 in
    let first : p a ≡ true = both.0 in
    rw first (omega arith)

some_run : (p : ℕ → Bool) (text : List ℕ) → 0 < length text → p (get_or text 0 0) ≡ true → 0 < prefix_len p text
some_run p [] l h = absurd (omega arith)
some_run p (a ∷ bs) l h = rw h (omega arith)

-- ---- names

letter_in_name : (a : ℕ) → is_name_start a ≡ true → is_name_byte a ≡ true
letter_in_name a h = grind (arith, nat_tests)

pub name_all : (bs : List ℕ) → is_word bs ≡ true → list_all is_name_byte bs ≡ true
name_all [] h = cc
name_all (a ∷ bs) h = let both = and_cases (is_name_start a) (list_all is_name_byte bs) h in rw (letter_in_name a both.0) both.1

name_by : (bs : List ℕ) → 0 < length bs → is_name_start (get_or bs 0 0) ≡ true → list_all is_name_byte bs ≡ true → is_word bs ≡ true
name_by [] l h k = absurd (omega arith)
name_by (a ∷ bs) l h k = rw h (and_cases (is_name_byte a) (list_all is_name_byte bs) k).1

name_letter : (text : List ℕ) → form_of text ≡ form.Name → is_name_start (get_or text 0 0) ≡ true
name_letter text h = tests form.Name (get_or text 0 0) (get_or text 1 0) h

pub name_some : (text : List ℕ) → 0 < length text → form_of text ≡ form.Name → 0 < prefix_len is_name_byte text
name_some text l h = some_run is_name_byte text l (letter_in_name (get_or text 0 0) (name_letter text h))

pub name_front : (text : List ℕ) → 0 < length text → form_of text ≡ form.Name → is_word (take (prefix_len is_name_byte text) text) ≡ true
name_front text l h =
    let n = prefix_len is_name_byte text in
    let some : 0 < n = name_some text l h in
    let first : get_or (take n text) 0 0 ≡ get_or text 0 0 = get_or-take n text 0 0 some in
    name_by (take n text) (omega (arith, length-take n text, prefix_len-le-length is_name_byte text)) (rw first (name_letter text h)) (all_taken is_name_byte text)

pub name_cut : (text : List ℕ) (p : Piece) → 0 < length text → form_of text ≡ form.Name → IsPiece p (take (prefix_len is_name_byte text) text) → IsLongest text (prefix_len is_name_byte text) p
name_cut text p l h piece = longest_by text (prefix_len is_name_byte text) p form.Name h (name_some text l h) (prefix_len-le-length is_name_byte text) piece (λ m lt le e. omega (arith, within_run is_name_byte text m le (name_all (take m text) e)))

-- ---- numbers

pub number_all : (bs : List ℕ) → is_digits bs ≡ true → list_all is_ascii_digit bs ≡ true
number_all [] h = cc
number_all (a ∷ bs) h = h

number_by : (bs : List ℕ) → 0 < length bs → list_all is_ascii_digit bs ≡ true → is_digits bs ≡ true
number_by [] l h = absurd (omega arith)
number_by (a ∷ bs) l h = h

number_digit : (text : List ℕ) → form_of text ≡ form.Number → is_ascii_digit (get_or text 0 0) ≡ true
number_digit text h = tests form.Number (get_or text 0 0) (get_or text 1 0) h

pub number_some : (text : List ℕ) → 0 < length text → form_of text ≡ form.Number → 0 < prefix_len is_ascii_digit text
number_some text l h = some_run is_ascii_digit text l (number_digit text h)

pub number_front : (text : List ℕ) → 0 < length text → form_of text ≡ form.Number → is_digits (take (prefix_len is_ascii_digit text) text) ≡ true
number_front text l h =
    let n = prefix_len is_ascii_digit text in
    let some : 0 < n = number_some text l h in
    number_by (take n text) (omega (arith, length-take n text, prefix_len-le-length is_ascii_digit text)) (all_taken is_ascii_digit text)

pub number_cut : (text : List ℕ) (p : Piece) → 0 < length text → form_of text ≡ form.Number → IsPiece p (take (prefix_len is_ascii_digit text) text) → IsLongest text (prefix_len is_ascii_digit text) p
number_cut text p l h piece = longest_by text (prefix_len is_ascii_digit text) p form.Number h (number_some text l h) (prefix_len-le-length is_ascii_digit text) piece (λ m lt le e. omega (arith, within_run is_ascii_digit text m le (number_all (take m text) e)))

-- ---- comments

comment_all : (bs : List ℕ) → is_comment bs ≡ true → list_all is_inside_line bs ≡ true
comment_all [] h = cc
comment_all (a ∷ []) h = cc
comment_all (a ∷ b ∷ bs) h =
    let both = and_cases (a == 47 && b == 47) (list_all is_inside_line bs) h in
    let two = and_cases (a == 47) (b == 47) both.0 in
    let x : a ≡ 47 = eqb-true a 47 two.0 in
    let y : b ≡ 47 = eqb-true b 47 two.1 in
    rw (x, y) both.1

comment_by : (bs : List ℕ) → (get_or bs 0 0 == 47 && get_or bs 1 0 == 47) ≡ true → list_all is_inside_line bs ≡ true → is_comment bs ≡ true
comment_by [] h k = cc
comment_by (a ∷ []) h k = let no : (0 == 47) ≡ true = (and_cases (a == 47) (0 == 47) h).1 in cc
comment_by (a ∷ b ∷ bs) h k = rw h (and_cases (is_inside_line b) (list_all is_inside_line bs) (and_cases (is_inside_line a) (is_inside_line b && list_all is_inside_line bs) k).1).1

slashes : (text : List ℕ) → form_of text ≡ form.Comment → (get_or text 0 0 == 47 && get_or text 1 0 == 47) ≡ true
slashes text h = tests form.Comment (get_or text 0 0) (get_or text 1 0) h

two_in_line : (text : List ℕ) → (get_or text 0 0 == 47 && get_or text 1 0 == 47) ≡ true → 1 < prefix_len is_inside_line text
two_in_line [] h = cc
two_in_line (a ∷ []) h = let no : (0 == 47) ≡ true = (and_cases (a == 47) (0 == 47) h).1 in cc
two_in_line (a ∷ b ∷ bs) h =
    let two = and_cases (a == 47) (b == 47) h in
    let x : a ≡ 47 = eqb-true a 47 two.0 in
    let y : b ≡ 47 = eqb-true b 47 two.1 in
    rw (x, y) (omega arith)

pub comment_cut : (text : List ℕ) → form_of text ≡ form.Comment → IsLongest text (prefix_len is_inside_line text) Gap
comment_cut text h =
    let n = prefix_len is_inside_line text in
    let two : 1 < n = two_in_line text (slashes text h) in
    let a : get_or (take n text) 0 0 ≡ get_or text 0 0 = get_or-take n text 0 0 (omega arith) in
    let b : get_or (take n text) 1 0 ≡ get_or text 1 0 = get_or-take n text 1 0 two in
    let both : (get_or (take n text) 0 0 == 47 && get_or (take n text) 1 0 == 47) ≡ true = rw (a, b) (slashes text h) in
    longest_by text n Gap form.Comment h (omega arith) (prefix_len-le-length is_inside_line text) (comment_piece (comment_by (take n text) both (all_taken is_inside_line text)))
    (λ m lt le e. omega (arith, within_run is_inside_line text m le (comment_all (take m text) e)))
  where
    comment_piece : is_comment (take (prefix_len is_inside_line text) text) ≡ true → IsPiece Gap (take (prefix_len is_inside_line text) text)
    comment_piece k = inr k

pub comment_some : (text : List ℕ) → form_of text ≡ form.Comment → 0 < prefix_len is_inside_line text
comment_some text h = omega (arith, two_in_line text (slashes text h))

-- ---- texts

-- a piece behind whose quote these bytes are meant is the text of these bytes
text_front : (text t rest : List ℕ) (m : ℕ) → text ≡ 34 ∷ (escaped_text t ++ rest) → All IsPrintable t → is_byte (inside_of rest) ≡ false → FormAt form.Text (take m text) → (left : List ℕ) × (rest ≡ 34 ∷ left) × (take m text ≡ quoted_text t)
text_front text t rest m h k x (u, e, v) =
    let whole : quoted_text u ++ drop m text ≡ 34 ∷ (escaped_text t ++ rest) = ap (λ w. w ++ drop m text) (sym e) ∙ take-append-drop m text ∙ h in
    let inner : escaped_text u ++ 34 ∷ drop m text ≡ escaped_text t ++ rest = sym (append_assoc (escaped_text u) (34 ∷ []) (drop m text)) ∙ append_cancel_left (34 ∷ []) ((escaped_text u ++ 34 ∷ []) ++ drop m text) (escaped_text t ++ rest) whole in
    let same = same_body u t (34 ∷ drop m text) rest v k refl x inner in
    (drop m text, sym same.1, e ∙ ap quoted_text same.0)

pub text_form_of : (text inner : List ℕ) → text ≡ 34 ∷ inner → form_of text ≡ form.Text
text_form_of text inner h = rw h refl

pub no_text : (text t rest : List ℕ) → text ≡ 34 ∷ (escaped_text t ++ rest) → All IsPrintable t → is_byte (inside_of rest) ≡ false → (inside_of rest ≡ Close → ⊥) → HasNone text
no_text text t rest h k x y = λ m q l s.
    let e : FormAt form.Text (take m text) = subst (λ g. FormAt g (take m text)) (front_text m q s) (formed q (take m text) s) in
    let f = text_front text t rest m h k x e in
    y (ap inside_of f.1)
  where
    front_text : (m : ℕ) (q : Piece) → IsPiece q (take m text) → form_of (take m text) ≡ form.Text
    front_text zero q s = absurd (no_empty q s)
    front_text (suc m) q s = rw h refl

-- the closing quote ends the piece
pub text_cut : (text t : List ℕ) (n : ℕ) (p : Piece) → IsBody text t n → inside_of (drop n text) ≡ Close → IsPiece p (quoted_text t) → IsLongest text (n + 1) p
text_cut text t n p b c piece =
    let close = close_is (drop n text) c in
    let whole : text ≡ quoted_text t ++ close.0 = b.split ∙ ap (λ w. 34 ∷ (escaped_text t ++ w)) close.1 ∙ ap (λ w. 34 ∷ w) (sym (append_assoc (escaped_text t) (34 ∷ []) close.0)) in
    let size : length (quoted_text t) ≡ n + 1 = omega (arith, length-append (escaped_text t) (34 ∷ []), b.reach) in
    let front : take (n + 1) text ≡ quoted_text t = ap (take (n + 1)) whole ∙ take_at (quoted_text t) close.0 (n + 1) size in
    longest_by text (n + 1) p form.Text (text_form_of text (escaped_text t ++ drop n text) b.split) (omega arith) (omega (arith, ap length whole, length-append (quoted_text t) close.0)) (subst (λ w. IsPiece p w) (sym front) piece)
    (λ m lt le e. let f = text_front text t (drop n text) m b.split b.printable b.ends e in omega (arith, ap length f.2, length-take m text, size))

-- ---- signs

abbrev is_short : List ℕ → Bool
is_short bs = nat_le (length bs) 2

short_sign : (bs : List ℕ) (s : Sign) → sign bs ≡ Some s → length bs ≤ 2
short_sign bs s h = let t : nat_le (length bs) 2 ≡ true = sign_passes is_short bs s refl h in grind (arith, nat_tests)

pub two_cut : (text : List ℕ) (s : Sign) → form_of text ≡ form.Sign → 2 ≤ length text → sign (take 2 text) ≡ Some s → IsLongest text 2 (Spell (word.Sign s))
two_cut text s h l e = longest_by text 2 (Spell (word.Sign s)) form.Sign h (omega arith) l e (λ m lt le f. omega (arith, short_sign (take m text) f.0 f.1, length-take m text))

no_two : (text : List ℕ) (m : ℕ) → (2 ≤ length text → sign (take 2 text) ≡ None) → 1 < m → m ≤ length text → FormAt form.Sign (take m text) → ⊥
no_two text (suc (suc zero)) h lt le f = let a : sign (take 2 text) ≡ None = h le in let b : None ≡ Some f.0 = sym a ∙ f.1 in cc
no_two text (suc (suc (suc m))) h lt le f = omega (arith, short_sign (take (suc (suc (suc m))) text) f.0 f.1, length-take (suc (suc (suc m))) text)
no_two text (suc zero) h lt le f = absurd (omega arith)
no_two text zero h lt le f = absurd (omega arith)

pub one_cut : (text : List ℕ) (s : Sign) → form_of text ≡ form.Sign → 0 < length text → (2 ≤ length text → sign (take 2 text) ≡ None) → sign (take 1 text) ≡ Some s → IsLongest text 1 (Spell (word.Sign s))
one_cut text s h l two e = longest_by text 1 (Spell (word.Sign s)) form.Sign h (omega arith) l e (λ m lt le f. no_two text m two lt le f)

-- ---- no piece

-- the first byte alone is no blank, quote, letter or digit either
one_form : (a b : ℕ) → form_by a b ≡ form.Sign → form_by a 0 ≡ form.Sign
one_form a b h = let t = tests form.Sign a b h in rw (t.0, and_no (a == 13), and_no (a == 47), t.1, t.2, t.3) refl
  where
    and_no : (x : Bool) → (x && false) ≡ false
    and_no true = refl
    and_no false = refl

pub no_sign : (text : List ℕ) → form_of text ≡ form.Sign → (2 ≤ length text → sign (take 2 text) ≡ None) → sign (take 1 text) ≡ None → HasNone text
no_sign text h two one = λ m q l s. go m q l s
  where
    at_one : (bs : List ℕ) → form_of bs ≡ form.Sign → form_of (take 1 bs) ≡ form.Sign
    at_one [] k = k
    at_one (a ∷ bs) k = one_form a (get_or bs 0 0) k

    go : (m : ℕ) (q : Piece) → m ≤ length text → IsPiece q (take m text) → ⊥
    go zero q l s = no_empty q s
    go (suc zero) q l s = let f : FormAt form.Sign (take 1 text) = subst (λ g. FormAt g (take 1 text)) (at_one text h) (formed q (take 1 text) s) in let e : None ≡ Some f.0 = sym one ∙ f.1 in cc
    go (suc (suc m)) q l s = let f : FormAt form.Sign (take (suc (suc m)) text) = subst (λ g. FormAt g (take (suc (suc m)) text)) (front_form text (suc (suc m)) (omega arith) ∙ h) (formed q (take (suc (suc m)) text) s) in no_two text (suc (suc m)) two (omega arith) l f

pub sign_no_quote : (text : List ℕ) → form_of text ≡ form.Sign → get_or text 0 0 ≡ 34 → ⊥
sign_no_quote text h e = let t = tests form.Sign (get_or text 0 0) (get_or text 1 0) h in let f : (34 == 34) ≡ false = subst (λ x. (x == 34) ≡ false) e t.1 in cc

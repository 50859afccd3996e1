-- Which words can stand in a text, and how a text of them is cut.
use Rattle.std.proofs.Common.{◌≡◌, ℕ, zero, suc, pos, ◌+◌, ◌<◌, ◌≤◌, ◌/◌, ◌%◌, Bool, true, false, ◌&&◌, List, [], ◌∷◌, ◌++◌, length, take, drop, get_or, Some, None, All, refl, sym, ◌∙◌, ap, subst, arith, eqb-true, length-append, append_assoc}
use Rattle.std.specs.Prelude.{◌==◌, ◌||◌, not, nat_lt, if◌then◌else◌}
use Rattle.std.proofs.Math.Seq.{drop-append_seam}
use Rattle.std.specs.Char.{is_ascii_digit}
use Rattle.std.specs.Fmt.{decimal}
use Rattle.std.specs.List.{list_all}
use Rattle.std.proofs.lemmas.Bool.Decides.{nat_tests}
use Rattle.std.proofs.lemmas.Fmt.{decimal_by_steps}
use Rattle.std.proofs.lemmas.List.{take_at}
use Rattle.std.proofs.lemmas.List.Folds.{list_all-append}
use Rattle.std.proofs.lemmas.List.Sums.{fold-append}
use Rattle.wave_base.specs.Names.{is_digits, is_name_start, is_name_byte, is_word}
use Rattle.wave_base.specs.declared.span.Span.{Span}
use Rattle.wave_base.specs.Text.{IsPrintable}
use Rattle.mace_lexer.specs.declared.cut.Form.TheVariants as form
use Rattle.mace_lexer.specs.declared.keyword.Keyword.{Keyword}
use Rattle.mace_lexer.specs.declared.sign.Sign.{Sign}
use Rattle.mace_lexer.specs.declared.sign.Sign.TheVariants as s
use Rattle.mace_lexer.specs.declared.token.Token.{Token}
use Rattle.mace_lexer.specs.declared.token.Word.{Word}
use Rattle.mace_lexer.specs.declared.token.Word.TheVariants as word
use Rattle.mace_lexer.specs.Words.{with_digit, value_of, greatest, keyword, keyword_bytes, sign, sign_bytes}
use Rattle.mace_lexer.specs.Texts.{inside_of, is_byte}
use Rattle.wave_base.specs.Text.{escaped_text, quoted_text}
use Rattle.mace_lexer.specs.Pieces.{Spell, IsPiece, IsLongest}
use Rattle.mace_lexer.specs.Cuts.{Cuts, at_end, past}
use Rattle.mace_lexer.specs.inner.Fronts.{form_by, form_of, IsBody}
use Rattle.mace_lexer.specs.Lexed.{start}
use Rattle.mace_lexer.proofs.Tables.{keyword_again, sign_again}
use Rattle.mace_lexer.proofs.Forms.{and_cases, keyword_passes, sign_passes}
use Rattle.mace_lexer.proofs.Longest.{longest_by, name_all, number_all, blank_cut, text_cut}
use Rattle.mace_lexer.proofs.CutLemmas.{gap_more, word_more}
use Rattle.mace_grammar.specs.Spelled.{words}
use Rattle.mace_printer.specs.Written.{IsCutInto}
use Rattle.mace_printer.specs.Layout.{spelling, gap_of, gap_behind, layout}

-- the word has a spelling that is read as it
abbrev pub CanStand : Word → Type 0
CanStand (word.Name t) = (is_word t ≡ true) × (length t ≤ 64) × (keyword t ≡ None)
CanStand (word.Key k) = Unit {0}
CanStand (word.Number n) = (v : ℕ) × (v ≤ greatest) × (n ≡ pos v)
CanStand (word.Text t) = All IsPrintable t × (length t ≤ 200)
CanStand (word.Sign j) = Unit {0}

-- what is read can stand
pub read_stands : (w : Word) (bs : List ℕ) → IsPiece (Spell w) bs → CanStand w
read_stands (word.Name t) bs h = let e : bs ≡ t = sym h.3 in (subst (λ l. is_word l ≡ true) e h.0, subst (λ l. length l ≤ 64) e h.1, subst (λ l. keyword l ≡ None) e h.2)
read_stands (word.Key k) bs h = tt
read_stands (word.Number n) bs h = (value_of bs, h.1, h.2)
read_stands (word.Text t) bs h = (h.1, h.2)
read_stands (word.Sign j) bs h = tt

-- ---- numbers

abbrev Digits : ℕ → List ℕ → Type 0
Digits n ds = (is_digits ds ≡ true) × (value_of ds ≡ n)

is_digit : (d : ℕ) → d < 10 → is_ascii_digit (48 + d) ≡ true
is_digit d h = grind (arith, nat_tests)

true_and : (a b : Bool) → a ≡ true → b ≡ true → (a && b) ≡ true
true_and a b h k = rw (h, k) refl

one_digit : (n : ℕ) → n < 10 → Digits n ((48 + n) ∷ [])
one_digit n h = (true_and (is_ascii_digit (48 + n)) true (is_digit n h) refl, omega arith)

number_more : (ds : List ℕ) (d : ℕ) → is_digits ds ≡ true → is_ascii_digit d ≡ true → is_digits (ds ++ d ∷ []) ≡ true
number_more [] d h k = cc
number_more (a ∷ ds) d h k =
    let both = and_cases (is_ascii_digit a) (list_all is_ascii_digit ds) h in
    true_and (is_ascii_digit a) (list_all is_ascii_digit (ds ++ d ∷ [])) both.0 (list_all-append is_ascii_digit ds (d ∷ []) ∙ true_and (list_all is_ascii_digit ds) (is_ascii_digit d && true) both.1 (true_and (is_ascii_digit d) true k refl))

more_digits : (n : ℕ) (ds : List ℕ) → 10 ≤ n → Digits (n / 10) ds → Digits n (ds ++ ((48 + n % 10) ∷ []))
more_digits n ds h k =
    let v : value_of (ds ++ ((48 + n % 10) ∷ [])) ≡ with_digit (value_of ds) (48 + n % 10) = fold-append with_digit 0 ds ((48 + n % 10) ∷ []) in
    (number_more ds (48 + n % 10) k.0 (is_digit (n % 10) (omega arith)), omega (arith, v, k.1))

pub decimal_digits : (n : ℕ) → n ≤ greatest → Digits n (decimal n)
decimal_digits n h = decimal_by_steps Digits one_digit more_digits n (omega arith)

-- ---- the spelling is the word

pub spelling_is : (w : Word) → CanStand w → IsPiece (Spell w) (spelling w)
spelling_is (word.Name t) h = (h.0, h.1, h.2, refl)
spelling_is (word.Key k) h = keyword_again k
spelling_is (word.Number n) h =
    let (v, small, e) = h in
    let d = decimal_digits v small in
    rw e (d.0, subst (λ x. x ≤ greatest) (sym d.1) small, ap pos (sym d.1))
spelling_is (word.Text t) h = (refl, h.0, h.1)
spelling_is (word.Sign j) h = sign_again j

-- ---- forms

differs : (p : ℕ → Bool) (a n : ℕ) → p a ≡ true → p n ≡ false → (a == n) ≡ false
differs p a n h k = go (a == n) refl
  where
    go : (b : Bool) → (a == n) ≡ b → (a == n) ≡ false
    go false e = e
    go true e = let same : a ≡ n = eqb-true a n e in let l : p n ≡ true = subst (λ x. p x ≡ true) same h in cc

letter_form : (a b : ℕ) → is_name_start a ≡ true → form_by a b ≡ form.Name
letter_form a b h = rw (differs is_name_start a 32 h refl, differs is_name_start a 9 h refl, differs is_name_start a 10 h refl, differs is_name_start a 13 h refl, differs is_name_start a 47 h refl, differs is_name_start a 34 h refl, h) refl

digit_no_letter : (a : ℕ) → is_ascii_digit a ≡ true → is_name_start a ≡ false
digit_no_letter a h = grind (arith, nat_tests)

digit_form : (a b : ℕ) → is_ascii_digit a ≡ true → form_by a b ≡ form.Number
digit_form a b h = rw (differs is_ascii_digit a 32 h refl, differs is_ascii_digit a 9 h refl, differs is_ascii_digit a 10 h refl, differs is_ascii_digit a 13 h refl, differs is_ascii_digit a 47 h refl, differs is_ascii_digit a 34 h refl, digit_no_letter a h, h) refl

name_text : (t rest : List ℕ) → is_word t ≡ true → form_of (t ++ rest) ≡ form.Name
name_text [] rest h = cc
name_text (a ∷ bs) rest h = letter_form a (get_or (bs ++ rest) 0 0) (and_cases (is_name_start a) (list_all is_name_byte bs) h).0

number_text : (t rest : List ℕ) → is_digits t ≡ true → form_of (t ++ rest) ≡ form.Number
number_text [] rest h = cc
number_text (a ∷ bs) rest h = digit_form a (get_or (bs ++ rest) 0 0) (and_cases (is_ascii_digit a) (list_all is_ascii_digit bs) h).0

sign_text : (j : Sign) (rest : List ℕ) → form_of (sign_bytes j ++ gap_of j ∷ rest) ≡ form.Sign
unfolding sign_bytes
sign_text s.LeftBrace rest = refl
sign_text s.RightBrace rest = refl
sign_text s.LeftParen rest = refl
sign_text s.RightParen rest = refl
sign_text s.LeftBracket rest = refl
sign_text s.RightBracket rest = refl
sign_text s.Comma rest = refl
sign_text s.Semicolon rest = refl
sign_text s.Colon rest = refl
sign_text s.Dot rest = refl
sign_text s.Equals rest = refl
sign_text s.EqualsEquals rest = refl
sign_text s.BangEquals rest = refl
sign_text s.Less rest = refl
sign_text s.LessEquals rest = refl
sign_text s.Greater rest = refl
sign_text s.GreaterEquals rest = refl
sign_text s.Plus rest = refl
sign_text s.Minus rest = refl
sign_text s.Star rest = refl
sign_text s.Slash rest = refl
sign_text s.Percent rest = refl
sign_text s.AndAnd rest = refl
sign_text s.OrOr rest = refl
sign_text s.Bang rest = refl

keyword_name : (k : Keyword) → is_word (keyword_bytes k) ≡ true
keyword_name k = keyword_passes is_word (keyword_bytes k) k refl (keyword_again k)

abbrev is_solid : List ℕ → Bool
is_solid bs = list_all (λ b. not (b == 32) && not (b == 10)) bs

sign_solid : (bs : List ℕ) (j : Sign) → sign bs ≡ Some j → is_solid bs ≡ true
sign_solid bs j h = sign_passes is_solid bs j refl h

-- ---- the longest piece ends before the gap

no_gap : (p : ℕ → Bool) (bs : List ℕ) (b : ℕ) (rest : List ℕ) (m : ℕ) → p b ≡ false → length bs < m → list_all p (take m (bs ++ b ∷ rest)) ≡ true → ⊥
no_gap p bs b rest zero h l e = omega arith
no_gap p [] b rest (suc m) h l e = let k : p b ≡ true = (and_cases (p b) (list_all p (take m rest)) e).0 in cc
no_gap p (c ∷ bs) b rest (suc m) h l e = no_gap p bs b rest m h (omega arith) (and_cases (p c) (list_all p (take m (bs ++ b ∷ rest))) e).1

some_name : (t : List ℕ) → is_word t ≡ true → 0 < length t
some_name [] h = cc
some_name (a ∷ bs) h = omega arith

some_number : (t : List ℕ) → is_digits t ≡ true → 0 < length t
some_number [] h = cc
some_number (a ∷ bs) h = omega arith

some_sign : (j : Sign) → 0 < length (sign_bytes j)
some_sign j = let t : nat_lt 0 (length (sign_bytes j)) ≡ true = sign_passes (λ bs. nat_lt 0 (length bs)) (sign_bytes j) j refl (sign_again j) in grind (arith, nat_tests)

gap_no_solid : (j : Sign) → (not (gap_of j == 32) && not (gap_of j == 10)) ≡ false
gap_no_solid s.LeftBrace = refl
gap_no_solid s.RightBrace = refl
gap_no_solid s.Semicolon = refl
gap_no_solid _ = refl

gap_blank : (w : Word) → (gap_behind w == 32 || gap_behind w == 9 || gap_behind w == 10) ≡ true
gap_blank (word.Sign s.LeftBrace) = refl
gap_blank (word.Sign s.RightBrace) = refl
gap_blank (word.Sign s.Semicolon) = refl
gap_blank _ = refl

blank_form : (a b : ℕ) → (a == 32 || a == 9 || a == 10) ≡ true → form_by a b ≡ form.Blank
blank_form a b h = ap (λ t. if t then form.Blank else if a == 13 && b == 10 then form.LineEnd else if a == 47 && b == 47 then form.Comment else if a == 34 then form.Text else if is_name_start a then form.Name else if is_ascii_digit a then form.Number else form.Sign) h

-- a word behind which a gap stands
module _ (bs : List ℕ) (b : ℕ) (rest : List ℕ) where
  abbrev followed : List ℕ
  followed = bs ++ b ∷ rest

  front : take (length bs) followed ≡ bs
  front = take_at bs (b ∷ rest) (length bs) refl

  within : length bs ≤ length followed
  within = omega (arith, length-append bs (b ∷ rest))

  named : (w : Word) → is_word bs ≡ true → is_name_byte b ≡ false → IsPiece (Spell w) bs → IsLongest followed (length bs) (Spell w)
  named w h g piece = longest_by followed (length bs) (Spell w) form.Name (name_text bs (b ∷ rest) h) (some_name bs h) within (subst (λ l. IsPiece (Spell w) l) (sym front) piece)
      (λ m lt le e. no_gap is_name_byte bs b rest m g lt (name_all (take m followed) e))

  numbered : (w : Word) → is_digits bs ≡ true → is_ascii_digit b ≡ false → IsPiece (Spell w) bs → IsLongest followed (length bs) (Spell w)
  numbered w h g piece = longest_by followed (length bs) (Spell w) form.Number (number_text bs (b ∷ rest) h) (some_number bs h) within (subst (λ l. IsPiece (Spell w) l) (sym front) piece)
      (λ m lt le e. no_gap is_ascii_digit bs b rest m g lt (number_all (take m followed) e))

quoted_longest : (t : List ℕ) (b : ℕ) (rest : List ℕ) → All IsPrintable t → length t ≤ 200 → IsLongest (quoted_text t ++ b ∷ rest) (length (quoted_text t)) (Spell (word.Text t))
quoted_longest t b rest printable short =
    let E = escaped_text t in
    let tail : List ℕ = 34 ∷ b ∷ rest in
    let text = quoted_text t ++ b ∷ rest in
    let n = suc (length E) in
    let whole : text ≡ 34 ∷ (E ++ tail) = ap (λ l. 34 ∷ l) (append_assoc E (34 ∷ []) (b ∷ rest)) in
    let behind : drop n text ≡ tail = ap (drop n) whole ∙ drop-append_seam E tail in
    let size : length (quoted_text t) ≡ n + 1 = omega (arith, length-append E (34 ∷ [])) in
    let body : IsBody text t n = record {
      split = whole ∙ ap (λ l. 34 ∷ (E ++ l)) (sym behind);
      printable = printable;
      reach = refl;
      within = omega (arith, ap length whole, length-append E tail);
      ends = ap (λ l. is_byte (inside_of l)) behind;
    } in
    subst (λ i. IsLongest text i (Spell (word.Text t))) (sym size) (text_cut text t n (Spell (word.Text t)) body (ap inside_of behind) (refl, printable, short))

sign_longest : (j : Sign) (rest : List ℕ) → IsLongest (sign_bytes j ++ gap_of j ∷ rest) (length (sign_bytes j)) (Spell (word.Sign j))
sign_longest j rest = longest_by (sign_bytes j ++ gap_of j ∷ rest) (length (sign_bytes j)) (Spell (word.Sign j)) form.Sign (sign_text j rest) (some_sign j) (within (sign_bytes j) (gap_of j) rest) (subst (λ l. sign l ≡ Some j) (sym (front (sign_bytes j) (gap_of j) rest)) (sign_again j))
    (λ m lt le e. no_gap (λ b. not (b == 32) && not (b == 10)) (sign_bytes j) (gap_of j) rest m (gap_no_solid j) lt (sign_solid (take m (sign_bytes j ++ gap_of j ∷ rest)) e.0 e.1))

word_longest : (w : Word) (rest : List ℕ) → CanStand w → IsLongest (spelling w ++ gap_behind w ∷ rest) (length (spelling w)) (Spell w)
word_longest (word.Name t) rest h = named t 32 rest (word.Name t) h.0 refl (spelling_is (word.Name t) h)
word_longest (word.Key k) rest h = named (keyword_bytes k) 32 rest (word.Key k) (keyword_name k) refl (spelling_is (word.Key k) h)
word_longest (word.Number n) rest h = numbered (spelling (word.Number n)) 32 rest (word.Number n) (spelling_is (word.Number n) h).0 refl (spelling_is (word.Number n) h)
word_longest (word.Text t) rest h = quoted_longest t 32 rest h.0 h.1
word_longest (word.Sign j) rest h = sign_longest j rest

-- ---- a text of words

abbrev pub Stand : List Word → Type 0
Stand [] = Unit {0}
Stand (w ∷ ws) = CanStand w × Stand ws

cuts_of : (ws : List Word) → Stand ws → (at : Span) (from : ℕ) → (tokens : List Token) × Cuts at from (layout ws) tokens × (words tokens ≡ ws)
unfolding layout
cuts_of [] h at from = ([], at_end, refl)
cuts_of (w ∷ ws) h at from =
    let bs = spelling w in
    let b = gap_behind w in
    let rest = layout ws in
    let at1 = past at bs in
    let at2 = past at1 (b ∷ []) in
    let (ts, c, q) = cuts_of ws h.1 at2 (from + length bs + 1) in
    let g : Cuts at1 (from + length bs) (b ∷ rest) ts = gap_more at1 at2 1 (b ∷ rest) (b ∷ []) rest refl refl refl (from + length bs) ts (blank_cut (b ∷ rest) (omega arith) (blank_form b (get_or rest 0 0) (gap_blank w))) c in
    let t : Token = record { word = w; span = at; from = from; to = from + length bs } in
    let v : Cuts at from (bs ++ b ∷ rest) (t ∷ ts) = word_more at at1 (length bs) (bs ++ b ∷ rest) bs (b ∷ rest) (sym (take_at bs (b ∷ rest) (length bs) refl)) (sym (drop-append_seam bs (b ∷ rest))) refl from w ts (word_longest w rest h.0) g in
    (t ∷ ts, subst (λ l. Cuts at from l (t ∷ ts)) (sym (append_assoc bs (b ∷ []) rest)) v, ap (λ l. w ∷ l) q)

-- the layout of words that can stand is cut into them
pub layout_cut : (ws : List Word) → Stand ws → IsCutInto (layout ws) ws
layout_cut ws h = cuts_of ws h start 0

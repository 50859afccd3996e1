-- What the lexer's parts find at the front of a text.
use Rattle.std.proofs.Common.{◌≡◌, ℕ, suc, ◌+◌, ◌<◌, ◌≤◌, inr, List, [], ◌∷◌, ◌++◌, length, take, drop, get_or, ℤ, pos, Some, None, All, true, refl, sym, ◌∙◌, ap, subst, arith, eqb-true, append_assoc, length-append, length-drop}
use Rattle.std.specs.List.{prefix_len}
use Rattle.std.specs.Char.{is_ascii_digit}
use Rattle.std.proofs.lemmas.List.{length-take, drop_at, drop-drop}
use Rattle.std.proofs.lemmas.List.Elements.{All-push, All-nil}
use Rattle.std.proofs.lemmas.List.Sums.{AllPass-from_list_all, prefix_len-le-length}
use Rattle.std.proofs.lemmas.Bool.Decides.{nat_tests}
use Rattle.wave_base.specs.Names.{is_digits, is_name_byte, is_word}
use Rattle.wave_base.specs.Text.{IsPrintable, IsText}
use Rattle.mace_lexer.specs.declared.cut.Cut.TheVariants as cut
use Rattle.mace_lexer.specs.declared.cut.Form.TheVariants as form
use Rattle.mace_lexer.specs.declared.keyword.Keyword.{Keyword}
use Rattle.mace_lexer.specs.declared.quoted.Inside.TheVariants.{Byte, Close}
use Rattle.mace_lexer.specs.declared.sign.Sign.{Sign}
use Rattle.mace_lexer.specs.declared.token.Word.TheVariants as word
use Rattle.mace_lexer.specs.declared.fault.LexFault.TheVariants.{BadByte, NumberRange, NameLong, TextLong}
use Rattle.mace_lexer.specs.Words.{is_inside_line, value_of, greatest, keyword, sign}
use Rattle.mace_lexer.specs.Texts.{inside_of}
use Rattle.wave_base.specs.Text.{escaped_byte, escaped_text, quoted_text}
use Rattle.mace_lexer.specs.Pieces.{Piece, Spell, Wrong, IsPiece, IsLongest}
use Rattle.mace_lexer.specs.inner.Fronts.{form_of, IsCut, IsBody}
use Rattle.mace_lexer.proofs.Bodies.{byte_taken, escaped_push}
use Rattle.mace_lexer.proofs.Longest.{tests, comment_cut, comment_some, name_all, name_some, name_front, name_cut, number_some, number_front, number_cut, text_cut, two_cut, one_cut, no_sign, sign_no_quote}

module _ (text : List ℕ) (n : ℕ) where
  pub found_comment : form_of text ≡ form.Comment → n ≡ prefix_len is_inside_line text → IsCut text (cut.Gap n)
  found_comment h e = subst (λ k. IsCut text (cut.Gap k)) (sym e) (comment_some text h, comment_cut text h)

  -- ---- names

  module _ (some : 0 < length text) (h : form_of text ≡ form.Name) (e : n ≡ prefix_len is_name_byte text) where
    pub whole_name : is_word (take n text) ≡ true
    whole_name = subst (λ k. is_word (take k text) ≡ true) (sym e) (name_front text some h)

    pub name_size : length (take n text) ≡ n
    name_size = omega (arith, length-take n text, prefix_len-le-length is_name_byte text)

    pub longest_name : (p : Piece) → IsPiece p (take n text) → (0 < n) × IsLongest text n p
    longest_name p k = subst (λ m. IsPiece p (take m text) → (0 < m) × IsLongest text m p) (sym e) (λ x. (name_some text some h, name_cut text p some h x)) k

    pub long_name : 64 < n → IsCut text (cut.Fault NameLong 0)
    long_name l = (omega arith, record { start = refl; size = n; longest = (longest_name (Wrong NameLong) (whole_name, omega (arith, name_size))).1 })

    pub keyword_name : (k : Keyword) → keyword (take n text) ≡ Some k → IsCut text (cut.Spell n (word.Key k))
    keyword_name k x = longest_name (Spell (word.Key k)) x

    pub plain_name : (t : List ℕ) → t ≡ take n text → n ≤ 64 → keyword (take n text) ≡ None → IsCut text (cut.Spell n (word.Name t))
    plain_name t x l k = longest_name (Spell (word.Name t)) (whole_name, omega (arith, name_size), k, x)

    printable_byte : (b : ℕ) → is_name_byte b ≡ true → IsPrintable b
    printable_byte b k = grind (arith, nat_tests)

    pub name_text : n ≤ 64 → IsText (take n text)
    name_text l = record {
      printable = λ k d x. printable_byte (get_or (take n text) k d) (AllPass-from_list_all is_name_byte (take n text) (name_all (take n text) whole_name) k d x);
      short = omega (arith, name_size);
    }

  -- ---- numbers

  module _ (some : 0 < length text) (h : form_of text ≡ form.Number) (e : n ≡ prefix_len is_ascii_digit text) where
    pub whole_number : is_digits (take n text) ≡ true
    whole_number = subst (λ k. is_digits (take k text) ≡ true) (sym e) (number_front text some h)

    pub longest_number : (p : Piece) → IsPiece p (take n text) → (0 < n) × IsLongest text n p
    longest_number p k = subst (λ m. IsPiece p (take m text) → (0 < m) × IsLongest text m p) (sym e) (λ x. (number_some text some h, number_cut text p some h x)) k

    pub large_number : greatest < value_of (take n text) → IsCut text (cut.Fault NumberRange 0)
    large_number l = (omega arith, record { start = refl; size = n; longest = (longest_number (Wrong NumberRange) (whole_number, l)).1 })

    pub plain_number : (z : ℤ) → value_of (take n text) ≤ greatest → z ≡ pos (value_of (take n text)) → IsCut text (cut.Spell n (word.Number z))
    plain_number z l x = longest_number (Spell (word.Number z)) (whole_number, l, x)

  -- ---- texts

  module _ (t : List ℕ) (b : IsBody text t n) where
    pub closed_text : (u : List ℕ) → u ≡ t → inside_of (drop n text) ≡ Close → length t ≤ 200 → IsCut text (cut.Spell (n + 1) (word.Text u))
    closed_text u x c l = (omega arith, text_cut text t n (Spell (word.Text u)) b c (ap quoted_text (sym x), subst (λ w. All IsPrintable w) (sym x) b.printable, subst (λ w. length w ≤ 200) (sym x) l))

    pub long_text : inside_of (drop n text) ≡ Close → 200 < length t → IsCut text (cut.Fault TextLong 0)
    long_text c l = (omega arith, record { start = refl; size = n + 1; longest = text_cut text t n (Wrong TextLong) b c (t, refl, b.printable, l) })

-- so much of a text's inside was read
abbrev pub Inner : List ℕ → List ℕ → ℕ → Type 0
Inner text t n = record {
  split : text ≡ 34 ∷ (escaped_text t ++ drop n text);
  printable : All IsPrintable t;
  reach : n ≡ suc (length (escaped_text t));
  within : n ≤ length text;
}

quote_first : (text : List ℕ) → form_of text ≡ form.Text → text ≡ 34 ∷ drop 1 text
quote_first [] h = cc
quote_first (a ∷ bs) h = let t = tests form.Text a (get_or bs 0 0) h in ap (λ x. x ∷ bs) (eqb-true a 34 t)

pub inner_start : (text : List ℕ) → 0 < length text → form_of text ≡ form.Text → Inner text [] 1
inner_start text l h = record { split = quote_first text h; printable = All-nil IsPrintable; reach = refl; within = l }

pub inner_more : (text t u : List ℕ) (n b k : ℕ) → Inner text t n → inside_of (drop n text) ≡ Byte b → k ≡ length (escaped_byte b) → u ≡ t ++ b ∷ [] → Inner text u (n + k)
inner_more text t u n b k i h e p =
    let x = byte_taken (drop n text) b h in
    let left : drop (n + k) text ≡ x.left = sym (drop-drop k n text) ∙ ap (drop k) x.split ∙ drop_at (escaped_byte b) x.left k (sym e) in
    let body : escaped_text u ≡ escaped_text t ++ escaped_byte b = ap escaped_text p ∙ escaped_push t b in
    record {
      split = i.split ∙ ap (λ w. 34 ∷ (escaped_text t ++ w)) (x.split ∙ ap (λ w. escaped_byte b ++ w) (sym left)) ∙ ap (λ w. 34 ∷ w) (sym (append_assoc (escaped_text t) (escaped_byte b) (drop (n + k) text)) ∙ ap (λ w. w ++ drop (n + k) text) (sym body));
      printable = subst (λ w. All IsPrintable w) (sym p) (All-push IsPrintable t b i.printable x.printable);
      reach = omega (arith, i.reach, ap length body, length-append (escaped_text t) (escaped_byte b));
      within = omega (arith, i.within, ap length x.split, length-append (escaped_byte b) x.left, length-drop n text);
    }

-- ---- signs

pub found_two : (text : List ℕ) (s : Sign) → form_of text ≡ form.Sign → 2 ≤ length text → sign (take 2 text) ≡ Some s → IsCut text (cut.Spell 2 (word.Sign s))
found_two text s h l e = (omega arith, two_cut text s h l e)

pub found_one : (text : List ℕ) (s : Sign) → 0 < length text → form_of text ≡ form.Sign → (2 ≤ length text → sign (take 2 text) ≡ None) → sign (take 1 text) ≡ Some s → IsCut text (cut.Spell 1 (word.Sign s))
found_one text s l h two e = (omega arith, one_cut text s h l two e)

pub found_none : (text : List ℕ) → 0 < length text → form_of text ≡ form.Sign → (2 ≤ length text → sign (take 2 text) ≡ None) → sign (take 1 text) ≡ None → IsCut text (cut.Fault BadByte 0)
found_none text l h two one = (omega arith, inr (record { start = refl; some = l; no_quote = sign_no_quote text h; none = no_sign text h two one }))

-- A text is cut in one way, or has one fault.
use Rattle.std.proofs.Common.{◌≡◌, ℕ, zero, suc, ◌+◌, ◌<◌, ◌≤◌, ◌⊎◌, inl, inr, Bool, true, false, List, [], ◌∷◌, ◌++◌, length, take, drop, get_or, Some, None, All, Result, Ok, Err, refl, sym, ◌∙◌, ap, subst, arith, ⊎_elim}
use Rattle.std.specs.Prelude.{IfOk, IfErr, nat_le}
use Rattle.std.proofs.lemmas.Bool.Decides.{nat_tests}
use Rattle.wave_base.specs.Text.{IsPrintable}
use Rattle.mace_lexer.specs.declared.keyword.Keyword.{Keyword}
use Rattle.std.proofs.lemmas.Bool.{cases_lt}
use Rattle.std.proofs.lemmas.List.{append_cancel_left}
use Rattle.wave_base.specs.declared.span.Span.{Span}
use Rattle.mace_lexer.specs.declared.quoted.Inside.{Inside}
use Rattle.mace_lexer.specs.declared.quoted.Inside.TheVariants.{Close, Open, Bad}
use Rattle.mace_lexer.specs.declared.token.Word.{Word}
use Rattle.mace_lexer.specs.declared.token.Word.TheVariants as word
use Rattle.mace_lexer.specs.declared.token.Token.{Token}
use Rattle.mace_lexer.specs.declared.fault.LexFault.{LexFault}
use Rattle.mace_lexer.specs.declared.fault.LexFault.TheVariants.{BadByte, NumberRange, OpenText, NameLong, TextLong}
use Rattle.mace_lexer.specs.declared.fault.LexError.{LexError}
use Rattle.mace_lexer.specs.declared.fault.LexError.TheVariants as error
use Rattle.mace_lexer.specs.Words.{value_of, greatest, keyword}
use Rattle.mace_lexer.specs.Texts.{inside_of, is_byte}
use Rattle.wave_base.specs.Text.{escaped_text, quoted_text}
use Rattle.mace_lexer.specs.Pieces.{Piece, Gap, Spell, Wrong, IsPiece, IsLongest, HasNone}
use Rattle.mace_lexer.specs.Cuts.{Cuts, at_end, gap, spelled, Faulty, here, after_gap, after_word, past, Fails, StopsInside, HasNoPiece}
use Rattle.mace_lexer.specs.Lexed.{AreTokens, LiesIn, AreInOrder, IsFirstFault, TellsFault, Answers, error_of}
use Rattle.mace_lexer.proofs.Forms.{tag, tagged, keyword_passes}
use Rattle.mace_lexer.proofs.Bodies.{same_body}
use Rattle.mace_lexer.proofs.Longest.{no_empty, no_text}
use Rattle.mace_lexer.proofs.Places.{tokens_lie, tokens_in_order}
use Rattle.wave_base.specs.Memory.{the_refusal}

-- ---- bytes are one piece

same_text : (t u : List ℕ) → All IsPrintable t → All IsPrintable u → quoted_text t ≡ quoted_text u → t ≡ u
same_text t u h k e = (same_body t u (34 ∷ []) (34 ∷ []) h k refl refl (append_cancel_left (34 ∷ []) (escaped_text t ++ 34 ∷ []) (escaped_text u ++ 34 ∷ []) e)).0

short_keyword : (bs : List ℕ) (k : Keyword) → keyword bs ≡ Some k → 64 < length bs → ⊥
short_keyword bs k h l = let t : nat_le (length bs) 64 ≡ true = keyword_passes (λ w. nat_le (length w) 64) bs k refl h in absurd (grind (arith, nat_tests))

apart : (m n : ℕ) → m ≤ n → n < m → ⊥
apart m n h k = absurd (omega arith)

-- of one tag
same_tag : (p q : Piece) (bs : List ℕ) → tag p ≡ tag q → IsPiece p bs → IsPiece q bs → p ≡ q
same_tag Gap Gap bs e h k = refl
same_tag Gap (Spell (word.Name t)) bs e h k = cc
same_tag (Spell (word.Text t)) (Spell (word.Text u)) bs e h k = ap (λ w. Spell (word.Text w)) (same_text t u h.1 k.1 (sym h.0 ∙ k.0))
same_tag (Spell (word.Text t)) (Wrong TextLong) bs e h k = absurd (apart (length t) 200 h.2 (subst (λ w. 200 < length w) (same_text k.0 t k.2 h.1 (sym k.1 ∙ h.0)) k.3))
same_tag (Wrong TextLong) (Spell (word.Text t)) bs e k h = absurd (apart (length t) 200 h.2 (subst (λ w. 200 < length w) (same_text k.0 t k.2 h.1 (sym k.1 ∙ h.0)) k.3))
same_tag (Wrong TextLong) (Wrong TextLong) bs e h k = refl
same_tag (Spell (word.Name t)) (Spell (word.Name u)) bs e h k = ap (λ w. Spell (word.Name w)) (h.3 ∙ sym k.3)
same_tag (Spell (word.Name t)) (Spell (word.Key j)) bs e h k = let no : None ≡ Some j = sym h.2 ∙ k in cc
same_tag (Spell (word.Name t)) (Wrong NameLong) bs e h k = absurd (apart (length bs) 64 h.1 k.1)
same_tag (Spell (word.Key i)) (Spell (word.Name t)) bs e k h = let no : None ≡ Some i = sym h.2 ∙ k in cc
same_tag (Spell (word.Key i)) (Spell (word.Key j)) bs e h k = let same : Some i ≡ Some j = sym h ∙ k in let s : i ≡ j = cc in ap (λ w. Spell (word.Key w)) s
same_tag (Spell (word.Key i)) (Wrong NameLong) bs e h k = absurd (short_keyword bs i h k.1)
same_tag (Wrong NameLong) (Spell (word.Name t)) bs e k h = absurd (apart (length bs) 64 h.1 k.1)
same_tag (Wrong NameLong) (Spell (word.Key i)) bs e k h = absurd (short_keyword bs i h k.1)
same_tag (Wrong NameLong) (Wrong NameLong) bs e h k = refl
same_tag (Spell (word.Number m)) (Spell (word.Number n)) bs e h k = ap (λ w. Spell (word.Number w)) (h.2 ∙ sym k.2)
same_tag (Spell (word.Number m)) (Wrong NumberRange) bs e h k = absurd (apart (value_of bs) greatest h.1 k.1)
same_tag (Wrong NumberRange) (Spell (word.Number n)) bs e k h = absurd (apart (value_of bs) greatest h.1 k.1)
same_tag (Wrong NumberRange) (Wrong NumberRange) bs e h k = refl
same_tag (Spell (word.Sign s)) (Spell (word.Sign t)) bs e h k = let same : Some s ≡ Some t = sym h ∙ k in let x : s ≡ t = cc in ap (λ w. Spell (word.Sign w)) x
same_tag (Wrong BadByte) q bs e h k = absurd h
same_tag (Wrong OpenText) q bs e h k = absurd h
same_tag p (Wrong BadByte) bs e h k = absurd k
same_tag p (Wrong OpenText) bs e h k = absurd k
same_tag p q bs e h k = cc

pub one_piece : (p q : Piece) (bs : List ℕ) → IsPiece p bs → IsPiece q bs → p ≡ q
one_piece p q bs h k = same_tag p q bs (sym (tagged p bs h) ∙ tagged q bs k) h k

-- ---- a text has one piece at its front

pub one_longest : (text : List ℕ) (n m : ℕ) (p q : Piece) → IsLongest text n p → IsLongest text m q → (n ≡ m) × (p ≡ q)
one_longest text n m p q h k = ⊎_elim (λ l. absurd (h.longest m q l k.within k.piece)) (λ le. ⊎_elim (λ l. absurd (k.longest n p l h.within h.piece)) (λ ge. let e : n ≡ m = omega arith in (e, one_piece p q (take n text) h.piece (subst (λ x. IsPiece q (take x text)) (sym e) k.piece))) (cases_lt m n)) (cases_lt n m)

pub none_longest : (text : List ℕ) (n : ℕ) (p : Piece) → IsLongest text n p → HasNone text → ⊥
none_longest text n p h k = k n p h.within h.piece

-- ---- why the front of a text fails

data Cause (text : List ℕ) (e : LexFault) (n : ℕ) : Type 0 where
  large : n ≡ 0 → (size : ℕ) → IsLongest text size (Wrong e) → Cause text e n
  open_ended : e ≡ OpenText → n ≡ 0 → (m : ℕ) → StopsInside text m Open → Cause text e n
  bad : e ≡ BadByte → StopsInside text n Bad → Cause text e n
  none : e ≡ BadByte → HasNoPiece text n → Cause text e n

cause_of : (text : List ℕ) (e : LexFault) (n : ℕ) → Fails text e n → Cause text e n
cause_of text NumberRange n h = large h.start h.size h.longest
cause_of text NameLong n h = large h.start h.size h.longest
cause_of text TextLong n h = large h.start h.size h.longest
cause_of text OpenText n h = open_ended refl h.start h.place h.inside
cause_of text BadByte n h = ⊎_elim (λ s. bad refl s) (λ s. none refl s) h

stops_none : (text : List ℕ) (n : ℕ) (next : Inside) → is_byte next ≡ false → (next ≡ Close → ⊥) → StopsInside text n next → HasNone text
stops_none text n next b c h = no_text text h.meant h.rest h.split h.printable (ap is_byte h.stop ∙ b) (λ e. c (sym h.stop ∙ e))

open_none : (text : List ℕ) (n : ℕ) → StopsInside text n Open → HasNone text
open_none text n h = stops_none text n Open refl (λ e. cc) h

bad_none : (text : List ℕ) (n : ℕ) → StopsInside text n Bad → HasNone text
bad_none text n h = stops_none text n Bad refl (λ e. cc) h

quote_at : (text : List ℕ) (n : ℕ) (next : Inside) → StopsInside text n next → get_or text 0 0 ≡ 34
quote_at text n next h = ap (λ w. get_or w 0 0) h.split

same_stop : (text : List ℕ) (n m : ℕ) (i j : Inside) → is_byte i ≡ false → is_byte j ≡ false → StopsInside text n i → StopsInside text m j → (n ≡ m) × (i ≡ j)
same_stop text n m i j x y h k =
    let inner : escaped_text h.meant ++ h.rest ≡ escaped_text k.meant ++ k.rest = append_cancel_left (34 ∷ []) (escaped_text h.meant ++ h.rest) (escaped_text k.meant ++ k.rest) (sym h.split ∙ k.split) in
    let s = same_body h.meant k.meant h.rest k.rest h.printable k.printable (ap is_byte h.stop ∙ x) (ap is_byte k.stop ∙ y) inner in
    (h.reach ∙ ap (λ w. suc (length (escaped_text w))) s.0 ∙ sym k.reach, sym h.stop ∙ ap inside_of s.1 ∙ k.stop)

one_cause : (text : List ℕ) (e f : LexFault) (n m : ℕ) → Cause text e n → Cause text f m → (e ≡ f) × (n ≡ m)
one_cause text e f n m (large a s h) (large b t k) = let w : Wrong e ≡ Wrong f = (one_longest text s t (Wrong e) (Wrong f) h k).1 in (cc, a ∙ sym b)
one_cause text e f n m (large a s h) (open_ended x b o k) = absurd (none_longest text s (Wrong e) h (open_none text o k))
one_cause text e f n m (large a s h) (bad x k) = absurd (none_longest text s (Wrong e) h (bad_none text m k))
one_cause text e f n m (large a s h) (none x k) = absurd (none_longest text s (Wrong e) h k.none)
one_cause text e f n m (open_ended x b o k) (large a s h) = absurd (none_longest text s (Wrong f) h (open_none text o k))
one_cause text e f n m (open_ended x a o h) (open_ended y b p k) = (x ∙ sym y, a ∙ sym b)
one_cause text e f n m (open_ended x a o h) (bad y k) = let w : Open ≡ Bad = (same_stop text o m Open Bad refl refl h k).1 in cc
one_cause text e f n m (open_ended x a o h) (none y k) = absurd (k.no_quote (quote_at text o Open h))
one_cause text e f n m (bad x k) (large a s h) = absurd (none_longest text s (Wrong f) h (bad_none text n k))
one_cause text e f n m (bad y k) (open_ended x a o h) = let w : Open ≡ Bad = (same_stop text o n Open Bad refl refl h k).1 in cc
one_cause text e f n m (bad x h) (bad y k) = (x ∙ sym y, (same_stop text n m Bad Bad refl refl h k).0)
one_cause text e f n m (bad x h) (none y k) = absurd (k.no_quote (quote_at text n Bad h))
one_cause text e f n m (none x k) (large a s h) = absurd (none_longest text s (Wrong f) h k.none)
one_cause text e f n m (none y k) (open_ended x a o h) = absurd (k.no_quote (quote_at text o Open h))
one_cause text e f n m (none y k) (bad x h) = absurd (k.no_quote (quote_at text m Bad h))
one_cause text e f n m (none x h) (none y k) = (x ∙ sym y, h.start ∙ sym k.start)

abbrev is_right : Piece → Bool
is_right Gap = true
is_right (Spell w) = true
is_right (Wrong e) = false

cause_cut : (text : List ℕ) (e : LexFault) (n m : ℕ) (p : Piece) → is_right p ≡ true → Cause text e n → IsLongest text m p → ⊥
cause_cut text e n m p r (large a s h) k = let w : Wrong e ≡ p = (one_longest text s m (Wrong e) p h k).1 in let f : is_right p ≡ false = ap is_right (sym w) in cc
cause_cut text e n m p r (open_ended x a o h) k = none_longest text m p k (open_none text o h)
cause_cut text e n m p r (bad x h) k = none_longest text m p k (bad_none text n h)
cause_cut text e n m p r (none x h) k = none_longest text m p k h.none

fails_cut : (text : List ℕ) (e : LexFault) (n m : ℕ) (p : Piece) → is_right p ≡ true → Fails text e n → IsLongest text m p → ⊥
fails_cut text e n m p r h k = cause_cut text e n m p r (cause_of text e n h) k

-- ---- a text has one list of tokens, or one first fault

longest_some : (n : ℕ) (p : Piece) → IsLongest [] n p → ⊥
longest_some zero p h = no_empty p h.piece
longest_some (suc n) p h = no_empty p h.piece

gap_gap : (text : List ℕ) (n m : ℕ) → IsLongest text n Gap → IsLongest text m Gap → n ≡ m
gap_gap text n m h k = (one_longest text n m Gap Gap h k).0

gap_word : (text : List ℕ) (n m : ℕ) (w : Word) → IsLongest text n Gap → IsLongest text m (Spell w) → ⊥
gap_word text n m w h k = let e : Gap ≡ Spell w = (one_longest text n m Gap (Spell w) h k).1 in cc

word_word : (text : List ℕ) (n m : ℕ) (v w : Word) → IsLongest text n (Spell v) → IsLongest text m (Spell w) → (n ≡ m) × (v ≡ w)
word_word text n m v w h k = let s = one_longest text n m (Spell v) (Spell w) h k in let e : Spell v ≡ Spell w = s.1 in (s.0, cc)

pub one_cutting : {at : Span} {from : ℕ} {text : List ℕ} {a b : List Token} → Cuts at from text a → Cuts at from text b → a ≡ b
one_cutting at_end at_end = refl
one_cutting at_end (gap {n = n} h d) = absurd (longest_some n Gap h)
one_cutting at_end (spelled {n = n} {w = w} h d) = absurd (longest_some n (Spell w) h)
one_cutting (gap {n = n} h d) at_end = absurd (longest_some n Gap h)
one_cutting (spelled {n = n} {w = w} h d) at_end = absurd (longest_some n (Spell w) h)
one_cutting {at = at} {from = from} {b = b} (gap {n = n} {text = text} h c) (gap {n = m} k d) = one_cutting c (subst (λ x. Cuts (past at (take x text)) (from + x) (drop x text) b) (gap_gap text m n k h) d)
one_cutting (gap {n = n} {text = text} h c) (spelled {n = m} {w = w} k d) = absurd (gap_word text n m w h k)
one_cutting (spelled {n = n} {w = w} {text = text} h c) (gap {n = m} k d) = absurd (gap_word text m n w k h)
one_cutting {at = at} {from = from} (spelled {n = n} {w = v} {text = text} {tokens = more} h c) (spelled {n = m} {w = w} {tokens = others} k d) =
    let s = word_word text m n w v k h in
    let rest : more ≡ others = one_cutting c (subst (λ x. Cuts (past at (take x text)) (from + x) (drop x text) others) s.0 d) in
    rw (s.0, s.1, rest) refl

fails_some : (n : ℕ) (e : LexFault) → Fails [] e n → ⊥
fails_some n e h = go (cause_of [] e n h)
  where
    go : Cause [] e n → ⊥
    go (large a s k) = longest_some s (Wrong e) k
    go (open_ended x a o k) = let w : [] ≡ 34 ∷ (escaped_text k.meant ++ k.rest) = k.split in cc
    go (bad x k) = let w : [] ≡ 34 ∷ (escaped_text k.meant ++ k.rest) = k.split in cc
    go (none x k) = absurd (omega (arith, k.some))

pub no_fault : {at place : Span} {from : ℕ} {text : List ℕ} {a : List Token} {e : LexFault} → Cuts at from text a → Faulty at text e place → ⊥
no_fault {e = e} at_end (here n f p) = fails_some n e f
no_fault at_end (after_gap {n = n} h f) = longest_some n Gap h
no_fault at_end (after_word {n = n} {w = w} h f) = longest_some n (Spell w) h
no_fault {e = e} (gap {n = n} {text = text} h c) (here m f p) = fails_cut text e m n Gap refl f h
no_fault {at = at} {place = place} {e = e} (gap {n = n} {text = text} h c) (after_gap {n = m} k f) = no_fault c (subst (λ x. Faulty (past at (take x text)) (drop x text) e place) (gap_gap text m n k h) f)
no_fault (gap {n = n} {text = text} h c) (after_word {n = m} {w = w} k f) = gap_word text n m w h k
no_fault {e = e} (spelled {n = n} {w = w} {text = text} h c) (here m f p) = fails_cut text e m n (Spell w) refl f h
no_fault (spelled {n = n} {w = w} {text = text} h c) (after_gap {n = m} k f) = gap_word text m n w k h
no_fault {at = at} {place = place} {e = e} (spelled {n = n} {w = v} {text = text} h c) (after_word {n = m} {w = w} k f) = no_fault c (subst (λ x. Faulty (past at (take x text)) (drop x text) e place) (word_word text m n w v k h).0 f)

pub one_fault : {at p q : Span} {text : List ℕ} {e f : LexFault} → Faulty at text e p → Faulty at text f q → (e ≡ f) × (p ≡ q)
one_fault {at = at} {text = text} {e = e} {f = f} (here n h x) (here m k y) = let s = one_cause text e f n m (cause_of text e n h) (cause_of text f m k) in (s.0, x ∙ ap (λ i. past at (take i text)) s.1 ∙ sym y)
one_fault {text = text} {e = e} (here n h x) (after_gap {n = m} k g) = absurd (fails_cut text e n m Gap refl h k)
one_fault {text = text} {e = e} (here n h x) (after_word {n = m} {w = w} k g) = absurd (fails_cut text e n m (Spell w) refl h k)
one_fault {text = text} {f = f} (after_gap {n = m} k g) (here n h x) = absurd (fails_cut text f n m Gap refl h k)
one_fault {text = text} {f = f} (after_word {n = m} {w = w} k g) (here n h x) = absurd (fails_cut text f n m (Spell w) refl h k)
one_fault {at = at} {q = q} {text = text} {f = f} (after_gap {n = n} h g) (after_gap {n = m} k i) = one_fault g (subst (λ x. Faulty (past at (take x text)) (drop x text) f q) (gap_gap text m n k h) i)
one_fault {text = text} (after_gap {n = n} h g) (after_word {n = m} {w = w} k i) = absurd (gap_word text n m w h k)
one_fault {text = text} (after_word {n = n} {w = w} h g) (after_gap {n = m} k i) = absurd (gap_word text m n w k h)
one_fault {at = at} {q = q} {text = text} {f = f} (after_word {n = n} {w = v} h g) (after_word {n = m} {w = w} k i) = one_fault g (subst (λ x. Faulty (past at (take x text)) (drop x text) f q) (word_word text m n w v k h).0 i)

-- ---- one piece more, where the text was split in two

module _ (at at' : Span) (n : ℕ) (text front back : List ℕ) (p : front ≡ take n text) (q : back ≡ drop n text) (r : at' ≡ past at front) where
  moved : (from : ℕ) (more : List Token) → Cuts at' from back more → Cuts (past at (take n text)) from (drop n text) more
  moved from more c = subst (λ x. Cuts x from (drop n text) more) (r ∙ ap (past at) p) (subst (λ t. Cuts at' from t more) q c)

  moved_fault : (k : LexFault) (place : Span) → Faulty at' back k place → Faulty (past at (take n text)) (drop n text) k place
  moved_fault k place c = subst (λ x. Faulty x (drop n text) k place) (r ∙ ap (past at) p) (subst (λ t. Faulty at' t k place) q c)

  pub gap_more : (from : ℕ) (more : List Token) → IsLongest text n Gap → Cuts at' (from + n) back more → Cuts at from text more
  gap_more from more e c = gap e (moved (from + n) more c)

  pub word_more : (from : ℕ) (w : Word) (more : List Token) → IsLongest text n (Spell w) → Cuts at' (from + n) back more → Cuts at from text (record { word = w; span = at; from = from; to = from + n } ∷ more)
  word_more from w more e c = spelled e (moved (from + n) more c)

  pub gap_fault : (k : LexFault) (place : Span) → IsLongest text n Gap → Faulty at' back k place → Faulty at text k place
  gap_fault k place e c = after_gap e (moved_fault k place c)

  pub word_fault : (w : Word) (k : LexFault) (place : Span) → IsLongest text n (Spell w) → Faulty at' back k place → Faulty at text k place
  word_fault w k place e c = after_word e (moved_fault k place c)

  pub here_fault : (k : LexFault) → Fails text k n → Faulty at text k at'
  here_fault k e = here n e (r ∙ ap (past at) p)

pub end_cuts : (at : Span) (from : ℕ) (text : List ℕ) → length text ≡ 0 → Cuts at from text []
end_cuts at from [] h = at_end
end_cuts at from (b ∷ text) h = absurd (omega arith)

-- ---- what an answer tells

pub tells : (text : List ℕ) (k : LexFault) (at : Span) (e : LexError) → IsFirstFault text k at → e ≡ error_of k at → TellsFault text e
tells text BadByte at e f h = subst (TellsFault text) (sym h) f
tells text NumberRange at e f h = subst (TellsFault text) (sym h) f
tells text OpenText at e f h = subst (TellsFault text) (sym h) f
tells text NameLong at e f h = subst (TellsFault text) (sym h) f
tells text TextLong at e f h = subst (TellsFault text) (sym h) f

-- an error tells a fault, or memory
told_by : (text : List ℕ) (e : LexError) → TellsFault text e → (e ≡ error.OutOfMemory the_refusal) ⊎ ((k : LexFault) × (at : Span) × (e ≡ error_of k at) × IsFirstFault text k at)
told_by text (error.BadByte at) h = inr (BadByte, at, refl, h)
told_by text (error.NumberRange at) h = inr (NumberRange, at, refl, h)
told_by text (error.OpenText at) h = inr (OpenText, at, refl, h)
told_by text (error.NameLong at) h = inr (NameLong, at, refl, h)
told_by text (error.TextLong at) h = inr (TextLong, at, refl, h)
told_by text (error.OutOfMemory _) h = inl refl

pub answers_tokens : (text : List ℕ) (r : Result (List Token) LexError) → IfOk r (AreTokens text) → IfErr r (TellsFault text) → (tokens : List Token) → AreTokens text tokens → Answers r (Ok tokens)
answers_tokens text (Ok found) h k tokens c = inr (ap Ok (one_cutting h c))
answers_tokens text (Err e) h k tokens c = ⊎_elim (λ m. inl (ap Err m)) (λ f. absurd (no_fault c f.3)) (told_by text e k)

pub answers_fault : (text : List ℕ) (r : Result (List Token) LexError) → IfOk r (AreTokens text) → IfErr r (TellsFault text) → (f : LexFault) (at : Span) → IsFirstFault text f at → Answers r (Err (error_of f at))
answers_fault text (Ok found) h k f at c = absurd (no_fault h c)
answers_fault text (Err e) h k f at c = ⊎_elim (λ m. inl (ap Err m)) (λ t. let s = one_fault t.3 c in inr (ap Err (t.2 ∙ ap (λ x. error_of x t.1) s.0 ∙ ap (λ x. error_of f x) s.1))) (told_by text e k)

pub found_places : (text : List ℕ) (r : Result (List Token) LexError) → IfOk r (AreTokens text) → IfOk r (λ tokens. All (LiesIn text) tokens)
found_places text (Ok found) h = tokens_lie text found h
found_places text (Err e) h = tt

pub found_order : (text : List ℕ) (r : Result (List Token) LexError) → IfOk r (AreTokens text) → IfOk r (AreInOrder 0)
found_order text (Ok found) h = tokens_in_order text found h
found_order text (Err e) h = tt

-- How far the literals of a request were read.
use Rattle.std.proofs.Common.{◌≡◌, ◌⊎◌, inl, inr, ◌-◌, ◌<◌, ◌≤◌, ℕ, Bool, true, false, List, [], ◌∷◌, ◌++◌, length, take, drop, get_or, refl, sym, ap, subst, ◌∙◌, append_assoc, arith}
use Rattle.std.specs.Prelude.{◌&&◌, ◌||◌, nat_eq, codes}
use Rattle.std.specs.List.{list_all}
use Rattle.std.proofs.lemmas.Bool.{and_parts, false≢true}
use Rattle.std.proofs.lemmas.Bool.Decides.{nat_tests}
use Rattle.std.proofs.lemmas.List.{take_all}
use Rattle.wave_base.specs.Names.{same_bytes}
use Rattle.wave_text.specs.Words.{is_whole}
use Rattle.script_reader.specs.declared.form.Literal.{Literal}
use Rattle.script_reader.specs.declared.form.Literal.TheVariants.{Number, Truth, Text as Quoted}
use Rattle.script_reader.specs.declared.piece.Piece.{Piece}
use Rattle.script_reader.specs.declared.piece.Piece.TheVariants.{Run, Text, Open, Close, Comma}
use Rattle.script_reader.specs.Forms.{literal_piece, is_literal, more_pieces, literal_pieces, truth_word}
use Rattle.script_reader.specs.inner.Parts.{is_literal_run, spells_literal, IsLiteralPiece, AreLiterals, SpellLiterals, AreOnlyLiterals, AreNoLiterals, More, End, Wrong, behind_in}

-- ---- one piece spells one literal

no_number : (n : List ℕ) (b : Bool) → is_whole n ≡ true → n ≡ truth_word b → ⊥
no_number n true h e = absurd (cc (sym (ap is_whole e) ∙ h))
no_number n false h e = absurd (cc (sym (ap is_whole e) ∙ h))

same_truth : (b c : Bool) → truth_word b ≡ truth_word c → b ≡ c
same_truth true true e = refl
same_truth true false e = cc
same_truth false true e = cc
same_truth false false e = refl

same_by : (a b : Literal) → is_literal a ≡ true → is_literal b ≡ true → literal_piece a ≡ literal_piece b → a ≡ b
same_by (Number n) (Number m) p q e = cc
same_by (Number n) (Truth b) p q e = absurd (no_number n b p cc)
same_by (Number n) (Quoted t) p q e = cc
same_by (Truth b) (Number n) p q e = absurd (no_number n b q cc)
same_by (Truth b) (Truth c) p q e = ap (λ z. Truth z) (same_truth b c cc)
same_by (Truth b) (Quoted t) p q e = cc
same_by (Quoted t) (Number n) p q e = cc
same_by (Quoted t) (Truth b) p q e = cc
same_by (Quoted t) (Quoted u) p q e = cc

pub same_literal : (piece : Piece) (a b : Literal) → IsLiteralPiece piece a → IsLiteralPiece piece b → a ≡ b
same_literal piece a b p q = same_by a b p.form_is q.form_is (p.piece_is ∙ sym q.piece_is)

-- ---- whether a piece spells one

same_number : (a b : ℕ) → nat_eq a b ≡ true → a ≡ b
same_number a b h = grind (arith, nat_tests)

pub same_text : (t u : List ℕ) → same_bytes t u ≡ true → t ≡ u
same_text [] [] e = refl
same_text [] (y ∷ u) e = cc
same_text (x ∷ t) [] e = cc
same_text (x ∷ t) (y ∷ u) e =
    let k = and_parts (nat_eq x y) (same_bytes t u) e in
    λ i. same_number x y k.0 i ∷ same_text t u k.1 i

pub truth_run : (bs : List ℕ) (b : Bool) → same_bytes bs (truth_word b) ≡ true → IsLiteralPiece (Run bs) (Truth b)
truth_run bs b e = record { piece_is = ap (λ z. Run z) (sym (same_text bs (truth_word b) e)); form_is = refl }

-- a run that is no truth value is a number
pub number_run : (bs copy : List ℕ) → is_literal_run bs ≡ true → same_bytes bs (codes "true") ≡ false → same_bytes bs (codes "false") ≡ false → copy ≡ bs → IsLiteralPiece (Run bs) (Number copy)
number_run bs copy h t f e = record { piece_is = ap (λ z. Run z) e; form_is = ap is_whole e ∙ by (is_whole bs) ((λ i. is_whole bs || (sym t i || sym f i)) ∙ h) }
  where
    by : (b : Bool) → (b || (false || false)) ≡ true → b ≡ true
    by true k = refl
    by false k = k

spells_run : (bs : List ℕ) (a : Literal) → IsLiteralPiece (Run bs) a → is_literal_run bs ≡ true
spells_run bs (Number n) p =
    let same : bs ≡ n = cc (p.piece_is) in
    ap (λ t. t || (same_bytes bs (codes "true") || same_bytes bs (codes "false"))) (ap is_whole same ∙ p.form_is)
spells_run bs (Truth true) p = (let same : codes "true" ≡ bs = cc (p.piece_is) in ap is_literal_run (sym same))
spells_run bs (Truth false) p = (let same : codes "false" ≡ bs = cc (p.piece_is) in ap is_literal_run (sym same))
spells_run bs (Quoted t) p = cc (p.piece_is)

pub spells : (piece : Piece) (a : Literal) → IsLiteralPiece piece a → spells_literal piece ≡ true
spells (Run bs) a p = spells_run bs a p
spells (Text t) a p = refl
spells Open (Number n) p = cc (p.piece_is)
spells Open (Truth b) p = cc (p.piece_is)
spells Open (Quoted t) p = cc (p.piece_is)
spells Close (Number n) p = cc (p.piece_is)
spells Close (Truth b) p = cc (p.piece_is)
spells Close (Quoted t) p = cc (p.piece_is)
spells Comma (Number n) p = cc (p.piece_is)
spells Comma (Truth b) p = cc (p.piece_is)
spells Comma (Quoted t) p = cc (p.piece_is)

spelled_run : (bs : List ℕ) → is_literal_run bs ≡ true → (a : Literal) × IsLiteralPiece (Run bs) a
spelled_run bs h = by_number (is_whole bs) refl h
  where
    by_false : (b : Bool) → same_bytes bs (codes "false") ≡ b → b ≡ true → (a : Literal) × IsLiteralPiece (Run bs) a
    by_false true e k = (Truth false, truth_run bs false e)
    by_false false e k = cc

    by_true : (b : Bool) → same_bytes bs (codes "true") ≡ b → (b || same_bytes bs (codes "false")) ≡ true → (a : Literal) × IsLiteralPiece (Run bs) a
    by_true true e k = (Truth true, truth_run bs true e)
    by_true false e k = by_false (same_bytes bs (codes "false")) refl k

    by_number : (b : Bool) → is_whole bs ≡ b → (b || (same_bytes bs (codes "true") || same_bytes bs (codes "false"))) ≡ true → (a : Literal) × IsLiteralPiece (Run bs) a
    by_number true e k = (Number bs, record { piece_is = refl; form_is = e })
    by_number false e k = by_true (same_bytes bs (codes "true")) refl k

spelled : (piece : Piece) → spells_literal piece ≡ true → (a : Literal) × IsLiteralPiece piece a
spelled (Run bs) h = spelled_run bs h
spelled (Text t) h = (Quoted t, record { piece_is = refl; form_is = refl })
spelled Open h = cc
spelled Close h = cc
spelled Comma h = cc

-- ---- behind a literal

pub more_behind : (after more : List Piece) → behind_in after ≡ More more → after ≡ Comma ∷ more
more_behind [] more e = cc
more_behind (Comma ∷ ps) more e = (let same : ps ≡ more = cc in ap (λ z. Comma ∷ z) same)
more_behind (Close ∷ []) more e = cc
more_behind (Close ∷ p ∷ ps) more e = cc
more_behind (Open ∷ ps) more e = cc
more_behind (Run bs ∷ ps) more e = cc
more_behind (Text t ∷ ps) more e = cc

-- behind a comma, as a part of the pieces
pub more_part : (after : List Piece) → More (drop 1 after) ≡ behind_in after → behind_in after ≡ More (take (length after - 1) (drop 1 after))
more_part [] e = cc
more_part (p ∷ ps) e = sym e ∙ ap More (sym (take_all (length (p ∷ ps) - 1) ps (omega arith)))

pub more_some : (after : List Piece) → length after < 1 → More (drop 1 after) ≡ behind_in after → ⊥
more_some [] h e = cc
more_some (p ∷ ps) h e = omega (arith, h)

pub end_behind : (after : List Piece) → behind_in after ≡ End → after ≡ Close ∷ []
end_behind [] e = cc
end_behind (Comma ∷ ps) e = cc
end_behind (Close ∷ []) e = refl
end_behind (Close ∷ p ∷ ps) e = cc
end_behind (Open ∷ ps) e = cc
end_behind (Run bs ∷ ps) e = cc
end_behind (Text t ∷ ps) e = cc

-- ---- how far

pub record AreLiteralsTo (pieces : List Piece) (front : List Literal) (rest : List Piece) : Type 0 where
  pub sound : (a : Literal) (ls : List Literal) → AreLiterals rest (a ∷ ls) → AreLiterals pieces (front ++ a ∷ ls)
  pub whole : (ls : List Literal) → AreLiterals pieces ls → (a : Literal) × (us : List Literal) × (ls ≡ front ++ a ∷ us) × AreLiterals rest (a ∷ us)

-- the first literal is what the first piece spells
first_piece_is : (piece : Piece) (after : List Piece) (a : Literal) (us : List Literal) → AreLiterals (piece ∷ after) (a ∷ us) → IsLiteralPiece piece a × (more_pieces us ≡ after) × (list_all is_literal us ≡ true)
first_piece_is piece after a us h =
    let k = and_parts (is_literal a) (list_all is_literal us) h.form_is in
    let first : literal_piece a ≡ piece = cc (h.pieces_are) in
    let rest : more_pieces us ≡ after = cc (h.pieces_are) in
    (record { piece_is = first; form_is = k.0 }, rest, k.1)

onto : (piece : Piece) (after : List Piece) (a : Literal) (us : List Literal) → IsLiteralPiece piece a → more_pieces us ≡ after → list_all is_literal us ≡ true → AreLiterals (piece ∷ after) (a ∷ us)
onto piece after a us p e f = record { pieces_are = (λ i. p.piece_is i ∷ e i); form_is = (λ i. p.form_is i && list_all is_literal us) ∙ f }

pub literal_read : (pieces after more : List Piece) (front front' : List Literal) (piece : Piece) (a : Literal) → AreLiteralsTo pieces front (piece ∷ after) → IsLiteralPiece piece a → behind_in after ≡ More more → front' ≡ front ++ a ∷ []
    → AreLiteralsTo pieces front' more
literal_read pieces after more front front' piece a h p b e = record {
  sound = λ c ls k.
      let comma : more_pieces (c ∷ ls) ≡ after = ap (λ z. Comma ∷ z) k.pieces_are ∙ sym (more_behind after more b) in
      subst (AreLiterals pieces) (sym (append_assoc front (a ∷ []) (c ∷ ls)) ∙ ap (λ z. z ++ c ∷ ls) (sym e)) (h.sound a (c ∷ ls) (onto piece after a (c ∷ ls) p comma k.form_is));
  whole = λ ls k. (let w = h.whole ls k in by_literals w.0 w.1 ls w.2 w.3);
}
  where
    by_literals : (c : Literal) (us ls : List Literal) → ls ≡ front ++ c ∷ us → AreLiterals (piece ∷ after) (c ∷ us)
        → (d : Literal) × (vs : List Literal) × (ls ≡ front' ++ d ∷ vs) × AreLiterals more (d ∷ vs)
    by_literals c [] ls q k =
        let f = first_piece_is piece after c [] k in
        absurd (cc (f.1, more_behind after more b))
    by_literals c (d ∷ vs) ls q k =
        let f = first_piece_is piece after c (d ∷ vs) k in
        let same : c ≡ a = same_literal piece c a f.0 p in
        let rest : literal_pieces (d ∷ vs) ≡ more = cc (f.1, more_behind after more b) in
        (d, vs, q ∙ ap (λ z. front ++ z ∷ d ∷ vs) same ∙ sym (append_assoc front (a ∷ []) (d ∷ vs)) ∙ ap (λ z. z ++ d ∷ vs) (sym e), record { pieces_are = rest; form_is = f.2 })

pub all_read : (pieces after : List Piece) (front front' : List Literal) (piece : Piece) (a : Literal) → AreLiteralsTo pieces front (piece ∷ after) → IsLiteralPiece piece a → behind_in after ≡ End → front' ≡ front ++ a ∷ []
    → AreOnlyLiterals pieces front'
all_read pieces after front front' piece a h p b e =
    (subst (AreLiterals pieces) (sym e) (h.sound a [] (onto piece after a [] p (sym (end_behind after b)) refl)), λ others k. (let w = h.whole others k in by_literals w.0 w.1 others w.2 w.3))
  where
    by_literals : (c : Literal) (us ls : List Literal) → ls ≡ front ++ c ∷ us → AreLiterals (piece ∷ after) (c ∷ us) → ls ≡ front'
    by_literals c [] ls q k =
        let f = first_piece_is piece after c [] k in
        q ∙ ap (λ z. front ++ z ∷ []) (same_literal piece c a f.0 p) ∙ sym e
    by_literals c (d ∷ vs) ls q k =
        let f = first_piece_is piece after c (d ∷ vs) k in
        absurd (cc (f.1, end_behind after b))

-- ---- whether there are literals, without what they are

-- some literals were read
pub record AreSomeTo (pieces rest : List Piece) : Type 0 where
  pub front : List Literal
  pub read : AreLiteralsTo pieces front rest

none_read : (pieces : List Piece) → (pieces ≡ Close ∷ [] → ⊥) → AreLiteralsTo pieces [] pieces
none_read pieces some = record { sound = λ a ls k. k; whole = λ ls k. by_literals ls k }
  where
    by_literals : (ls : List Literal) → AreLiterals pieces ls → (a : Literal) × (us : List Literal) × (ls ≡ [] ++ a ∷ us) × AreLiterals pieces (a ∷ us)
    by_literals [] k = absurd (some (sym k.pieces_are))
    by_literals (a ∷ us) k = (a, us, refl, k)

pub some_none : (pieces : List Piece) → (pieces ≡ Close ∷ [] → ⊥) → AreSomeTo pieces pieces
some_none pieces some = record { front = []; read = none_read pieces some }

pub close_alone : (pieces : List Piece) → pieces ≡ Close ∷ [] → SpellLiterals pieces
close_alone pieces e = ([], record { pieces_are = sym e; form_is = refl })

module _ (pieces after : List Piece) (piece : Piece) (h : AreSomeTo pieces (piece ∷ after)) where
  pub no_literal : spells_literal piece ≡ false → AreNoLiterals pieces
  no_literal none ls k =
      let w = h.read.whole ls k in
      let f = first_piece_is piece after w.0 w.1 w.3 in
      false≢true (sym none ∙ spells piece w.0 f.0)

  pub wrong_behind : behind_in after ≡ Wrong → AreNoLiterals pieces
  wrong_behind wrong ls k = (let w = h.read.whole ls k in by_rest w.1 (first_piece_is piece after w.0 w.1 w.3).1)
    where
      by_rest : (us : List Literal) → more_pieces us ≡ after → ⊥
      by_rest [] e = cc (ap behind_in e ∙ wrong)
      by_rest (b ∷ us) e = cc (ap behind_in e ∙ wrong)

  pub some_more : spells_literal piece ≡ true → (more : List Piece) → behind_in after ≡ More more → AreSomeTo pieces more
  some_more spells_it more b =
      let a = spelled piece spells_it in
      record { front = h.front ++ a.0 ∷ []; read = literal_read pieces after more h.front (h.front ++ a.0 ∷ []) piece a.0 h.read a.1 b refl }

  pub some_all : spells_literal piece ≡ true → behind_in after ≡ End → SpellLiterals pieces
  some_all spells_it b =
      let a = spelled piece spells_it in
      (h.front ++ a.0 ∷ [], (all_read pieces after h.front (h.front ++ a.0 ∷ []) piece a.0 h.read a.1 b refl).0)

pub nothing_left : (pieces rest : List Piece) → AreSomeTo pieces rest → rest ≡ [] → AreNoLiterals pieces
nothing_left pieces rest h e ls k = (let w = h.read.whole ls k in absurd (cc (w.3.pieces_are ∙ e)))

-- ---- the literals that are there are copied

-- these were, and this stands behind them: others, or no more than an end
abbrev pub AreCopied : List Piece → List Literal → List Piece → Type 0
AreCopied pieces literals rest = AreLiteralsTo pieces literals rest ⊎ (AreOnlyLiterals pieces literals × (length rest < 2))

not_close : (a : Literal) (us : List Literal) → literal_piece a ∷ more_pieces us ≡ Close ∷ [] → ⊥
not_close a [] e = cc
not_close a (b ∷ us) e = cc

pub copied_none : (pieces : List Piece) (ls : List Literal) → AreLiterals pieces ls → AreCopied pieces [] pieces
copied_none pieces [] k = inr ((k, λ others m. by_literals others m), omega (arith, ap length k.pieces_are))
  where
    by_literals : (others : List Literal) → AreLiterals pieces others → others ≡ []
    by_literals [] m = refl
    by_literals (a ∷ us) m = absurd (not_close a us (m.pieces_are ∙ sym k.pieces_are))
copied_none pieces (a ∷ us) k = inl (none_read pieces (λ e. not_close a us (k.pieces_are ∙ e)))

module _ (pieces rest : List Piece) (literals ls : List Literal) (k : AreLiterals pieces ls) where
  pub next_spells : (piece sign : Piece) (after : List Piece) → AreCopied pieces literals rest → rest ≡ piece ∷ sign ∷ after → spells_literal piece ≡ true
  next_spells piece sign after (inr o) e = absurd (omega (arith, o.1, ap length e))
  next_spells piece sign after (inl h) e =
      let w = h.whole ls k in
      spells piece w.0 (first_piece_is piece (sign ∷ after) w.0 w.1 (subst (λ r. AreLiterals r (w.0 ∷ w.1)) e w.3)).0

  pub copied_more : (piece sign : Piece) (after : List Piece) (literals' : List Literal) (a : Literal) → AreCopied pieces literals rest → rest ≡ piece ∷ sign ∷ after → IsLiteralPiece piece a → literals' ≡ literals ++ a ∷ []
      → AreCopied pieces literals' after
  copied_more piece sign after literals' a (inr o) e p q = absurd (omega (arith, o.1, ap length e))
  copied_more piece sign after literals' a (inl h) e p q = (let w = here.whole ls k in by_rest w.1 (first_piece_is piece (sign ∷ after) w.0 w.1 w.3).1)
    where
      here : AreLiteralsTo pieces literals (piece ∷ sign ∷ after)
      here = subst (AreLiteralsTo pieces literals) e h

      by_rest : (us : List Literal) → more_pieces us ≡ sign ∷ after → AreCopied pieces literals' after
      by_rest [] m =
          let none : after ≡ [] = cc in
          inr (all_read pieces (sign ∷ after) literals literals' piece a here p (ap behind_in (sym m)) q, omega (arith, ap length none))
      by_rest (b ∷ us) m =
          let comma : sign ≡ Comma = cc in
          inl (literal_read pieces (sign ∷ after) after literals literals' piece a here p (ap (λ s. behind_in (s ∷ after)) comma) q)

  pub copied_all : AreCopied pieces literals rest → length rest < 2 → AreOnlyLiterals pieces literals
  copied_all (inr o) few = o.0
  copied_all (inl h) few = (let w = h.whole ls k in by_rest w.0 w.1 w.3.pieces_are)
    where
      by_rest : (a : Literal) (us : List Literal) → literal_piece a ∷ more_pieces us ≡ rest → AreOnlyLiterals pieces literals
      by_rest a [] e = absurd (omega (arith, few, ap length e))
      by_rest a (b ∷ us) e = absurd (omega (arith, few, ap length e))

-- the first two pieces, and the rest
pub two_of : (xs : List Piece) (x : Piece) → 2 ≤ length xs → x ≡ get_or xs 0 x → (sign : Piece) × (xs ≡ x ∷ sign ∷ take (length xs - 2) (drop 2 xs))
two_of [] x h e = absurd (omega arith)
two_of (y ∷ []) x h e = absurd (omega arith)
two_of (y ∷ z ∷ ys) x h e = (z, (λ i. sym e i ∷ z ∷ ys) ∙ ap (λ r. x ∷ z ∷ r) (sym (take_all (length (y ∷ z ∷ ys) - 2) ys (omega arith))))

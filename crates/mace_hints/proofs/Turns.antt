-- The turns of loops: words in their layout one after the other, and hints told one by one.
use Rattle.std.proofs.Common.{◌≡◌, ℕ, zero, suc, ◌+◌, ◌<◌, ◌≤◌, ⊎_elim, List, [], ◌∷◌, ◌++◌, length, take, get_or, refl, sym, ◌∙◌, subst, ap, arith, append_assoc, append-nil, take-suc}
use Rattle.std.specs.Prelude.{Contains, ◌↔◌, slice_index_or}
use Rattle.std.proofs.lemmas.List.{take_all, map-append}
use Rattle.std.proofs.lemmas.List.Elements.{Contains-append_left, Contains-append_right, Contains-append_cases}
use Rattle.mace_lexer.specs.declared.token.Token.{Token}
use Rattle.mace_lexer.specs.declared.token.Word.{Word}
use Rattle.mace_lexer.specs.declared.keyword.Keyword.TheVariants as k
use Rattle.mace_lexer.specs.declared.sign.Sign.TheVariants as s
use Rattle.mace_grammar.specs.Spelled.{words}
use Rattle.mace_printer.specs.Layout.{layout}
use Rattle.mace_hints.specs.declared.hint.TheConstants.{HINTS}
use Rattle.mace_hints.specs.declared.hint.Hint.{Hint}
use Rattle.mace_hints.specs.declared.hint.Hint.TheVariants as h
use Rattle.mace_hints.specs.Hints.{CanFollow}
use Rattle.mace_hints.specs.inner.Fronts.{Tells, TellsOne}
use Rattle.mace_hints.proofs.Following.{layout_one_more}

next_of : {X : Type 0} (xs : List X) (i : ℕ) (x : X) → i < length xs → x ≡ get_or xs i x → take (i + 1) xs ≡ take i xs ++ x ∷ []
next_of xs i x l at =
    let one : i + 1 ≡ suc i = omega arith in
    ap (λ j. take j xs) one ∙ take-suc xs i x l ∙ ap (λ z. take i xs ++ z ∷ []) (sym at)

-- what an item would be otherwise says nothing of one that is there
pub item_again : {X : Type 0} (xs : List X) (i : ℕ) (x : X) → i < length xs → get_or xs i x ≡ get_or xs i (get_or xs i x)
item_again [] i x l = absurd (omega arith)
item_again (y ∷ xs) zero x l = refl
item_again (y ∷ xs) (suc i) x l = item_again xs i x (omega arith)

-- ---- words

pub words_turn : (o a b : List ℕ) (ts : List Token) (i : ℕ) (t : Token) → i < length ts → t ≡ get_or ts i t → a ≡ o ++ layout (words (take i ts)) → b ≡ a ++ layout (t.word ∷ []) → b ≡ o ++ layout (words (take (i + 1) ts))
words_turn o a b ts i t l at text put =
    let next : words (take (i + 1) ts) ≡ words (take i ts) ++ t.word ∷ [] = ap words (next_of ts i t l at) ∙ map-append (λ u. u.word) (take i ts) (t ∷ []) in
    put ∙ ap (λ z. z ++ layout (t.word ∷ [])) text ∙ append_assoc o (layout (words (take i ts))) (layout (t.word ∷ [])) ∙ ap (λ z. o ++ z) (sym (layout_one_more (words (take i ts)) t.word)) ∙ ap (λ z. o ++ layout z) (sym next)

pub words_end : (o a : List ℕ) (ts : List Token) (i : ℕ) → length ts ≤ i → a ≡ o ++ layout (words (take i ts)) → a ≡ o ++ layout (words ts)
words_end o a ts i l text = text ∙ ap (λ z. o ++ layout (words z)) (take_all i ts l)

pub words_begin : (o : List ℕ) → o ≡ o ++ layout []
unfolding layout
words_begin o = sym (append-nil o)

-- ---- hints

the_one : {X : Type 0} (x y : X) → Contains (x ∷ []) y → x ≡ y
the_one {X = X} x y c = at c.0 c.1 c.2
  where
    at : (k : ℕ) → k < length (x ∷ []) → slice_index_or (x ∷ []) k y ≡ y → x ≡ y
    at zero l e = e
    at (suc n) l e = absurd (omega arith)

module _ (ws : List Word) (table : List Hint) (i : ℕ) (x : Hint) (found : List Hint) (l : i < length table) (at : x ≡ get_or table i x) (T : Tells ws (take i table) found) where
  next : take (i + 1) table ≡ take i table ++ x ∷ []
  next = next_of table i x l at

  pub told_turn : CanFollow ws x → Tells ws (take (i + 1) table) (found ++ x ∷ [])
  told_turn f = subst (λ z. Tells ws z (found ++ x ∷ [])) (sym next) (λ y. (
    (λ c. ⊎_elim
        (λ a. let (b, g) = (T y).0 a in (Contains-append_left (take i table) (x ∷ []) y b, g))
        (λ a. (Contains-append_right (take i table) (x ∷ []) y a, subst (λ z. CanFollow ws z) (the_one x y a) f))
        (Contains-append_cases found (x ∷ []) y c)),
    (λ c. ⊎_elim
        (λ a. Contains-append_left found (x ∷ []) y ((T y).1 (a, c.1)))
        (λ a. Contains-append_right found (x ∷ []) y a)
        (Contains-append_cases (take i table) (x ∷ []) y c.0)),
  ))

  pub left_turn : (CanFollow ws x → ⊥) → Tells ws (take (i + 1) table) found
  left_turn n = subst (λ z. Tells ws z found) (sym next) (λ y. (
    (λ c. let (b, g) = (T y).0 c in (Contains-append_left (take i table) (x ∷ []) y b, g)),
    (λ c. ⊎_elim
        (λ a. (T y).1 (a, c.1))
        (λ a. absurd (n (subst (λ z. CanFollow ws z) (sym (the_one x y a)) c.1)))
        (Contains-append_cases (take i table) (x ∷ []) y c.0)),
  ))

  pub one_turn : (new : List Hint) → TellsOne ws x found new → Tells ws (take (i + 1) table) new
  one_turn new o = ⊎_elim
      (λ y. subst (λ z. Tells ws (take (i + 1) table) z) (sym y.1) (told_turn y.0))
      (λ n. subst (λ z. Tells ws (take (i + 1) table) z) (sym n.1) (left_turn n.0))
      o

pub told_none : (ws : List Word) → Tells ws [] []
told_none ws = λ y. ((λ c. absurd (omega (arith, c.1))), (λ c. absurd (omega (arith, c.0.1))))

pub told_end : (ws : List Word) (table : List Hint) (i : ℕ) (found : List Hint) → length table ≤ i → Tells ws (take i table) found → Tells ws table found
told_end ws table i found l T = subst (λ z. Tells ws z found) (take_all i table l) T

-- the table has each hint
pub has_each : (y : Hint) → Contains HINTS y
has_each h.Name = (0, omega arith, refl)
has_each h.Finish = (1, omega arith, refl)
has_each h.Number = (2, omega arith, refl)
has_each h.Two = (3, omega arith, refl)
has_each h.Text = (4, omega arith, refl)
has_each (h.Key k.Service) = (5, omega arith, refl)
has_each (h.Key k.Context) = (6, omega arith, refl)
has_each (h.Key k.Var) = (7, omega arith, refl)
has_each (h.Key k.Method) = (8, omega arith, refl)
has_each (h.Key k.Event) = (9, omega arith, refl)
has_each (h.Key k.Here) = (10, omega arith, refl)
has_each (h.Key k.Down) = (11, omega arith, refl)
has_each (h.Key k.Reply) = (12, omega arith, refl)
has_each (h.Key k.Let) = (13, omega arith, refl)
has_each (h.Key k.If) = (14, omega arith, refl)
has_each (h.Key k.Else) = (15, omega arith, refl)
has_each (h.Key k.While) = (16, omega arith, refl)
has_each (h.Key k.For) = (17, omega arith, refl)
has_each (h.Key k.In) = (18, omega arith, refl)
has_each (h.Key k.To) = (19, omega arith, refl)
has_each (h.Key k.Require) = (20, omega arith, refl)
has_each (h.Key k.Send) = (21, omega arith, refl)
has_each (h.Key k.Spawn) = (22, omega arith, refl)
has_each (h.Key k.Drop) = (23, omega arith, refl)
has_each (h.Key k.Return) = (24, omega arith, refl)
has_each (h.Key k.True) = (25, omega arith, refl)
has_each (h.Key k.False) = (26, omega arith, refl)
has_each (h.Key k.Empty) = (27, omega arith, refl)
has_each (h.Key k.Int) = (28, omega arith, refl)
has_each (h.Key k.Bool) = (29, omega arith, refl)
has_each (h.Key k.Text) = (30, omega arith, refl)
has_each (h.Key k.Map) = (31, omega arith, refl)
has_each (h.Sign s.LeftBrace) = (32, omega arith, refl)
has_each (h.Sign s.RightBrace) = (33, omega arith, refl)
has_each (h.Sign s.LeftParen) = (34, omega arith, refl)
has_each (h.Sign s.RightParen) = (35, omega arith, refl)
has_each (h.Sign s.LeftBracket) = (36, omega arith, refl)
has_each (h.Sign s.RightBracket) = (37, omega arith, refl)
has_each (h.Sign s.Comma) = (38, omega arith, refl)
has_each (h.Sign s.Semicolon) = (39, omega arith, refl)
has_each (h.Sign s.Colon) = (40, omega arith, refl)
has_each (h.Sign s.Dot) = (41, omega arith, refl)
has_each (h.Sign s.Equals) = (42, omega arith, refl)
has_each (h.Sign s.EqualsEquals) = (43, omega arith, refl)
has_each (h.Sign s.BangEquals) = (44, omega arith, refl)
has_each (h.Sign s.Less) = (45, omega arith, refl)
has_each (h.Sign s.LessEquals) = (46, omega arith, refl)
has_each (h.Sign s.Greater) = (47, omega arith, refl)
has_each (h.Sign s.GreaterEquals) = (48, omega arith, refl)
has_each (h.Sign s.Plus) = (49, omega arith, refl)
has_each (h.Sign s.Minus) = (50, omega arith, refl)
has_each (h.Sign s.Star) = (51, omega arith, refl)
has_each (h.Sign s.Slash) = (52, omega arith, refl)
has_each (h.Sign s.Percent) = (53, omega arith, refl)
has_each (h.Sign s.AndAnd) = (54, omega arith, refl)
has_each (h.Sign s.OrOr) = (55, omega arith, refl)
has_each (h.Sign s.Bang) = (56, omega arith, refl)

pub told_exact : (ws : List Word) (found : List Hint) → Tells ws HINTS found → (y : Hint) → Contains found y ↔ CanFollow ws y
told_exact ws found T y = ((λ c. ((T y).0 c).1), (λ f. (T y).1 (has_each y, f)))

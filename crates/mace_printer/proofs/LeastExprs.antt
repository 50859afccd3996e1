-- No fewer words spell an expression than its canonical ones.
use Rattle.std.proofs.Common.{◌≡◌, ◌≤◌, ◌<◌, ◌+◌, ℕ, zero, suc, inl, inr, Bool, true, false, nat_lt, List, [], ◌∷◌, ◌++◌, length, fold, Option, Some, None, unwrap_or, refl, sym, ap, subst, ◌∙◌, arith, length-append, ltb-true, lt-ltb}
use Rattle.wave_base.specs.declared.span.Span.{Span}
use Rattle.mace_lexer.specs.declared.token.Token.{Token}
use Rattle.mace_lexer.specs.declared.token.Word.{Word}
use Rattle.mace_lexer.specs.declared.token.Word.TheVariants as word
use Rattle.mace_lexer.specs.declared.keyword.Keyword.{Keyword}
use Rattle.mace_lexer.specs.declared.keyword.Keyword.TheVariants as k
use Rattle.mace_lexer.specs.declared.sign.Sign.{Sign}
use Rattle.mace_lexer.specs.declared.sign.Sign.TheVariants as s
use Rattle.mace_ast.specs.declared.name.Name.{Name}
use Rattle.mace_ast.specs.declared.expr.BinaryOp.{BinaryOp}
use Rattle.mace_ast.specs.declared.expr.BinaryOp.TheVariants as op
use Rattle.mace_ast.specs.Exprs as e
use Rattle.mace_ast.specs.Exprs.{ExprTree, exprs_of, place_of}
use Rattle.mace_grammar.specs.Part.{Part, ◌>>◌, SpellsAll, SpellsMaybe, nested_part}
use Rattle.mace_grammar.specs.Words as w
use Rattle.mace_grammar.specs.Words.{Edition}
use Rattle.mace_grammar.specs.Grammar as g
use Rattle.mace_printer.specs.Canon as c
use Rattle.mace_printer.specs.Canon.{expr_words, args_words, more_words, in_parens, level_of, left_level_of, sign_of, whole_words}

-- a part's values have at most as many words as tokens spell them
abbrev pub Least : {A : Type 0} → Part A → (A → ℕ) → Type 0
Least {A} p size = (a : A) (ts : List Token) → p.Spells a ts → size a ≤ length ts

-- ---- parentheses

paren_le : (b d : Bool) (ws : List Word) → (b ≡ true → d ≡ true) → length (in_parens b ws) ≤ length (in_parens d ws)
paren_le true d ws h = subst (λ d. length (in_parens true ws) ≤ length (in_parens d ws)) (sym (h refl)) (omega arith)
paren_le false true ws h = omega (arith, length-append {A = Word})
paren_le false false ws h = omega arith

paren_cost : (b : Bool) (ws : List Word) → length (in_parens b ws) ≤ 2 + length ws
paren_cost true ws = omega (arith, length-append {A = Word})
paren_cost false ws = omega arith

paren_least : (b : Bool) (ws : List Word) → length ws ≤ length (in_parens b ws)
paren_least true ws = omega (arith, length-append {A = Word})
paren_least false ws = omega arith

paren_none : (b : Bool) (ws : List Word) → (b ≡ true → ⊥) → length (in_parens b ws) ≡ length ws
paren_none true ws h = absurd (h refl)
paren_none false ws h = refl

-- behind a list that is closed
pub closed : (xs : List Word) (y : Word) (zs : List Word) → length ((xs ++ (y ∷ [])) ++ zs) ≡ length xs + suc (length zs)
closed xs y zs = length-append (xs ++ (y ∷ [])) zs ∙ ap (λ n. n + length zs) (length-append xs (y ∷ [])) ∙ omega arith

abbrev own_words : BinaryOp → ExprTree → ExprTree → List Word
own_words o a b = expr_words a (left_level_of o) ++ (word.Sign (sign_of o) ∷ expr_words b (level_of o + 1))

-- where less is wanted, no more words stand
looser : (t : ExprTree) (l m : ℕ) → l ≤ m → length (expr_words t l) ≤ length (expr_words t m)
looser (e.Number at n) l m h = omega arith
looser (e.Text at b) l m h = omega arith
looser (e.Boolean at b) l m h = omega arith
looser (e.Empty at) l m h = omega arith
looser (e.Read at x) l m h = omega arith
looser (e.Above at c x) l m h = omega arith
looser (e.Index at x p) l m h = omega arith
looser (e.AboveIndex at c x p) l m h = omega arith
looser (e.Call at f a) l m h = omega arith
looser (e.ChildCall at c p f a) l m h = omega arith
looser (e.Unary at o x) l m h = omega arith
looser (e.Binary at o a b) l m h = paren_le (nat_lt (level_of o) l) (nat_lt (level_of o) m) (own_words o a b) (λ q. lt-ltb (level_of o) m (omega (arith, h, ltb-true (level_of o) l q)))

loosened : (t : ExprTree) → length (expr_words t 5) ≤ 2 + length (expr_words t 0)
loosened (e.Number at n) = omega arith
loosened (e.Text at b) = omega arith
loosened (e.Boolean at b) = omega arith
loosened (e.Empty at) = omega arith
loosened (e.Read at x) = omega arith
loosened (e.Above at c x) = omega arith
loosened (e.Index at x p) = omega arith
loosened (e.AboveIndex at c x p) = omega arith
loosened (e.Call at f a) = omega arith
loosened (e.ChildCall at c p f a) = omega arith
loosened (e.Unary at o x) = omega arith
loosened (e.Binary at o a b) = omega (arith, paren_cost (nat_lt (level_of o) 5) (own_words o a b), paren_least (nat_lt (level_of o) 0) (own_words o a b))

at_level : (l : ℕ) (at : Span) (o : BinaryOp) (a b : ExprTree) → level_of o ≡ l → length (expr_words (e.Binary at o a b) l) ≡ length (expr_words a (left_level_of o)) + suc (length (expr_words b (l + 1)))
at_level l at o a b h =
    paren_none (nat_lt (level_of o) l) (own_words o a b) (λ q. let less : level_of o < l = ltb-true (level_of o) l q in absurd (omega arith))
    ∙ length-append (expr_words a (left_level_of o)) (word.Sign (sign_of o) ∷ expr_words b (level_of o + 1)) ∙ ap (λ m. length (expr_words a (left_level_of o)) + suc (length (expr_words b (m + 1)))) h

-- ---- chains

-- the operators of a level, and the level of their left operands
abbrev Stands : ℕ → ℕ → BinaryOp → Type 0
Stands l m o = (level_of o ≡ l) × (left_level_of o ≡ m)

abbrev Fit : (Sign → Option BinaryOp) → ℕ → ℕ → Type 0
Fit f l m = (j : Sign) (o : BinaryOp) → f j ≡ Some o → Stands l m o

same_op : (l m : ℕ) (a o : BinaryOp) → Stands l m a → Some a ≡ Some o → Stands l m o
same_op l m a o h e = let same : a ≡ o = cc in subst (Stands l m) same h

or_fits : Fit w.or_op 0 0
or_fits s.OrOr o q = same_op 0 0 op.Or o (refl, refl) q
or_fits _ o q = cc

and_fits : Fit w.and_op 1 1
and_fits s.AndAnd o q = same_op 1 1 op.And o (refl, refl) q
and_fits _ o q = cc

comparison_fits : Fit w.comparison_op 2 3
comparison_fits s.EqualsEquals o q = same_op 2 3 op.Eq o (refl, refl) q
comparison_fits s.BangEquals o q = same_op 2 3 op.Ne o (refl, refl) q
comparison_fits s.Less o q = same_op 2 3 op.Lt o (refl, refl) q
comparison_fits s.LessEquals o q = same_op 2 3 op.Le o (refl, refl) q
comparison_fits s.Greater o q = same_op 2 3 op.Gt o (refl, refl) q
comparison_fits s.GreaterEquals o q = same_op 2 3 op.Ge o (refl, refl) q
comparison_fits _ o q = cc

sum_fits : Fit w.sum_op 3 3
sum_fits s.Plus o q = same_op 3 3 op.Add o (refl, refl) q
sum_fits s.Minus o q = same_op 3 3 op.Sub o (refl, refl) q
sum_fits _ o q = cc

product_fits : Fit w.product_op 4 4
product_fits s.Star o q = same_op 4 4 op.Mul o (refl, refl) q
product_fits s.Slash o q = same_op 4 4 op.Div o (refl, refl) q
product_fits s.Percent o q = same_op 4 4 op.Rem o (refl, refl) q
product_fits _ o q = cc

op_stands : (f : Sign → Option BinaryOp) (l m : ℕ) → Fit f l m → (x : Word) (o : BinaryOp) → w.op_word f x ≡ Some o → Stands l m o
op_stands f l m h (word.Sign j) o q = h j o q
op_stands f l m h (word.Name t) o q = cc
op_stands f l m h (word.Key j) o q = cc
op_stands f l m h (word.Number n) o q = cc
op_stands f l m h (word.Text t) o q = cc

-- an operator and its right operand, behind a left one
joined_least : (item : Part ExprTree) (f : Sign → Option BinaryOp) (l m : ℕ) → Fit f l m → Least item (λ a. length (expr_words a (l + 1))) → (left : ExprTree) (x : BinaryOp × ExprTree) (ts : List Token) → (g.operand (w.operator f) item).Spells x ts
    → length (expr_words (g.binary_of left x) l) ≤ length (expr_words left m) + length ts
joined_least item f l m fits least left x ts h =
    let (o, f1, b1, e1, k1, r1) = h in
    let (right, f2, b2, e2, k2, r2) = r1 in
    let stands = op_stands f l m fits k1.0.word o k1.2 in
    let here : length (expr_words (g.binary_of left (o, right)) l) ≡ length (expr_words left m) + suc (length (expr_words right (l + 1))) =
    at_level l (place_of left) o left right stands.0 ∙ ap (λ n. length (expr_words left n) + suc (length (expr_words right (l + 1)))) stands.1 in
    subst (λ x. length (expr_words (g.binary_of left x) l) ≤ length (expr_words left m) + length ts) (sym r2.0)
    (omega (arith, here, least right f2 k2, length-append {A = Token}, ap length e1, ap length k1.1, ap length e2, ap length r2.1))

module _ (item : Part ExprTree) (f : Sign → Option BinaryOp) (l : ℕ) (fits : Fit f l l) (least : Least item (λ a. length (expr_words a (l + 1)))) where
  chain_rest : (left : ExprTree) (others : List (BinaryOp × ExprTree)) (ts : List Token) → SpellsAll (g.operand (w.operator f) item) others ts → length (expr_words (fold g.binary_of left others) l) ≤ length (expr_words left l) + length ts
  chain_rest left [] ts h = omega arith
  chain_rest left (x ∷ others) ts h =
      let (front, back, q, k, rest) = h in
      omega (arith, chain_rest (g.binary_of left x) others back rest, joined_least item f l l fits least left x front k, length-append {A = Token}, ap length q)

  chain_least : Least (g.chain item (w.operator f)) (λ a. length (expr_words a l))
  chain_least a ts h =
      let (first, f1, b1, e1, k1, r1) = h in
      let (others, f2, b2, e2, k2, r2) = r1 in
      subst (λ a. length (expr_words a l) ≤ length ts) (sym r2.0)
      (omega (arith, chain_rest first others f2 k2, looser first l (l + 1) (omega arith), least first f1 k1, length-append {A = Token}, ap length e1, ap length e2))

-- ---- lists in parentheses

module _ {A : Type 0} (item : Part A) (words : A → List Word) (least : Least item (λ a. length (words a))) where
  further_least : (xs : List A) (ts : List Token) → SpellsAll (w.sign s.Comma >> item) xs ts → length (c.further_words words xs) ≤ length ts
  further_least [] ts h = omega arith
  further_least (x ∷ xs) ts h =
      let (front, back, q, k, rest) = h in
      let (at, f1, b1, e1, k1, r1) = k in
      omega (arith, least x b1 r1, further_least xs back rest, length-append {A = Word}, length-append {A = Token}, ap length q, ap length e1, ap length k1.1)

  listed_least : Least (g.comma_list item) (λ xs. length (c.listed_words words xs))
  listed_least xs ts h =
      let (first, f1, b1, e1, k1, r1) = h in
      let (others, f2, b2, e2, k2, r2) = r1 in
      subst (λ xs. length (c.listed_words words xs) ≤ length ts) (sym r2.0)
      (omega (arith, least first f1 k1, further_least others f2 k2, length-append {A = Word}, length-append {A = Token}, ap length e1, ap length e2))

  found_least : (found : Option (List A)) (ts : List Token) → SpellsMaybe (g.comma_list item) found ts → length (c.listed_words words (unwrap_or found [])) ≤ length ts
  found_least None ts h = omega arith
  found_least (Some xs) ts h = listed_least xs ts h

  pub parens_least : Least (g.in_parens item) (λ xs. 2 + length (c.listed_words words xs))
  parens_least xs ts h =
      let (at, f1, b1, e1, k1, r1) = h in
      let (found, f2, b2, e2, k2, r2) = r1 in
      let (end, f3, b3, e3, k3, r3) = r2 in
      subst (λ xs. 2 + length (c.listed_words words xs) ≤ length ts) (sym r3.0)
      (omega (arith, found_least found f2 k2, length-append {A = Token}, ap length e1, ap length k1.1, ap length e2, ap length e3, ap length k3.1))

  -- one behind the other
  pub all_least : (xs : List A) (ts : List Token) → SpellsAll item xs ts → length (c.all_of words xs) ≤ length ts
  all_least [] ts h = omega arith
  all_least (x ∷ xs) ts h =
      let (front, back, q, k, rest) = h in
      omega (arith, least x front k, all_least xs back rest, length-append {A = Word}, length-append {A = Token}, ap length q)

more_same : (xs : List ExprTree) → more_words (exprs_of xs) ≡ c.further_words whole_words xs
more_same [] = refl
more_same (x ∷ xs) = ap (λ ws. word.Sign s.Comma ∷ (whole_words x ++ ws)) (more_same xs)

args_same : (xs : List ExprTree) → args_words (exprs_of xs) ≡ c.listed_words whole_words xs
args_same [] = refl
args_same (x ∷ xs) = ap (λ ws. whole_words x ++ ws) (more_same xs)

-- ---- expressions

literal_key : (at : Span) (j : Keyword) (a : ExprTree) → w.literal_of_key at j ≡ Some a → length (expr_words a 5) ≡ 1
literal_key at k.True a q = let same : e.Boolean at true ≡ a = cc in subst (λ a. length (expr_words a 5) ≡ 1) same refl
literal_key at k.False a q = let same : e.Boolean at false ≡ a = cc in subst (λ a. length (expr_words a 5) ≡ 1) same refl
literal_key at k.Empty a q = let same : e.Empty at ≡ a = cc in subst (λ a. length (expr_words a 5) ≡ 1) same refl
literal_key at _ a q = cc

literal_one : (at : Span) (x : Word) (a : ExprTree) → w.literal_word at x ≡ Some a → length (expr_words a 5) ≡ 1
literal_one at (word.Number n) a q = let same : e.Number at n ≡ a = cc in subst (λ a. length (expr_words a 5) ≡ 1) same refl
literal_one at (word.Text t) a q = let same : e.Text at t ≡ a = cc in subst (λ a. length (expr_words a 5) ≡ 1) same refl
literal_one at (word.Key j) a q = literal_key at j a q
literal_one at (word.Name t) a q = cc
literal_one at (word.Sign j) a q = cc

literal_least : Least w.literal (λ a. length (expr_words a 5))
literal_least a ts h = omega (arith, literal_one h.0.span h.0.word a h.2, ap length h.1)

module _ (edition : Edition) where
  pub field_least : (x : Name) (ts : List Token) → (g.field edition).Spells x ts → length ts ≡ 2
  field_least x ts h =
      let (at, f1, b1, e1, k1, r1) = h in
      omega (arith, length-append {A = Token}, ap length e1, ap length k1.1, ap length r1.1)

  -- where expressions of the tightest level are so spelled, others are too
  module _ (u : Part ExprTree) (least : Least u (λ a. length (expr_words a 5))) where
    product_least : Least (g.product edition u) (λ a. length (expr_words a 4))
    product_least = chain_least u w.product_op 4 product_fits least

    sum_least : Least (g.sum edition u) (λ a. length (expr_words a 3))
    sum_least = chain_least (g.product edition u) w.sum_op 3 sum_fits product_least

    compared_least : (left : ExprTree) (right : Option (BinaryOp × ExprTree)) (ts : List Token) → SpellsMaybe (g.operand (w.operator w.comparison_op) (g.sum edition u)) right ts → length (expr_words (g.comparison_of left right) 2) ≤ length (expr_words left 3) + length ts
    compared_least left None ts h = omega (arith, looser left 2 3 (omega arith))
    compared_least left (Some x) ts h = joined_least (g.sum edition u) w.comparison_op 2 3 comparison_fits sum_least left x ts h

    comparison_least : Least (g.comparison edition u) (λ a. length (expr_words a 2))
    comparison_least a ts h =
        let (left, f1, b1, e1, k1, r1) = h in
        let (right, f2, b2, e2, k2, r2) = r1 in
        subst (λ a. length (expr_words a 2) ≤ length ts) (sym r2.0)
        (omega (arith, sum_least left f1 k1, compared_least left right f2 k2, length-append {A = Token}, ap length e1, ap length e2))

    conjunction_least : Least (g.conjunction edition u) (λ a. length (expr_words a 1))
    conjunction_least = chain_least (g.comparison edition u) w.and_op 1 and_fits comparison_least

    pub expr_least : Least (g.expr edition u) (λ a. length (whole_words a))
    expr_least = chain_least (g.conjunction edition u) w.or_op 0 or_fits conjunction_least

    pub arguments_least : Least (g.arguments edition u) (λ xs. 2 + length (c.listed_words whole_words xs))
    arguments_least = parens_least (g.expr edition u) whole_words expr_least

    pub bracketed_least : Least (g.bracketed_expr edition u) (λ a. 2 + length (whole_words a))
    bracketed_least a ts h =
        let (x1, f1, b1, e1, k1, r1) = h in
        let (x2, f2, b2, e2, k2, r2) = r1 in
        let (x3, f3, b3, e3, k3, r3) = r2 in
        subst (λ a. 2 + length (whole_words a) ≤ length ts) (sym r3.0)
        (omega (arith, closed, length-append {A = Word}, length-append {A = Token}, ap length e1, ap length k1.1, ap length e2, expr_least x2 f2 k2, ap length e3, ap length k3.1, ap length r3.1))

    parenthesized_least : Least (g.parenthesized_expr edition u) (λ a. length (expr_words a 5))
    parenthesized_least a ts h =
        let (x1, f1, b1, e1, k1, r1) = h in
        let (x2, f2, b2, e2, k2, r2) = r1 in
        let (x3, f3, b3, e3, k3, r3) = r2 in
        subst (λ a. length (expr_words a 5) ≤ length ts) (sym r3.0)
        (omega (arith, closed, length-append {A = Word}, length-append {A = Token}, ap length e1, ap length k1.1, ap length e2, expr_least x2 f2 k2, ap length e3, ap length k3.1, ap length r3.1, loosened x2))

    read_least : Least (g.read edition u) (λ a. length (expr_words a 5))
    read_least a ts h =
        let (x1, f1, b1, e1, k1, r1) = h in
        subst (λ a. length (expr_words a 5) ≤ length ts) (sym r1.0)
        (omega (arith, closed, length-append {A = Word}, length-append {A = Token}, ap length e1, ap length k1.1, ap length r1.1))

    above_least : Least (g.above edition u) (λ a. length (expr_words a 5))
    above_least a ts h =
        let (x1, f1, b1, e1, k1, r1) = h in
        let (x2, f2, b2, e2, k2, r2) = r1 in
        subst (λ a. length (expr_words a 5) ≤ length ts) (sym r2.0)
        (omega (arith, closed, length-append {A = Word}, length-append {A = Token}, ap length e1, ap length k1.1, ap length e2, field_least x2 f2 k2, ap length r2.1))

    call_least : Least (g.call edition u) (λ a. length (expr_words a 5))
    call_least a ts h =
        let (x1, f1, b1, e1, k1, r1) = h in
        let (x2, f2, b2, e2, k2, r2) = r1 in
        subst (λ a. length (expr_words a 5) ≤ length ts) (sym r2.0)
        (omega (arith, closed, length-append {A = Word}, length-append {A = Token}, ap length e1, ap length k1.1, ap length e2, arguments_least x2 f2 k2, ap length r2.1, ap length (args_same x2)))

    index_least : Least (g.index edition u) (λ a. length (expr_words a 5))
    index_least a ts h =
        let (x1, f1, b1, e1, k1, r1) = h in
        let (x2, f2, b2, e2, k2, r2) = r1 in
        subst (λ a. length (expr_words a 5) ≤ length ts) (sym r2.0)
        (omega (arith, closed, length-append {A = Word}, length-append {A = Token}, ap length e1, ap length k1.1, ap length e2, bracketed_least x2 f2 k2, ap length r2.1))

    above_index_least : Least (g.above_index edition u) (λ a. length (expr_words a 5))
    above_index_least a ts h =
        let (x1, f1, b1, e1, k1, r1) = h in
        let (x2, f2, b2, e2, k2, r2) = r1 in
        let (x3, f3, b3, e3, k3, r3) = r2 in
        subst (λ a. length (expr_words a 5) ≤ length ts) (sym r3.0)
        (omega (arith, closed, length-append {A = Word}, length-append {A = Token}, ap length e1, ap length k1.1, ap length e2, field_least x2 f2 k2, ap length e3, bracketed_least x3 f3 k3, ap length r3.1))

    child_call_least : Least (g.child_call edition u) (λ a. length (expr_words a 5))
    child_call_least a ts h =
        let (x1, f1, b1, e1, k1, r1) = h in
        let (x2, f2, b2, e2, k2, r2) = r1 in
        let (x3, f3, b3, e3, k3, r3) = r2 in
        let (x4, f4, b4, e4, k4, r4) = r3 in
        subst (λ a. length (expr_words a 5) ≤ length ts) (sym r4.0)
        (omega (arith, closed, length-append {A = Word}, length-append {A = Token}, ap length e1, ap length k1.1, ap length e2, bracketed_least x2 f2 k2, ap length e3, field_least x3 f3 k3, ap length e4, arguments_least x4 f4 k4, ap length r4.1, ap length (args_same x4)))

    signed_least : Least (g.signed_expr edition u) (λ a. length (expr_words a 5))
    signed_least a ts h =
        let (x1, f1, b1, e1, k1, r1) = h in
        let (x2, f2, b2, e2, k2, r2) = r1 in
        subst (λ a. length (expr_words a 5) ≤ length ts) (sym r2.0)
        (omega (arith, closed, length-append {A = Word}, length-append {A = Token}, ap length e1, ap length k1.1, ap length e2, least x2 f2 k2, ap length r2.1))

    unary_or_primary : Least (g.signed_or_primary edition u) (λ a. length (expr_words a 5))
    unary_or_primary a ts (inl h) = signed_least a ts h
    unary_or_primary a ts (inr (inl h)) = literal_least a ts h
    unary_or_primary a ts (inr (inr (inl h))) = parenthesized_least a ts h
    unary_or_primary a ts (inr (inr (inr (inl h)))) = read_least a ts h
    unary_or_primary a ts (inr (inr (inr (inr (inl h))))) = above_least a ts h
    unary_or_primary a ts (inr (inr (inr (inr (inr (inl h)))))) = call_least a ts h
    unary_or_primary a ts (inr (inr (inr (inr (inr (inr (inl h))))))) = index_least a ts h
    unary_or_primary a ts (inr (inr (inr (inr (inr (inr (inr (inl h)))))))) = above_index_least a ts h
    unary_or_primary a ts (inr (inr (inr (inr (inr (inr (inr (inr h)))))))) = child_call_least a ts h

  nested_least : (n : ℕ) → Least (nested_part (g.signed_or_primary edition) n) (λ a. length (expr_words a 5))
  nested_least zero a ts h = absurd h
  nested_least (suc n) a ts h = unary_or_primary (nested_part (g.signed_or_primary edition) n) (nested_least n) a ts h

  unary_least : Least (g.unary edition) (λ a. length (expr_words a 5))
  unary_least a ts h = nested_least h.0 a ts h.1

  pub any_expr_least : Least (g.any_expr edition) (λ a. length (whole_words a))
  unfolding g.any_expr
  any_expr_least = expr_least (g.unary edition) unary_least

  pub any_arguments_least : Least (g.any_arguments edition) (λ xs. 2 + length (c.listed_words whole_words xs))
  unfolding g.any_arguments
  any_arguments_least = arguments_least (g.unary edition) unary_least

  pub any_key_least : Least (g.any_key edition) (λ a. 2 + length (whole_words a))
  unfolding g.any_key
  any_key_least = bracketed_least (g.unary edition) unary_least

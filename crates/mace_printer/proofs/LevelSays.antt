-- The canonical words of an operator with its operands spell it, at each level.
use Rattle.std.proofs.Common.{◌≡◌, ℕ, ◌+◌, List, [], ◌∷◌, ◌++◌, map, true, Option, Some, None, refl, sym, ap, subst, ◌∙◌, append_assoc, append-nil}
use Rattle.std.proofs.lemmas.List.{map-append}
use Rattle.std.proofs.lemmas.List.Sums.{fold-append}
use Rattle.wave_base.specs.declared.span.Span.{Span}
use Rattle.mace_lexer.specs.declared.token.Token.{Token}
use Rattle.mace_lexer.specs.declared.token.Word.{Word}
use Rattle.mace_lexer.specs.declared.token.Word.TheVariants as word
use Rattle.mace_lexer.specs.declared.sign.Sign.{Sign}
use Rattle.mace_ast.specs.declared.expr.BinaryOp.{BinaryOp}
use Rattle.mace_ast.specs.declared.expr.BinaryOp.TheVariants as op
use Rattle.mace_ast.specs.Exprs as e
use Rattle.mace_ast.specs.Exprs.{ExprTree, bare_expr, place_of, nowhere}
use Rattle.mace_grammar.specs.Part.{Part, SpellsAll}
use Rattle.mace_grammar.specs.Words as w
use Rattle.mace_grammar.specs.Words.{Edition}
use Rattle.mace_grammar.specs.Grammar as g
use Rattle.mace_grammar.specs.Spelled.{plain_token}
use Rattle.mace_printer.specs.Canon.{expr_words, in_parens, level_of, left_level_of, sign_of}
use Rattle.mace_printer.proofs.Says.{Says}

module _ (edition : Edition) where
  place_bare : (t : ExprTree) → place_of (bare_expr t) ≡ nowhere
  place_bare (e.Number at n) = refl
  place_bare (e.Text at b) = refl
  place_bare (e.Boolean at b) = refl
  place_bare (e.Empty at) = refl
  place_bare (e.Read at x) = refl
  place_bare (e.Above at c x) = refl
  place_bare (e.Index at x p) = refl
  place_bare (e.AboveIndex at c x p) = refl
  place_bare (e.Call at f a) = refl
  place_bare (e.ChildCall at c p f a) = refl
  place_bare (e.Unary at o x) = refl
  place_bare (e.Binary at o a b) = refl

  -- ---- chains

  chain_one : (item : Part ExprTree) (o : Part BinaryOp) (t : ExprTree) (ws : List Word) → Says item t ws → Says (g.chain item o) t ws
  chain_one item o t ws h = (t, map plain_token ws, [], sym (append-nil (map plain_token ws)), h, ([], [], [], refl, refl, (refl, refl)))

  all_more : {A : Type 0} (p : Part A) (items : List A) (a : A) (x y : List Token) → SpellsAll p items x → p.Spells a y → SpellsAll p (items ++ a ∷ []) (x ++ y)
  all_more p [] a x y h k = (y, [], rw h (sym (append-nil y)), k, refl)
  all_more p (b ∷ items) a x y h k =
      let (u, v, e, su, sv) = h in
      (u, v ++ y, rw e (append_assoc u v y), su, all_more p items a v y sv k)

  -- one more operand
  chain_more : (item : Part ExprTree) (o : Part BinaryOp) (l : ExprTree) (k : BinaryOp) (r : ExprTree) (x y z : List Token) → (g.chain item o).Spells l x → o.Spells k y → item.Spells r z → (g.chain item o).Spells (e.Binary (place_of l) k l r) (x ++ (y ++ z))
  chain_more item o l k r x y z h ho hr =
      let (first, u, v, q, su, hv) = h in
      let (others, v1, v2, q1, sv, hp) = hv in
      let same : v ≡ v1 = q1 ∙ ap (λ w. v1 ++ w) hp.1 ∙ append-nil v1 in (
        first,
        u,
        v1 ++ (y ++ z),
        ap (λ w. w ++ (y ++ z)) (q ∙ ap (λ w. u ++ w) same) ∙ append_assoc u v1 (y ++ z),
        su,
        (
          others ++ (k, r) ∷ [],
          v1 ++ (y ++ z),
          [],
          sym (append-nil (v1 ++ (y ++ z))),
          all_more (g.operand o item) others (k, r) v1 (y ++ z) sv (k, y, z, refl, ho, (r, z, [], sym (append-nil z), hr, (refl, refl))),
          (ap (λ w. e.Binary (place_of w) k w r) hp.0 ∙ sym (fold-append g.binary_of first others ((k, r) ∷ [])), refl),
        ),
      )

  operator_says : (f : Sign → Option BinaryOp) (o : BinaryOp) → f (sign_of o) ≡ Some o → Says (w.operator f) o (word.Sign (sign_of o) ∷ [])
  operator_says f o fits = (plain_token (word.Sign (sign_of o)), refl, fits)

  -- the words of a node without parentheses around it
  abbrev pub own_words : BinaryOp → ExprTree → ExprTree → List Word
  own_words o a b = expr_words a (left_level_of o) ++ (word.Sign (sign_of o) ∷ expr_words b (level_of o + 1))

  abbrev pub joined : BinaryOp → ExprTree → ExprTree → ExprTree
  joined o a b = e.Binary nowhere o (bare_expr a) (bare_expr b)

  more : (item : Part ExprTree) (f : Sign → Option BinaryOp) (o : BinaryOp) (a b : ExprTree) → f (sign_of o) ≡ Some o → Says (g.chain item (w.operator f)) (bare_expr a) (expr_words a (left_level_of o)) → Says item (bare_expr b) (expr_words b (level_of o + 1)) → Says (g.chain item (w.operator f)) (joined o a b) (own_words o a b)
  more item f o a b fits ha hb =
      let x = map plain_token (expr_words a (left_level_of o)) in
      let z = map plain_token (expr_words b (level_of o + 1)) in
      subst (λ ts. (g.chain item (w.operator f)).Spells (joined o a b) ts) (sym (map-append plain_token (expr_words a (left_level_of o)) (word.Sign (sign_of o) ∷ expr_words b (level_of o + 1))))
      (subst (λ at. (g.chain item (w.operator f)).Spells (e.Binary at o (bare_expr a) (bare_expr b)) (x ++ (plain_token (word.Sign (sign_of o)) ∷ z))) (place_bare a)
      (chain_more item (w.operator f) (bare_expr a) o (bare_expr b) x (plain_token (word.Sign (sign_of o)) ∷ []) z ha (operator_says f o fits) hb))

  compare : (u : Part ExprTree) (o : BinaryOp) (a b : ExprTree) → w.comparison_op (sign_of o) ≡ Some o → Says (g.sum edition u) (bare_expr a) (expr_words a (left_level_of o)) → Says (g.sum edition u) (bare_expr b) (expr_words b (level_of o + 1)) → Says (g.comparison edition u) (joined o a b) (own_words o a b)
  compare u o a b fits ha hb =
      let z = map plain_token (expr_words b (level_of o + 1)) in (
        bare_expr a,
        map plain_token (expr_words a (left_level_of o)),
        _,
        map-append plain_token (expr_words a (left_level_of o)) (word.Sign (sign_of o) ∷ expr_words b (level_of o + 1)),
        ha,
        (
          Some (o, bare_expr b),
          plain_token (word.Sign (sign_of o)) ∷ z,
          [],
          sym (append-nil (plain_token (word.Sign (sign_of o)) ∷ z)),
          (o, plain_token (word.Sign (sign_of o)) ∷ [], z, refl, operator_says w.comparison_op o fits, (bare_expr b, z, [], sym (append-nil z), hb, (refl, refl))),
          (ap (λ at. e.Binary at o (bare_expr a) (bare_expr b)) (sym (place_bare a)), refl),
        ),
      )

  one_sum : (u : Part ExprTree) (t : ExprTree) (ws : List Word) → Says (g.sum edition u) t ws → Says (g.comparison edition u) t ws
  one_sum u t ws h = (t, map plain_token ws, [], sym (append-nil (map plain_token ws)), h, (None, [], [], refl, refl, (refl, refl)))

  -- ---- the levels

  pub record Levels (u : Part ExprTree) (t : ExprTree) : Type 0 where
    pub expr : Says (g.expr edition u) (bare_expr t) (expr_words t 0)
    pub conjunction : Says (g.conjunction edition u) (bare_expr t) (expr_words t 1)
    pub comparison : Says (g.comparison edition u) (bare_expr t) (expr_words t 2)
    pub sum : Says (g.sum edition u) (bare_expr t) (expr_words t 3)
    pub product : Says (g.product edition u) (bare_expr t) (expr_words t 4)
    pub unary : Says u (bare_expr t) (expr_words t 5)

  module _ (u : Part ExprTree) (t : ExprTree) (ws : List Word) where
    up_product : Says u t ws → Says (g.product edition u) t ws
    up_product h = chain_one u (w.operator w.product_op) t ws h

    up_sum : Says (g.product edition u) t ws → Says (g.sum edition u) t ws
    up_sum h = chain_one (g.product edition u) (w.operator w.sum_op) t ws h

    up_conjunction : Says (g.comparison edition u) t ws → Says (g.conjunction edition u) t ws
    up_conjunction h = chain_one (g.comparison edition u) (w.operator w.and_op) t ws h

    up_expr : Says (g.conjunction edition u) t ws → Says (g.expr edition u) t ws
    up_expr h = chain_one (g.conjunction edition u) (w.operator w.or_op) t ws h

  -- what is no binary node has the same words at each level
  module _ (u : Part ExprTree) (t : ExprTree) (ws : List Word) (h : Says u (bare_expr t) ws) where
    of_sum : Says (g.sum edition u) (bare_expr t) ws
    of_sum = up_sum u (bare_expr t) ws (up_product u (bare_expr t) ws h)

    of_comparison : Says (g.comparison edition u) (bare_expr t) ws
    of_comparison = one_sum u (bare_expr t) ws of_sum

    of_conjunction : Says (g.conjunction edition u) (bare_expr t) ws
    of_conjunction = up_conjunction u (bare_expr t) ws of_comparison

    of_expr : Says (g.expr edition u) (bare_expr t) ws
    of_expr = up_expr u (bare_expr t) ws of_conjunction

    pub atom : ((l : ℕ) → expr_words t l ≡ ws) → Levels u t
    atom same = record {
      expr = rw (same 0) of_expr;
      conjunction = rw (same 1) of_conjunction;
      comparison = rw (same 2) of_comparison;
      sum = rw (same 3) of_sum;
      product = rw (same 4) (up_product u (bare_expr t) ws h);
      unary = rw (same 5) h;
    }

  abbrev pub level_part : Part ExprTree → BinaryOp → Part ExprTree
  level_part u op.Or = (g.expr edition) u
  level_part u op.And = (g.conjunction edition) u
  level_part u op.Eq = (g.comparison edition) u
  level_part u op.Ne = (g.comparison edition) u
  level_part u op.Lt = (g.comparison edition) u
  level_part u op.Le = (g.comparison edition) u
  level_part u op.Gt = (g.comparison edition) u
  level_part u op.Ge = (g.comparison edition) u
  level_part u op.Add = (g.sum edition) u
  level_part u op.Sub = (g.sum edition) u
  level_part u op.Mul = (g.product edition) u
  level_part u op.Div = (g.product edition) u
  level_part u op.Rem = (g.product edition) u

  pub own : (u : Part ExprTree) (o : BinaryOp) (a b : ExprTree) → Levels u a → Levels u b → Says (level_part u o) (joined o a b) (own_words o a b)
  own u op.Or a b A B = more (g.conjunction edition u) w.or_op op.Or a b refl A.expr B.conjunction
  own u op.And a b A B = more (g.comparison edition u) w.and_op op.And a b refl A.conjunction B.comparison
  own u op.Eq a b A B = compare u op.Eq a b refl A.sum B.sum
  own u op.Ne a b A B = compare u op.Ne a b refl A.sum B.sum
  own u op.Lt a b A B = compare u op.Lt a b refl A.sum B.sum
  own u op.Le a b A B = compare u op.Le a b refl A.sum B.sum
  own u op.Gt a b A B = compare u op.Gt a b refl A.sum B.sum
  own u op.Ge a b A B = compare u op.Ge a b refl A.sum B.sum
  own u op.Add a b A B = more (g.product edition u) w.sum_op op.Add a b refl A.sum B.product
  own u op.Sub a b A B = more (g.product edition u) w.sum_op op.Sub a b refl A.sum B.product
  own u op.Mul a b A B = more u w.product_op op.Mul a b refl A.product B.unary
  own u op.Div a b A B = more u w.product_op op.Div a b refl A.product B.unary
  own u op.Rem a b A B = more u w.product_op op.Rem a b refl A.product B.unary

  module _ (u : Part ExprTree) (t : ExprTree) (ws : List Word) where
    from_conjunction : Says (g.conjunction edition u) t ws → Says (g.expr edition u) t ws
    from_conjunction h = up_expr u t ws h

    from_comparison : Says (g.comparison edition u) t ws → Says (g.expr edition u) t ws
    from_comparison h = from_conjunction (up_conjunction u t ws h)

    from_sum : Says (g.sum edition u) t ws → Says (g.expr edition u) t ws
    from_sum h = from_comparison (one_sum u t ws h)

    from_product : Says (g.product edition u) t ws → Says (g.expr edition u) t ws
    from_product h = from_sum (up_sum u t ws h)

  pub as_expr : (u : Part ExprTree) (o : BinaryOp) (t : ExprTree) (ws : List Word) → Says (level_part u o) t ws → Says (g.expr edition u) t ws
  as_expr u op.Or t ws h = h
  as_expr u op.And t ws h = from_conjunction u t ws h
  as_expr u op.Eq t ws h = from_comparison u t ws h
  as_expr u op.Ne t ws h = from_comparison u t ws h
  as_expr u op.Lt t ws h = from_comparison u t ws h
  as_expr u op.Le t ws h = from_comparison u t ws h
  as_expr u op.Gt t ws h = from_comparison u t ws h
  as_expr u op.Ge t ws h = from_comparison u t ws h
  as_expr u op.Add t ws h = from_sum u t ws h
  as_expr u op.Sub t ws h = from_sum u t ws h
  as_expr u op.Mul t ws h = from_product u t ws h
  as_expr u op.Div t ws h = from_product u t ws h
  as_expr u op.Rem t ws h = from_product u t ws h

  -- a binary node: at and above its own level as it is, below in parentheses
  module _ (u : Part ExprTree) (t : ExprTree) (ws pw : List Word) (p : Says u (bare_expr t) pw) where
    at_or : (expr_words t 0 ≡ ws) → (expr_words t 1 ≡ pw) → (expr_words t 2 ≡ pw) → (expr_words t 3 ≡ pw) → (expr_words t 4 ≡ pw) → (expr_words t 5 ≡ pw) → Says (g.expr edition u) (bare_expr t) ws → Levels u t
    at_or e0 e1 e2 e3 e4 e5 h = record {
      expr = rw e0 h;
      conjunction = rw e1 (of_conjunction u t pw p);
      comparison = rw e2 (of_comparison u t pw p);
      sum = rw e3 (of_sum u t pw p);
      product = rw e4 (up_product u (bare_expr t) pw p);
      unary = rw e5 p;
    }

    at_and : (expr_words t 0 ≡ ws) → (expr_words t 1 ≡ ws) → (expr_words t 2 ≡ pw) → (expr_words t 3 ≡ pw) → (expr_words t 4 ≡ pw) → (expr_words t 5 ≡ pw) → Says (g.conjunction edition u) (bare_expr t) ws → Levels u t
    at_and e0 e1 e2 e3 e4 e5 h = record {
      expr = rw e0 (from_conjunction u (bare_expr t) ws h);
      conjunction = rw e1 h;
      comparison = rw e2 (of_comparison u t pw p);
      sum = rw e3 (of_sum u t pw p);
      product = rw e4 (up_product u (bare_expr t) pw p);
      unary = rw e5 p;
    }

    at_comparison : (expr_words t 0 ≡ ws) → (expr_words t 1 ≡ ws) → (expr_words t 2 ≡ ws) → (expr_words t 3 ≡ pw) → (expr_words t 4 ≡ pw) → (expr_words t 5 ≡ pw) → Says (g.comparison edition u) (bare_expr t) ws → Levels u t
    at_comparison e0 e1 e2 e3 e4 e5 h = record {
      expr = rw e0 (from_comparison u (bare_expr t) ws h);
      conjunction = rw e1 (up_conjunction u (bare_expr t) ws h);
      comparison = rw e2 h;
      sum = rw e3 (of_sum u t pw p);
      product = rw e4 (up_product u (bare_expr t) pw p);
      unary = rw e5 p;
    }

    at_sum : (expr_words t 0 ≡ ws) → (expr_words t 1 ≡ ws) → (expr_words t 2 ≡ ws) → (expr_words t 3 ≡ ws) → (expr_words t 4 ≡ pw) → (expr_words t 5 ≡ pw) → Says (g.sum edition u) (bare_expr t) ws → Levels u t
    at_sum e0 e1 e2 e3 e4 e5 h = record {
      expr = rw e0 (from_sum u (bare_expr t) ws h);
      conjunction = rw e1 (up_conjunction u (bare_expr t) ws (one_sum u (bare_expr t) ws h));
      comparison = rw e2 (one_sum u (bare_expr t) ws h);
      sum = rw e3 h;
      product = rw e4 (up_product u (bare_expr t) pw p);
      unary = rw e5 p;
    }

    at_product : (expr_words t 0 ≡ ws) → (expr_words t 1 ≡ ws) → (expr_words t 2 ≡ ws) → (expr_words t 3 ≡ ws) → (expr_words t 4 ≡ ws) → (expr_words t 5 ≡ pw) → Says (g.product edition u) (bare_expr t) ws → Levels u t
    at_product e0 e1 e2 e3 e4 e5 h = record {
      expr = rw e0 (from_product u (bare_expr t) ws h);
      conjunction = rw e1 (up_conjunction u (bare_expr t) ws (one_sum u (bare_expr t) ws (up_sum u (bare_expr t) ws h)));
      comparison = rw e2 (one_sum u (bare_expr t) ws (up_sum u (bare_expr t) ws h));
      sum = rw e3 (up_sum u (bare_expr t) ws h);
      product = rw e4 h;
      unary = rw e5 p;
    }

  abbrev pub paren_words : BinaryOp → ExprTree → ExprTree → List Word
  paren_words o a b = in_parens true (own_words o a b)

  pub binary : (u : Part ExprTree) (at : Span) (o : BinaryOp) (a b : ExprTree) → Levels u a → Levels u b → Says u (joined o a b) (paren_words o a b) → Levels u (e.Binary at o a b)
  binary u at op.Or a b A B p = at_or u (e.Binary at op.Or a b) (own_words op.Or a b) (paren_words op.Or a b) p refl refl refl refl refl refl (own u op.Or a b A B)
  binary u at op.And a b A B p = at_and u (e.Binary at op.And a b) (own_words op.And a b) (paren_words op.And a b) p refl refl refl refl refl refl (own u op.And a b A B)
  binary u at op.Eq a b A B p = at_comparison u (e.Binary at op.Eq a b) (own_words op.Eq a b) (paren_words op.Eq a b) p refl refl refl refl refl refl (own u op.Eq a b A B)
  binary u at op.Ne a b A B p = at_comparison u (e.Binary at op.Ne a b) (own_words op.Ne a b) (paren_words op.Ne a b) p refl refl refl refl refl refl (own u op.Ne a b A B)
  binary u at op.Lt a b A B p = at_comparison u (e.Binary at op.Lt a b) (own_words op.Lt a b) (paren_words op.Lt a b) p refl refl refl refl refl refl (own u op.Lt a b A B)
  binary u at op.Le a b A B p = at_comparison u (e.Binary at op.Le a b) (own_words op.Le a b) (paren_words op.Le a b) p refl refl refl refl refl refl (own u op.Le a b A B)
  binary u at op.Gt a b A B p = at_comparison u (e.Binary at op.Gt a b) (own_words op.Gt a b) (paren_words op.Gt a b) p refl refl refl refl refl refl (own u op.Gt a b A B)
  binary u at op.Ge a b A B p = at_comparison u (e.Binary at op.Ge a b) (own_words op.Ge a b) (paren_words op.Ge a b) p refl refl refl refl refl refl (own u op.Ge a b A B)
  binary u at op.Add a b A B p = at_sum u (e.Binary at op.Add a b) (own_words op.Add a b) (paren_words op.Add a b) p refl refl refl refl refl refl (own u op.Add a b A B)
  binary u at op.Sub a b A B p = at_sum u (e.Binary at op.Sub a b) (own_words op.Sub a b) (paren_words op.Sub a b) p refl refl refl refl refl refl (own u op.Sub a b A B)
  binary u at op.Mul a b A B p = at_product u (e.Binary at op.Mul a b) (own_words op.Mul a b) (paren_words op.Mul a b) p refl refl refl refl refl refl (own u op.Mul a b A B)
  binary u at op.Div a b A B p = at_product u (e.Binary at op.Div a b) (own_words op.Div a b) (paren_words op.Div a b) p refl refl refl refl refl refl (own u op.Div a b A B)
  binary u at op.Rem a b A B p = at_product u (e.Binary at op.Rem a b) (own_words op.Rem a b) (paren_words op.Rem a b) p refl refl refl refl refl refl (own u op.Rem a b A B)

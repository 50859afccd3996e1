-- The canonical words of an expression spell it.
use Rattle.std.proofs.Common.{◌≡◌, ℕ, zero, suc, ◌+◌, ◌≤◌, inl, inr, List, [], ◌∷◌, ◌++◌, map, Bool, true, false, nat_lt, Some, None, refl, sym, ap, subst, arith, ◌∙◌, append_assoc, append-nil}
use Rattle.std.proofs.lemmas.List.{map-append}
use Rattle.wave_base.specs.declared.span.Span.{Span}
use Rattle.mace_lexer.specs.declared.token.Word.{Word}
use Rattle.mace_lexer.specs.declared.token.Word.TheVariants as word
use Rattle.mace_lexer.specs.declared.sign.Sign.{Sign}
use Rattle.mace_lexer.specs.declared.sign.Sign.TheVariants as s
use Rattle.mace_ast.specs.declared.expr.UnaryOp.{UnaryOp}
use Rattle.mace_ast.specs.declared.expr.UnaryOp.TheVariants as unary
use Rattle.mace_ast.specs.declared.expr.BinaryOp.{BinaryOp}
use Rattle.mace_ast.specs.declared.expr.BinaryOp.TheVariants as op
use Rattle.mace_ast.specs.Exprs as e
use Rattle.mace_ast.specs.Exprs.{ExprTree, ExprTrees, no_exprs, expr_and, exprs_of, bare_expr, bare_exprs, nowhere}
use Rattle.mace_grammar.specs.Part.{Part, ◌>>◌, many, nested_part}
use Rattle.mace_grammar.specs.Words as w
use Rattle.mace_grammar.specs.Words.{Edition}
use Rattle.mace_grammar.specs.Fits.{IsName, Each, ExprFits, ExprsFit}
use Rattle.mace_grammar.specs.Grammar as g
use Rattle.mace_grammar.specs.Spelled.{plain_token}
use Rattle.mace_printer.specs.Canon.{expr_words, args_words, more_words, in_parens, level_of, left_level_of, sign_of, unary_sign_of, boolean_key, whole_words, index_words, listed_words}
use Rattle.mace_printer.proofs.Says.{Says, sign_says, named, name_says, field_says, parens_say}
use Rattle.mace_printer.proofs.LevelSays

module _ (edition : Edition) where
  -- the words of a node without parentheses around it
  abbrev own_words : BinaryOp → ExprTree → ExprTree → List Word
  own_words o a b = expr_words a (left_level_of o) ++ (word.Sign (sign_of o) ∷ expr_words b (level_of o + 1))

  abbrev joined : BinaryOp → ExprTree → ExprTree → ExprTree
  joined o a b = e.Binary nowhere o (bare_expr a) (bare_expr b)

  abbrev Levels : (u : Part ExprTree) (t : ExprTree) → Type 0
  Levels = LevelSays.Levels edition

  abbrev paren_words : BinaryOp → ExprTree → ExprTree → List Word
  paren_words o a b = in_parens true (own_words o a b)

  -- ---- nodes that are no binary ones

  abbrev list_of : ExprTrees → List ExprTree
  list_of no_exprs = []
  list_of (expr_and t ts) = t ∷ list_of ts

  list_back : (ts : ExprTrees) → exprs_of (list_of ts) ≡ ts
  list_back no_exprs = refl
  list_back (expr_and t ts) = ap (λ l. expr_and t l) (list_back ts)

  module _ (u : Part ExprTree) where
    pub index_says : (t : ExprTree) → Says (g.expr edition u) (bare_expr t) (expr_words t 0) → Says (g.bracketed_expr edition u) (bare_expr t) (index_words t)
    index_says t h = (nowhere, plain_token (word.Sign s.LeftBracket) ∷ [], _, refl, sign_says s.LeftBracket, (bare_expr t, map plain_token (expr_words t 0), _, map-append plain_token (expr_words t 0) (word.Sign s.RightBracket ∷ []), h, (nowhere, plain_token (word.Sign s.RightBracket) ∷ [], [], refl, sign_says s.RightBracket, (refl, refl))))

    parenthesized_says : (t : ExprTree) (ws : List Word) → Says (g.expr edition u) t ws → Says (g.parenthesized_expr edition u) t (in_parens true ws)
    parenthesized_says t ws h = (nowhere, plain_token (word.Sign s.LeftParen) ∷ [], _, refl, sign_says s.LeftParen, (t, map plain_token ws, _, map-append plain_token ws (word.Sign s.RightParen ∷ []), h, (nowhere, plain_token (word.Sign s.RightParen) ∷ [], [], refl, sign_says s.RightParen, (refl, refl))))

    abbrev more_say : ExprTrees → Type 0
    more_say ts = Says (many (w.sign s.Comma >> (g.expr edition) u)) (list_of (bare_exprs ts)) (more_words ts)

    abbrev all_say : ExprTrees → Type 0
    all_say no_exprs = Unit {0}
    all_say (expr_and t ts) = Says (g.expr edition u) (bare_expr t) (expr_words t 0) × all_say ts

    further_say : (ts : ExprTrees) → all_say ts → more_say ts
    further_say no_exprs h = refl
    further_say (expr_and t ts) h = (
      plain_token (word.Sign s.Comma) ∷ map plain_token (expr_words t 0),
      _,
      ap (λ l. plain_token (word.Sign s.Comma) ∷ l) (map-append plain_token (expr_words t 0) (more_words ts)),
      (nowhere, plain_token (word.Sign s.Comma) ∷ [], _, refl, sign_says s.Comma, h.0),
      further_say ts h.1,
    )

    arguments_say : (ts : ExprTrees) → all_say ts → Says (g.arguments edition u) (list_of (bare_exprs ts)) (word.Sign s.LeftParen ∷ (args_words ts ++ word.Sign s.RightParen ∷ []))
    arguments_say no_exprs h = (nowhere, plain_token (word.Sign s.LeftParen) ∷ [], _, refl, sign_says s.LeftParen, (None, [], _, refl, refl, (nowhere, plain_token (word.Sign s.RightParen) ∷ [], [], refl, sign_says s.RightParen, (refl, refl))))
    arguments_say (expr_and t ts) h = (
      nowhere,
      plain_token (word.Sign s.LeftParen) ∷ [],
      _,
      refl,
      sign_says s.LeftParen,
      (
        Some (bare_expr t ∷ list_of (bare_exprs ts)),
        map plain_token (args_words (expr_and t ts)),
        _,
        map-append plain_token (args_words (expr_and t ts)) (word.Sign s.RightParen ∷ []),
        (bare_expr t, map plain_token (expr_words t 0), _, map-append plain_token (expr_words t 0) (more_words ts), h.0, (list_of (bare_exprs ts), map plain_token (more_words ts), [], sym (append-nil (map plain_token (more_words ts))), further_say ts h.1, (refl, refl))),
        (nowhere, plain_token (word.Sign s.RightParen) ∷ [], [], refl, sign_says s.RightParen, (refl, refl)),
      ),
    )

  -- ---- each node, where its parts are read one step less deep

  abbrev mutual
    nodes : ExprTree → ℕ
    nodes (e.Number at n) = 0
    nodes (e.Text at b) = 0
    nodes (e.Boolean at b) = 0
    nodes (e.Empty at) = 0
    nodes (e.Read at x) = 0
    nodes (e.Above at c x) = 0
    nodes (e.Index at x p) = suc (nodes p)
    nodes (e.AboveIndex at c x p) = suc (nodes p)
    nodes (e.Call at f a) = suc (all_nodes a)
    nodes (e.ChildCall at c p f a) = suc (nodes p + all_nodes a)
    nodes (e.Unary at o x) = suc (nodes x)
    nodes (e.Binary at o a b) = suc (nodes a + nodes b)

    all_nodes : ExprTrees → ℕ
    all_nodes no_exprs = 0
    all_nodes (expr_and t ts) = nodes t + all_nodes ts

  boolean_word : (b : Bool) → w.literal_of_key nowhere (boolean_key b) ≡ Some (e.Boolean nowhere b)
  boolean_word true = refl
  boolean_word false = refl

  unary_fits : (o : UnaryOp) → w.unary_word nowhere (word.Sign (unary_sign_of o)) ≡ Some (nowhere, o)
  unary_fits unary.Neg = refl
  unary_fits unary.Not = refl

  index_split : (p : ExprTree) (rest : List Word) → map plain_token (word.Sign s.LeftBracket ∷ (expr_words p 0 ++ word.Sign s.RightBracket ∷ rest)) ≡ map plain_token (index_words p) ++ map plain_token rest
  index_split p rest =
      let E = expr_words p 0 in
      ap (λ l. plain_token (word.Sign s.LeftBracket) ∷ l)
      (map-append plain_token E (word.Sign s.RightBracket ∷ rest)
      ∙ sym (append_assoc (map plain_token E) (plain_token (word.Sign s.RightBracket) ∷ []) (map plain_token rest))
      ∙ ap (λ l. l ++ map plain_token rest) (sym (map-append plain_token E (word.Sign s.RightBracket ∷ []))))

  module _ (v : Part ExprTree) where
    number_node : (at : Span) (n : _) → Says (g.signed_or_primary edition v) (bare_expr (e.Number at n)) (expr_words (e.Number at n) 5)
    number_node at n = inr (inl (plain_token (word.Number n), refl, refl))

    text_node : (at : Span) (t : List ℕ) → Says (g.signed_or_primary edition v) (bare_expr (e.Text at t)) (expr_words (e.Text at t) 5)
    text_node at t = inr (inl (plain_token (word.Text t), refl, refl))

    boolean_node : (at : Span) (b : Bool) → Says (g.signed_or_primary edition v) (bare_expr (e.Boolean at b)) (expr_words (e.Boolean at b) 5)
    boolean_node at b = inr (inl (plain_token (word.Key (boolean_key b)), refl, boolean_word b))

    empty_node : (at : Span) → Says (g.signed_or_primary edition v) (bare_expr (e.Empty at)) (expr_words (e.Empty at) 5)
    empty_node at = inr (inl (_, refl, refl))

    read_node : (at : Span) (x : List ℕ) → IsName edition x → Says (g.signed_or_primary edition v) (bare_expr (e.Read at x)) (expr_words (e.Read at x) 5)
    read_node at x i = inr (inr (inr (inl (named x, plain_token (word.Name x) ∷ [], [], refl, name_says edition x i, (refl, refl)))))

    above_node : (at : Span) (c x : List ℕ) → IsName edition c → IsName edition x → Says (g.signed_or_primary edition v) (bare_expr (e.Above at c x)) (expr_words (e.Above at c x) 5)
    above_node at c x i j = inr (inr (inr (inr (inl (named c, plain_token (word.Name c) ∷ [], _, refl, name_says edition c i, (named x, map plain_token (word.Sign s.Dot ∷ word.Name x ∷ []), [], refl, field_says edition x j, (refl, refl)))))))

    index_node : (at : Span) (x : List ℕ) (p : ExprTree) → IsName edition x → Says (g.expr edition v) (bare_expr p) (expr_words p 0) → Says (g.signed_or_primary edition v) (bare_expr (e.Index at x p)) (expr_words (e.Index at x p) 5)
    index_node at x p i h = inr (inr (inr (inr (inr (inr (inl (named x, plain_token (word.Name x) ∷ [], _, refl, name_says edition x i, (bare_expr p, map plain_token (index_words p), [], sym (append-nil (map plain_token (index_words p))), index_says v p h, (refl, refl)))))))))

    above_index_node : (at : Span) (c x : List ℕ) (p : ExprTree) → IsName edition c → IsName edition x → Says (g.expr edition v) (bare_expr p) (expr_words p 0) → Says (g.signed_or_primary edition v) (bare_expr (e.AboveIndex at c x p)) (expr_words (e.AboveIndex at c x p) 5)
    above_index_node at c x p i j h = inr (inr (inr (inr (inr (inr (inr (inl (named c, plain_token (word.Name c) ∷ [], _, refl, name_says edition c i, (named x, map plain_token (word.Sign s.Dot ∷ word.Name x ∷ []), _, refl, field_says edition x j, (bare_expr p, map plain_token (index_words p), [], sym (append-nil (map plain_token (index_words p))), index_says v p h, (refl, refl)))))))))))

    abbrev paren_args : ExprTrees → List Word
    paren_args ts = word.Sign s.LeftParen ∷ (args_words ts ++ word.Sign s.RightParen ∷ [])

    call_node : (at : Span) (f : List ℕ) (ts : ExprTrees) → IsName edition f → all_say v ts → Says (g.signed_or_primary edition v) (bare_expr (e.Call at f ts)) (expr_words (e.Call at f ts) 5)
    call_node at f ts i h = inr (inr (inr (inr (inr (inl (named f, plain_token (word.Name f) ∷ [], _, refl, name_says edition f i, (list_of (bare_exprs ts), map plain_token (paren_args ts), [], sym (append-nil (map plain_token (paren_args ts))), arguments_say v ts h, (ap (λ l. e.Call nowhere f l) (sym (list_back (bare_exprs ts))), refl))))))))

    child_node : (at : Span) (c : List ℕ) (p : ExprTree) (f : List ℕ) (ts : ExprTrees) → IsName edition c → IsName edition f → Says (g.expr edition v) (bare_expr p) (expr_words p 0) → all_say v ts → Says (g.signed_or_primary edition v) (bare_expr (e.ChildCall at c p f ts)) (expr_words (e.ChildCall at c p f ts) 5)
    child_node at c p f ts i j h k =
        let behind : List Word = word.Sign s.Dot ∷ word.Name f ∷ paren_args ts in
        inr (inr (inr (inr (inr (inr (inr (inr (
          named c,
          plain_token (word.Name c) ∷ [],
          _,
          refl,
          name_says edition c i,
          (
            bare_expr p,
            map plain_token (index_words p),
            map plain_token behind,
            index_split p behind,
            index_says v p h,
            (
              named f,
              map plain_token (word.Sign s.Dot ∷ word.Name f ∷ []),
              _,
              refl,
              field_says edition f j,
              (list_of (bare_exprs ts), map plain_token (paren_args ts), [], sym (append-nil (map plain_token (paren_args ts))), arguments_say v ts k, (ap (λ l. e.ChildCall nowhere c (bare_expr p) f l) (sym (list_back (bare_exprs ts))), refl)),
            ),
          ),
        ))))))))

    unary_node : (at : Span) (o : UnaryOp) (x : ExprTree) → Says v (bare_expr x) (expr_words x 5) → Says (g.signed_or_primary edition v) (bare_expr (e.Unary at o x)) (expr_words (e.Unary at o x) 5)
    unary_node at o x h = inl ((nowhere, o), plain_token (word.Sign (unary_sign_of o)) ∷ [], _, refl, (plain_token (word.Sign (unary_sign_of o)), refl, unary_fits o), (bare_expr x, map plain_token (expr_words x 5), [], sym (append-nil (map plain_token (expr_words x 5))), h, (refl, refl)))

    paren_node : (o : BinaryOp) (a b : ExprTree) → Levels v a → Levels v b → Says (g.signed_or_primary edition v) (joined o a b) (paren_words o a b)
    paren_node o a b A B = inr (inr (inl (parenthesized_says v (joined o a b) (own_words o a b) (LevelSays.as_expr edition v o (joined o a b) (own_words o a b) (LevelSays.own edition v o a b A B)))))

  abbrev at_depth : ℕ → Part ExprTree
  at_depth n = nested_part (g.signed_or_primary edition) n

  mutual
    said : (t : ExprTree) (n : ℕ) → nodes t ≤ n → ExprFits edition t → Levels (at_depth (suc n)) t
    said (e.Number at k) n h f = LevelSays.atom edition (at_depth (suc n)) (e.Number at k) (expr_words (e.Number at k) 5) (number_node (at_depth n) at k) (λ l. refl)
    said (e.Text at b) n h f = LevelSays.atom edition (at_depth (suc n)) (e.Text at b) (expr_words (e.Text at b) 5) (text_node (at_depth n) at b) (λ l. refl)
    said (e.Boolean at b) n h f = LevelSays.atom edition (at_depth (suc n)) (e.Boolean at b) (expr_words (e.Boolean at b) 5) (boolean_node (at_depth n) at b) (λ l. refl)
    said (e.Empty at) n h f = LevelSays.atom edition (at_depth (suc n)) (e.Empty at) (expr_words (e.Empty at) 5) (empty_node (at_depth n) at) (λ l. refl)
    said (e.Read at x) n h f = LevelSays.atom edition (at_depth (suc n)) (e.Read at x) (expr_words (e.Read at x) 5) (read_node (at_depth n) at x f) (λ l. refl)
    said (e.Above at c x) n h f = LevelSays.atom edition (at_depth (suc n)) (e.Above at c x) (expr_words (e.Above at c x) 5) (above_node (at_depth n) at c x f.0 f.1) (λ l. refl)
    said (e.Index at x p) zero h f = absurd (omega arith)
    said (e.Index at x p) (suc m) h f = LevelSays.atom edition (at_depth (suc (suc m))) (e.Index at x p) (expr_words (e.Index at x p) 5) (index_node (at_depth (suc m)) at x p f.0 (said p m (omega arith) f.1).expr) (λ l. refl)
    said (e.AboveIndex at c x p) zero h f = absurd (omega arith)
    said (e.AboveIndex at c x p) (suc m) h f = LevelSays.atom edition (at_depth (suc (suc m))) (e.AboveIndex at c x p) (expr_words (e.AboveIndex at c x p) 5) (above_index_node (at_depth (suc m)) at c x p f.0 f.1 (said p m (omega arith) f.2).expr) (λ l. refl)
    said (e.Call at x ts) zero h f = absurd (omega arith)
    said (e.Call at x ts) (suc m) h f = LevelSays.atom edition (at_depth (suc (suc m))) (e.Call at x ts) (expr_words (e.Call at x ts) 5) (call_node (at_depth (suc m)) at x ts f.0 (all_said ts m (omega arith) f.1)) (λ l. refl)
    said (e.ChildCall at c p x ts) zero h f = absurd (omega arith)
    said (e.ChildCall at c p x ts) (suc m) h f = LevelSays.atom edition (at_depth (suc (suc m))) (e.ChildCall at c p x ts) (expr_words (e.ChildCall at c p x ts) 5) (child_node (at_depth (suc m)) at c p x ts f.0 f.2 (said p m (omega arith) f.1).expr (all_said ts m (omega arith) f.3)) (λ l. refl)
    said (e.Unary at o x) zero h f = absurd (omega arith)
    said (e.Unary at o x) (suc m) h f = LevelSays.atom edition (at_depth (suc (suc m))) (e.Unary at o x) (expr_words (e.Unary at o x) 5) (unary_node (at_depth (suc m)) at o x (said x m (omega arith) f).unary) (λ l. refl)
    said (e.Binary at o a b) zero h f = absurd (omega arith)
    said (e.Binary at o a b) (suc m) h f = LevelSays.binary edition (at_depth (suc (suc m))) at o a b (said a (suc m) (omega arith) f.0) (said b (suc m) (omega arith) f.1) (paren_node (at_depth (suc m)) o a b (said a m (omega arith) f.0) (said b m (omega arith) f.1))

    all_said : (ts : ExprTrees) (n : ℕ) → all_nodes ts ≤ n → ExprsFit edition ts → all_say (at_depth (suc n)) ts
    all_said no_exprs n h f = tt
    all_said (expr_and t ts) n h f = ((said t n (omega arith) f.0).expr, all_said ts n (omega arith) f.1)

  -- ---- however deep

  below : (o : BinaryOp) → nat_lt (level_of o) 5 ≡ true
  below op.Or = refl
  below op.And = refl
  below op.Eq = refl
  below op.Ne = refl
  below op.Lt = refl
  below op.Le = refl
  below op.Gt = refl
  below op.Ge = refl
  below op.Add = refl
  below op.Sub = refl
  below op.Mul = refl
  below op.Div = refl
  below op.Rem = refl

  deeply : (t : ExprTree) → ExprFits edition t → Says (g.unary edition) (bare_expr t) (expr_words t 5)
  deeply t f = (suc (nodes t), (said t (nodes t) (omega arith) f).unary)

  abbrev deep_atom : (t : ExprTree) → ExprFits edition t → ((l : ℕ) → expr_words t l ≡ expr_words t 5) → Levels (g.unary edition) t
  deep_atom t f same = LevelSays.atom edition (g.unary edition) t (expr_words t 5) (deeply t f) same

  pub anywhere : (t : ExprTree) → ExprFits edition t → Levels (g.unary edition) t
  anywhere (e.Number at k) f = deep_atom (e.Number at k) f (λ l. refl)
  anywhere (e.Text at b) f = deep_atom (e.Text at b) f (λ l. refl)
  anywhere (e.Boolean at b) f = deep_atom (e.Boolean at b) f (λ l. refl)
  anywhere (e.Empty at) f = deep_atom (e.Empty at) f (λ l. refl)
  anywhere (e.Read at x) f = deep_atom (e.Read at x) f (λ l. refl)
  anywhere (e.Above at c x) f = deep_atom (e.Above at c x) f (λ l. refl)
  anywhere (e.Index at x p) f = deep_atom (e.Index at x p) f (λ l. refl)
  anywhere (e.AboveIndex at c x p) f = deep_atom (e.AboveIndex at c x p) f (λ l. refl)
  anywhere (e.Call at x ts) f = deep_atom (e.Call at x ts) f (λ l. refl)
  anywhere (e.ChildCall at c p x ts) f = deep_atom (e.ChildCall at c p x ts) f (λ l. refl)
  anywhere (e.Unary at o x) f = deep_atom (e.Unary at o x) f (λ l. refl)
  anywhere (e.Binary at o a b) f = LevelSays.binary edition (g.unary edition) at o a b (anywhere a f.0) (anywhere b f.1) (subst (λ ws. Says (g.unary edition) (joined o a b) ws) (ap (λ t. in_parens t (own_words o a b)) (below o)) (deeply (e.Binary at o a b) f))

  pub expr_says : (t : ExprTree) → ExprFits edition t → Says (g.any_expr edition) (bare_expr t) (whole_words t)
  unfolding g.any_expr
  expr_says t f = (anywhere t f).expr

  pub any_key_says : (t : ExprTree) → ExprFits edition t → Says (g.any_key edition) (bare_expr t) (index_words t)
  unfolding g.any_key
  any_key_says t f = index_says (g.unary edition) t (anywhere t f).expr

  pub any_arguments_say : (args : List ExprTree) → Each (ExprFits edition) args → Says (g.any_arguments edition) (map bare_expr args) (word.Sign s.LeftParen ∷ (listed_words whole_words args ++ word.Sign s.RightParen ∷ []))
  unfolding g.any_arguments
  any_arguments_say args f = parens_say (g.expr edition (g.unary edition)) bare_expr whole_words (ExprFits edition) (λ t h. (anywhere t h).expr) args f

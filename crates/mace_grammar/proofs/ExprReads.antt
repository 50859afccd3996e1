-- The readers of expressions read their productions.
use Rattle.std.proofs.Common.{◌≡◌, ℕ, suc, List, [], ◌∷◌, ◌++◌, Some, None, Bool, true, false, Ok, Err, refl}
use Rattle.std.specs.Prelude.{if◌then◌else◌, unwrap_or, fold}
use Rattle.mace_lexer.specs.declared.token.Token.{Token}
use Rattle.mace_lexer.specs.declared.sign.Sign.TheVariants as s
use Rattle.mace_ast.specs.declared.name.Name.{Name}
use Rattle.mace_ast.specs.declared.expr.BinaryOp.{BinaryOp}
use Rattle.mace_ast.specs.Exprs as e
use Rattle.mace_ast.specs.Exprs.{ExprTree, exprs_of}
use Rattle.mace_grammar.specs.Part.{Part, pure, ◌>>=◌, ◌or◌}
use Rattle.mace_grammar.specs.inner.Run.{Reader, Outcome, and_then, give, sees}
use Rattle.mace_grammar.specs.declared.class.TheConstants.{EXPR_STARTS, INITIALS, UNARY_OPS}
use Rattle.mace_grammar.specs.declared.class.Class.{Class}
use Rattle.mace_grammar.specs.declared.class.Class.TheVariants as class
use Rattle.mace_grammar.specs.inner.Classes as classes
use Rattle.mace_grammar.specs.Words as w
use Rattle.mace_grammar.specs.Grammar as g
use Rattle.mace_grammar.specs.inner.Readers as r
use Rattle.mace_grammar.specs.Words.{Edition}
use Rattle.mace_grammar.proofs.Versions.{IsSound}
use Rattle.mace_grammar.proofs.Reading.{Reads, wider, another, reads_same}
use Rattle.mace_grammar.proofs.InTurn.{reads_pure, next_part, inside}
use Rattle.mace_grammar.proofs.Choices.{either, optional}
use Rattle.mace_grammar.proofs.Repeats.{repeated}
use Rattle.mace_grammar.proofs.Nests.{reads_deep}
use Rattle.mace_grammar.proofs.Same.{Same, same_refl, same_trans, same_or, same_behind}
use Rattle.mace_grammar.proofs.Factors.{two_fronts, six_fronts, same_six}
use Rattle.mace_grammar.proofs.Productions.{sign, name, field, unary_op, literal_node, operator, product_has, sum_has, comparison_has, and_has, or_has}

module _ (edition : Edition) (sound : IsSound edition) where
  abbrev kind : Token → Class
  kind = classes.kind edition

  -- ---- chains

  -- what goes on with an operand
  abbrev pub tails : List Class
  tails = class.Sign s.LeftParen ∷ class.Sign s.Dot ∷ class.Sign s.LeftBracket ∷ []

  and_then_same : {A B : Type 0} (o : Outcome A) (f g : A → Reader B) → ((a : A) (ts : List Token) → f a ts ≡ g a ts) → and_then o f ≡ and_then o g
  and_then_same (Ok p) f g h = h p.0 p.1
  and_then_same (Err e) f g h = refl

  -- a comparison is a chain of at most one turn
  one_turn : (b : Bool) (o : Outcome (BinaryOp × ExprTree)) (left : ExprTree) (ts : List Token) → and_then (if b then and_then o (λ a. give (Some a)) else Ok (None, ts)) (λ right. give (g.comparison_of left right)) ≡ and_then (if b then and_then o (λ a rest. Ok (a ∷ [], rest)) else Ok ([], ts)) (λ others. give (fold g.binary_of left others))
  one_turn true (Ok p) left ts = refl
  one_turn true (Err x) left ts = refl
  one_turn false o left ts = refl

  module _ (m : ℕ) (u u' : Part ExprTree) (run : Reader ExprTree) (U : Reads kind m u u' run EXPR_STARTS false tails) where
    product : Reads kind m (g.product edition u) (g.product edition u') (r.level_at edition run 1) EXPR_STARTS false (tails ++ r.operators_of 0)
    unfolding r.operands_at r.operand_at
    product =
        wider kind
        (next_part kind U
        (λ first. next_part kind
        (repeated kind (next_part kind (operator edition sound m w.product_op (r.operators_of 0) (product_has edition sound)) (λ o. next_part kind U (λ right. reads_pure kind m (o, right)) refl) refl) refl)
        (λ others. reads_pure kind m (fold g.binary_of first others))
        refl)
        refl)
        refl refl

    sum : Reads kind m (g.sum edition u) (g.sum edition u') (r.level_at edition run 2) EXPR_STARTS false (tails ++ r.operators_of 0 ++ r.operators_of 1)
    unfolding r.operands_at r.operand_at
    sum =
        wider kind
        (next_part kind product
        (λ first. next_part kind
        (repeated kind (next_part kind (operator edition sound m w.sum_op (r.operators_of 1) (sum_has edition sound)) (λ o. next_part kind product (λ right. reads_pure kind m (o, right)) refl) refl) refl)
        (λ others. reads_pure kind m (fold g.binary_of first others))
        refl)
        refl)
        refl refl

    comparison : Reads kind m (g.comparison edition u) (g.comparison edition u') (r.level_at edition run 3) EXPR_STARTS false (tails ++ r.operators_of 0 ++ r.operators_of 1 ++ r.operators_of 2)
    unfolding r.operands_at r.operand_at
    comparison =
        another kind
        (wider kind
        (next_part kind sum
        (λ left. next_part kind
        (optional kind (next_part kind (operator edition sound m w.comparison_op (r.operators_of 2) (comparison_has edition sound)) (λ o. next_part kind sum (λ right. reads_pure kind m (o, right)) refl) refl))
        (λ right. reads_pure kind m (g.comparison_of left right))
        refl)
        refl)
        refl refl)
        (λ ts. and_then_same (r.level_at edition run 2 ts) _ _ (λ left rest. one_turn (sees kind (r.operators_of 2) rest) (r.operand_at (r.operator_at 2) (r.level_at edition run 2) rest) left rest))

    conjunction : Reads kind m (g.conjunction edition u) (g.conjunction edition u') (r.level_at edition run 4) EXPR_STARTS false (tails ++ r.operators_of 0 ++ r.operators_of 1 ++ r.operators_of 2 ++ r.operators_of 3)
    unfolding r.operands_at r.operand_at
    conjunction =
        wider kind
        (next_part kind comparison
        (λ first. next_part kind
        (repeated kind (next_part kind (operator edition sound m w.and_op (r.operators_of 3) (and_has edition sound)) (λ o. next_part kind comparison (λ right. reads_pure kind m (o, right)) refl) refl) refl)
        (λ others. reads_pure kind m (fold g.binary_of first others))
        refl)
        refl)
        refl refl

  -- what goes on with an expression
  abbrev pub operators : List Class
  operators = tails ++ r.operators_of 0 ++ r.operators_of 1 ++ r.operators_of 2 ++ r.operators_of 3 ++ r.operators_of 4

  module _ (m : ℕ) (u u' : Part ExprTree) (run : Reader ExprTree) (U : Reads kind m u u' run EXPR_STARTS false tails) where
    pub expr : Reads kind m (g.expr edition u) (g.expr edition u') (r.expr_at edition run) EXPR_STARTS false operators
    unfolding r.expr_at r.operands_at r.operand_at
    expr =
        let C = conjunction m u u' run U in
        wider kind
        (next_part kind C
        (λ first. next_part kind
        (repeated kind (next_part kind (operator edition sound m w.or_op (r.operators_of 4) (or_has edition sound)) (λ o. next_part kind C (λ right. reads_pure kind m (o, right)) refl) refl) refl)
        (λ others. reads_pure kind m (fold g.binary_of first others))
        refl)
        refl)
        refl refl

    -- ---- brackets

    pub arguments : Reads kind m (g.arguments edition u) (g.arguments edition u') (r.arguments_at edition run) (r.if_sign s.LeftParen) false []
    unfolding r.arguments_at r.separated_at r.list_at r.next_at
    arguments =
        next_part kind (sign edition sound m s.LeftParen)
        (λ _. next_part kind
        (optional kind (next_part kind expr (λ first. next_part kind (repeated kind (next_part kind (sign edition sound m s.Comma) (λ _. expr) refl) refl) (λ others. reads_pure kind m (first ∷ others)) refl) refl))
        (λ found. next_part kind (sign edition sound m s.RightParen) (λ _. reads_pure kind m (unwrap_or found [])) refl)
        refl)
        refl

    pub bracketed : Reads kind m (g.bracketed_expr edition u) (g.bracketed_expr edition u') (r.bracketed_at edition run) (r.if_sign s.LeftBracket) false []
    unfolding r.bracketed_at
    bracketed =
        next_part kind (sign edition sound m s.LeftBracket)
        (λ _. next_part kind expr (λ key. next_part kind (sign edition sound m s.RightBracket) (λ _. reads_pure kind m key) refl) refl)
        refl

    parenthesized : Reads kind (suc m) (g.parenthesized_expr edition u) (g.parenthesized_expr edition u') (r.parenthesized_at edition run) (r.if_sign s.LeftParen) false []
    unfolding r.parenthesized_at
    parenthesized =
        inside kind (sign edition sound (suc m) s.LeftParen)
        (λ _. next_part kind expr (λ inner. next_part kind (sign edition sound m s.RightParen) (λ _. reads_pure kind m inner) refl) refl)
        refl

  -- ---- what begins with a name, with what is common in front

  module _ (v : Part ExprTree) where
    abbrev call_behind : Name → Part ExprTree
    call_behind f = g.arguments edition v >>= (λ found. pure (e.Call f.at f.text (exprs_of found)))

    abbrev above_index_behind : Name → Name → Part ExprTree
    above_index_behind c f = g.bracketed_expr edition v >>= (λ key. pure (e.AboveIndex c.at c.text f.text key))

    abbrev above_behind : Name → Name → Part ExprTree
    above_behind c f = pure (e.Above c.at c.text f.text)

    abbrev child_behind : Name → ExprTree → Part ExprTree
    child_behind c key = (g.field edition) >>= (λ f. (g.arguments edition) v >>= (λ found. pure (e.ChildCall c.at c.text key f.text (exprs_of found))))

    abbrev index_behind : Name → ExprTree → Part ExprTree
    index_behind x key = pure (e.Index x.at x.text key)

    abbrev read_behind : Name → Part ExprTree
    read_behind x = pure (e.Read x.at x.text)

    abbrev dot_behind : Name → Part ExprTree
    dot_behind c = (g.field edition) >>= (λ f. above_index_behind c f or above_behind c f)

    abbrev key_behind : Name → Part ExprTree
    key_behind x = g.bracketed_expr edition v >>= (λ key. child_behind x key or index_behind x key)

    abbrev named : Part ExprTree
    named = (w.name edition) >>= (λ n. call_behind n or (dot_behind n or (key_behind n or read_behind n)))

    abbrev written : Part ExprTree
    written = g.read edition v or (g.above edition v or (g.call edition v or (g.index edition v or (g.above_index edition v or (g.child_call edition) v))))

    abbrev split_behind : Name → Part ExprTree
    split_behind n = call_behind n or (((g.field edition >>= above_index_behind n) or (g.field edition >>= above_behind n)) or (((g.bracketed_expr edition v >>= child_behind n) or (g.bracketed_expr edition v >>= index_behind n)) or read_behind n))

    abbrev sorted_behind : Name → Part ExprTree
    sorted_behind n = read_behind n or ((g.field edition >>= above_behind n) or (call_behind n or ((g.bracketed_expr edition v >>= index_behind n) or ((g.field edition >>= above_index_behind n) or (g.bracketed_expr edition v >>= child_behind n)))))

    pub same_named : Same named written
    same_named =
        same_trans named (w.name edition >>= sorted_behind) written
        (same_behind (w.name edition) (λ n. call_behind n or (dot_behind n or (key_behind n or read_behind n))) sorted_behind
        (λ n. same_trans (call_behind n or (dot_behind n or (key_behind n or read_behind n))) (split_behind n) (sorted_behind n)
        (same_or (call_behind n) (call_behind n) (dot_behind n or (key_behind n or read_behind n)) (((g.field edition >>= above_index_behind n) or (g.field edition >>= above_behind n)) or (((g.bracketed_expr edition v >>= child_behind n) or (g.bracketed_expr edition v >>= index_behind n)) or read_behind n))
        (same_refl (call_behind n))
        (same_or (dot_behind n) ((g.field edition >>= above_index_behind n) or (g.field edition >>= above_behind n)) (key_behind n or read_behind n) (((g.bracketed_expr edition v >>= child_behind n) or (g.bracketed_expr edition v >>= index_behind n)) or read_behind n)
        (two_fronts (g.field edition) (above_index_behind n) (above_behind n))
        (same_or (key_behind n) ((g.bracketed_expr edition v >>= child_behind n) or (g.bracketed_expr edition v >>= index_behind n)) (read_behind n) (read_behind n) (two_fronts (g.bracketed_expr edition v) (child_behind n) (index_behind n)) (same_refl (read_behind n)))))
        (same_six (call_behind n) (g.field edition >>= above_index_behind n) (g.field edition >>= above_behind n) (g.bracketed_expr edition v >>= child_behind n) (g.bracketed_expr edition v >>= index_behind n) (read_behind n))))
        (six_fronts (w.name edition) read_behind (λ n. (g.field edition) >>= above_behind n) call_behind (λ n. (g.bracketed_expr edition) v >>= index_behind n) (λ n. (g.field edition) >>= above_index_behind n) (λ n. (g.bracketed_expr edition) v >>= child_behind n))

  module _ (m : ℕ) (u u' : Part ExprTree) (run : Reader ExprTree) (U : Reads kind m u u' run EXPR_STARTS false tails) where
    call : (f : Name) → Reads kind m (call_behind u f) (call_behind u' f) (r.call_at edition run f) (r.if_sign s.LeftParen) false []
    unfolding r.call_at
    call f = next_part kind (arguments m u u' run U) (λ found. reads_pure kind m (e.Call f.at f.text (exprs_of found))) refl

    above : (c : Name) → Reads kind m (dot_behind u c) (dot_behind u' c) (r.above_at edition run c) (r.if_sign s.Dot) false (r.if_sign s.LeftBracket)
    unfolding r.above_at
    above c =
        wider kind
        (next_part kind (field edition sound m)
        (λ f. either kind
        (next_part kind (bracketed m u u' run U) (λ key. reads_pure kind m (e.AboveIndex c.at c.text f.text key)) refl)
        (reads_pure kind m (e.Above c.at c.text f.text))
        refl)
        refl)
        refl refl

    child_call : (c : Name) (key : ExprTree) → Reads kind m (child_behind u c key) (child_behind u' c key) (r.child_call_at edition run c key) (r.if_sign s.Dot) false []
    unfolding r.child_call_at
    child_call c key = next_part kind (field edition sound m) (λ f. next_part kind (arguments m u u' run U) (λ found. reads_pure kind m (e.ChildCall c.at c.text key f.text (exprs_of found))) refl) refl

    index : (x : Name) → Reads kind m (key_behind u x) (key_behind u' x) (r.index_at edition run x) (r.if_sign s.LeftBracket) false (r.if_sign s.Dot)
    unfolding r.index_at
    index x =
        wider kind
        (next_part kind (bracketed m u u' run U) (λ key. either kind (child_call x key) (reads_pure kind m (e.Index x.at x.text key)) refl) refl)
        refl refl

    named_reads : Reads kind (suc m) (named u) (named u') (r.named_at edition run) (class.Name ∷ []) false tails
    unfolding r.named_at
    named_reads =
        wider kind
        (inside kind (name edition sound (suc m))
        (λ n. either kind (call n) (either kind (above n) (either kind (index n) (reads_pure kind m (e.Read n.at n.text)) refl) refl) refl)
        refl)
        refl refl

    primary : Reads kind (suc m) (g.primary edition u) (g.primary edition u') (r.primary_at edition run) (INITIALS ++ r.if_sign s.LeftParen ++ class.Name ∷ []) false tails
    unfolding r.primary_at
    primary =
        wider kind
        (either kind (literal_node edition sound (suc m))
        (either kind (parenthesized m u u' run U) (reads_same kind (suc m) (named u) (named u') (written u) (written u') (r.named_at edition run) (class.Name ∷ []) tails false (same_named u) (same_named u') named_reads) refl)
        refl)
        refl refl

    signed : Reads kind (suc m) (g.signed_expr edition u) (g.signed_expr edition u') (r.signed_at edition run) UNARY_OPS false tails
    unfolding r.signed_at
    signed = wider kind (inside kind (unary_op edition sound (suc m)) (λ o. next_part kind U (λ operand. reads_pure kind m (e.Unary o.0 o.1 operand)) refl) refl) refl refl

    pub signed_or_primary : Reads kind (suc m) (g.signed_or_primary edition u) (g.signed_or_primary edition u') (r.signed_or_primary_at edition run) EXPR_STARTS false tails
    unfolding r.signed_or_primary_at
    signed_or_primary = wider kind (either kind signed primary refl) refl refl

  pub unary : (m : ℕ) → Reads kind m (g.unary edition) (g.unary edition) (r.unary_at edition m) EXPR_STARTS false tails
  unary m = reads_deep kind (g.signed_or_primary edition) (λ _. (r.signed_or_primary_at edition)) EXPR_STARTS tails signed_or_primary m

  module _ (m : ℕ) where
    pub any_expr : Reads kind m (g.any_expr edition) (g.any_expr edition) (r.any_expr_at edition m) EXPR_STARTS false operators
    unfolding g.any_expr r.any_expr_at
    any_expr = expr m (g.unary edition) (g.unary edition) (r.unary_at edition m) (unary m)

    pub any_arguments : Reads kind m (g.any_arguments edition) (g.any_arguments edition) (r.any_arguments_at edition m) (r.if_sign s.LeftParen) false []
    unfolding g.any_arguments r.any_arguments_at
    any_arguments = arguments m (g.unary edition) (g.unary edition) (r.unary_at edition m) (unary m)

    pub any_key : Reads kind m (g.any_key edition) (g.any_key edition) (r.any_key_at edition m) (r.if_sign s.LeftBracket) false []
    unfolding g.any_key r.any_key_at
    any_key = bracketed m (g.unary edition) (g.unary edition) (r.unary_at edition m) (unary m)

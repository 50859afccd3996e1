-- The readers of expressions read erased tokens as they read the tokens, but for the places.
use Rattle.std.proofs.Common.{◌≡◌, ℕ, zero, suc, List, [], ◌∷◌, map, fold, Option, Some, None, refl, ◌∙◌, ap}
use Rattle.std.specs.Option.{option_map}
use Rattle.wave_base.specs.declared.span.Span.{Span}
use Rattle.mace_lexer.specs.declared.token.Token.{Token}
use Rattle.mace_lexer.specs.declared.token.Word.{Word}
use Rattle.mace_lexer.specs.declared.token.Word.TheVariants as word
use Rattle.mace_lexer.specs.declared.keyword.Keyword.{Keyword}
use Rattle.mace_lexer.specs.declared.keyword.Keyword.TheVariants as k
use Rattle.mace_lexer.specs.declared.sign.Sign.TheVariants as s
use Rattle.mace_ast.specs.declared.name.Name.{Name}
use Rattle.mace_ast.specs.declared.expr.UnaryOp.{UnaryOp}
use Rattle.mace_ast.specs.declared.expr.BinaryOp.{BinaryOp}
use Rattle.mace_ast.specs.Exprs as e
use Rattle.mace_ast.specs.Exprs.{ExprTree, exprs_of, expr_and, bare_expr, bare_exprs, nowhere, place_of}
use Rattle.mace_ast.specs.Stmts.{bare_name}
use Rattle.mace_grammar.specs.inner.Run.{Reader}
use Rattle.mace_grammar.specs.declared.class.TheConstants.{EXPR_STARTS, INITIALS, UNARY_OPS}
use Rattle.mace_grammar.specs.Words as w
use Rattle.mace_grammar.specs.Words.{Edition, first}
use Rattle.mace_grammar.specs.Grammar as g
use Rattle.mace_grammar.specs.inner.Readers as r
use Rattle.mace_grammar.proofs.Plain.{Natural, erased, same_length, natural_give, natural_then, natural_word, natural_choice, natural_each, natural_deeper}
use Rattle.mace_grammar.proofs.PlainTokens.{itself, same_option, sign, name, field, separated}

literal_key : (at : Span) (j : Keyword) → w.literal_of_key nowhere j ≡ option_map bare_expr (w.literal_of_key at j)
literal_key at k.True = refl
literal_key at k.False = refl
literal_key at k.Empty = refl
literal_key at _ = refl

literal_place : (at : Span) (v : Word) → w.literal_word nowhere v ≡ option_map bare_expr (w.literal_word at v)
literal_place at (word.Number n) = refl
literal_place at (word.Text t) = refl
literal_place at (word.Key j) = literal_key at j
literal_place at (word.Name t) = refl
literal_place at (word.Sign j) = refl

abbrev bare_op : Span × UnaryOp → Span × UnaryOp
bare_op o = (nowhere, o.1)

unary_option : (at : Span) (o : Option UnaryOp) → option_map (λ x. (nowhere, x)) o ≡ option_map bare_op (option_map (λ x. (at, x)) o)
unary_option at (Some x) = refl
unary_option at None = refl

unary_place : (at : Span) (v : Word) → w.unary_word nowhere v ≡ option_map bare_op (w.unary_word at v)
unary_place at (word.Sign j) = unary_option at (w.unary_of j)
unary_place at (word.Name t) = refl
unary_place at (word.Number n) = refl
unary_place at (word.Text t) = refl
unary_place at (word.Key j) = refl

literal_node : Natural bare_expr r.literal_at r.literal_at
literal_node = natural_word bare_expr _ _ (λ t. literal_place t.span t.word)

unary_op : Natural bare_op r.unary_op_at r.unary_op_at
unary_op = natural_word bare_op _ _ (λ t. unary_place t.span t.word)

operator : (n : ℕ) → Natural itself (r.operator_at n) (r.operator_at n)
operator n = natural_word itself _ _ (λ t. same_option (w.op_word (r.op_of n) t.word))

bare_place : (t : ExprTree) → place_of (bare_expr t) ≡ nowhere
bare_place (e.Number at n) = refl
bare_place (e.Text at b) = refl
bare_place (e.Boolean at b) = refl
bare_place (e.Empty at) = refl
bare_place (e.Read at x) = refl
bare_place (e.Above at c f) = refl
bare_place (e.Index at x key) = refl
bare_place (e.AboveIndex at c f key) = refl
bare_place (e.Call at f args) = refl
bare_place (e.ChildCall at c key f args) = refl
bare_place (e.Unary at o x) = refl
bare_place (e.Binary at o l x) = refl

abbrev bare_operand : BinaryOp × ExprTree → BinaryOp × ExprTree
bare_operand p = (p.0, bare_expr p.1)

bare_joined : (left : ExprTree) (right : BinaryOp × ExprTree) → g.binary_of (bare_expr left) (bare_operand right) ≡ bare_expr (g.binary_of left right)
bare_joined left right = ap (λ at. e.Binary at right.0 (bare_expr left) (bare_expr right.1)) (bare_place left)

bare_fold : (left : ExprTree) (others : List (BinaryOp × ExprTree)) → fold g.binary_of (bare_expr left) (map bare_operand others) ≡ bare_expr (fold g.binary_of left others)
bare_fold left [] = refl
bare_fold left (o ∷ others) = ap (λ l. fold g.binary_of l (map bare_operand others)) (bare_joined left o) ∙ bare_fold (g.binary_of left o) others

bare_exprs_of : (es : List ExprTree) → exprs_of (map bare_expr es) ≡ bare_exprs (exprs_of es)
bare_exprs_of [] = refl
bare_exprs_of (x ∷ es) = ap (λ l. expr_and (bare_expr x) l) (bare_exprs_of es)

same_turns : (n : ℕ) (ts : List Token) → r.turns_of n (erased ts) ≡ r.turns_of n ts
same_turns zero ts = same_length ts
same_turns (suc zero) ts = same_length ts
same_turns (suc (suc zero)) ts = refl
same_turns (suc (suc (suc n))) ts = same_length ts

module _ (edition : Edition) where
  module _ (run : Reader ExprTree) (U : Natural bare_expr run run) where
    operand : (n : ℕ) (item : Reader ExprTree) → Natural bare_expr item item → Natural bare_operand (r.operand_at (r.operator_at n) item) (r.operand_at (r.operator_at n) item)
    unfolding r.operand_at
    operand n item I = natural_then _ (operator n) (λ o. natural_then _ I (λ right. natural_give bare_operand (o, right) (o, bare_expr right) refl))

    operands : (n : ℕ) (item : Reader ExprTree) → Natural bare_expr item item → (turns : ℕ) (left : ExprTree) → Natural bare_expr (r.operands_at edition n item turns left) (r.operands_at edition n item turns (bare_expr left))
    unfolding r.operands_at
    operands n item I turns left = natural_then _ (natural_each edition (r.operators_of n) (operand n item I) turns) (λ others. natural_give bare_expr (fold g.binary_of left others) (fold g.binary_of (bare_expr left) (map bare_operand others)) (bare_fold left others))

    level : (n : ℕ) → Natural bare_expr (r.level_at edition run n) (r.level_at edition run n)
    level zero = U
    level (suc n) = let L = level n in natural_then _ L (λ first. record { same = λ ts. ap (λ m. (r.operands_at edition) n (r.level_at edition run n) m (bare_expr first) (erased ts)) (same_turns n ts) ∙ (operands n (r.level_at edition run n) L (r.turns_of n ts) first).same ts })

    expr : Natural bare_expr (r.expr_at edition run) (r.expr_at edition run)
    unfolding r.expr_at
    expr = level 5

    arguments : Natural (map bare_expr) (r.arguments_at edition run) (r.arguments_at edition run)
    unfolding r.arguments_at
    arguments = separated edition bare_expr (r.expr_at edition run) expr EXPR_STARTS

    bracketed : Natural bare_expr (r.bracketed_at edition run) (r.bracketed_at edition run)
    unfolding r.bracketed_at
    bracketed = natural_then _ (sign s.LeftBracket) (λ _. natural_then _ expr (λ key. natural_then _ (sign s.RightBracket) (λ _. natural_give bare_expr key (bare_expr key) refl)))

    parenthesized : Natural bare_expr (r.parenthesized_at edition run) (r.parenthesized_at edition run)
    unfolding r.parenthesized_at
    parenthesized = natural_then _ (sign s.LeftParen) (λ _. natural_then _ expr (λ inner. natural_then _ (sign s.RightParen) (λ _. natural_give bare_expr inner (bare_expr inner) refl)))

    call : (f : Name) → Natural bare_expr (r.call_at edition run f) (r.call_at edition run (bare_name f))
    unfolding r.call_at
    call f = natural_then _ arguments (λ found. natural_give bare_expr (e.Call f.at f.text (exprs_of found)) (e.Call nowhere f.text (exprs_of (map bare_expr found))) (ap (e.Call nowhere f.text) (bare_exprs_of found)))

    above : (c : Name) → Natural bare_expr (r.above_at edition run c) (r.above_at edition run (bare_name c))
    unfolding r.above_at
    above c =
        natural_then _ (field edition)
        (λ f. natural_choice edition (r.if_sign s.LeftBracket)
        (natural_then _ bracketed (λ key. natural_give bare_expr (e.AboveIndex c.at c.text f.text key) (e.AboveIndex nowhere c.text f.text (bare_expr key)) refl))
        (natural_give bare_expr (e.Above c.at c.text f.text) (e.Above nowhere c.text f.text) refl))

    child_call : (c : Name) (key : ExprTree) → Natural bare_expr (r.child_call_at edition run c key) (r.child_call_at edition run (bare_name c) (bare_expr key))
    unfolding r.child_call_at
    child_call c key = natural_then _ (field edition) (λ f. natural_then _ arguments (λ found. natural_give bare_expr (e.ChildCall c.at c.text key f.text (exprs_of found)) (e.ChildCall nowhere c.text (bare_expr key) f.text (exprs_of (map bare_expr found))) (ap (e.ChildCall nowhere c.text (bare_expr key) f.text) (bare_exprs_of found))))

    index : (x : Name) → Natural bare_expr (r.index_at edition run x) (r.index_at edition run (bare_name x))
    unfolding r.index_at
    index x = natural_then _ bracketed (λ key. natural_choice edition (r.if_sign s.Dot) (child_call x key) (natural_give bare_expr (e.Index x.at x.text key) (e.Index nowhere x.text (bare_expr key)) refl))

    named : Natural bare_expr (r.named_at edition run) (r.named_at edition run)
    unfolding r.named_at
    named = natural_then _ (name edition) (λ n. natural_choice edition (r.if_sign s.LeftParen) (call n) (natural_choice edition (r.if_sign s.Dot) (above n) (natural_choice edition (r.if_sign s.LeftBracket) (index n) (natural_give bare_expr (e.Read n.at n.text) (e.Read nowhere n.text) refl))))

    primary : Natural bare_expr (r.primary_at edition run) (r.primary_at edition run)
    unfolding r.primary_at
    primary = natural_choice edition INITIALS literal_node (natural_choice edition (r.if_sign s.LeftParen) parenthesized named)

    signed : Natural bare_expr (r.signed_at edition run) (r.signed_at edition run)
    unfolding r.signed_at
    signed = natural_then _ unary_op (λ o. natural_then _ U (λ x. natural_give bare_expr (e.Unary o.0 o.1 x) (e.Unary nowhere o.1 (bare_expr x)) refl))

    signed_or_primary : Natural bare_expr (r.signed_or_primary_at edition run) (r.signed_or_primary_at edition run)
    unfolding r.signed_or_primary_at
    signed_or_primary = natural_choice edition UNARY_OPS signed primary

  unary : (n : ℕ) → Natural bare_expr (r.unary_at edition n) (r.unary_at edition n)
  unary = natural_deeper bare_expr (λ _. (r.signed_or_primary_at edition)) (λ n. signed_or_primary)

  module _ (n : ℕ) where
    pub any_expr : Natural bare_expr (r.any_expr_at edition n) (r.any_expr_at edition n)
    unfolding r.any_expr_at
    any_expr = expr (r.unary_at edition n) (unary n)

    pub any_arguments : Natural (map bare_expr) (r.any_arguments_at edition n) (r.any_arguments_at edition n)
    unfolding r.any_arguments_at
    any_arguments = arguments (r.unary_at edition n) (unary n)

    pub any_key : Natural bare_expr (r.any_key_at edition n) (r.any_key_at edition n)
    unfolding r.any_key_at
    any_key = bracketed (r.unary_at edition n) (unary n)

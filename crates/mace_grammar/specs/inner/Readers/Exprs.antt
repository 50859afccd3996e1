-- Readers of expressions, by the levels of their operators.
use Rattle.std.specs.Prelude.{ℕ, zero, suc, List, length, fold, Option}
use Rattle.wave_base.specs.declared.span.Span.{Span}
use Rattle.mace_lexer.specs.declared.token.Token.{Token}
use Rattle.mace_lexer.specs.declared.sign.Sign.{Sign}
use Rattle.mace_lexer.specs.declared.sign.Sign.TheVariants as s
use Rattle.mace_ast.specs.declared.name.Name.{Name}
use Rattle.mace_ast.specs.declared.expr.UnaryOp.{UnaryOp}
use Rattle.mace_ast.specs.declared.expr.BinaryOp.{BinaryOp}
use Rattle.mace_ast.specs.Exprs as e
use Rattle.mace_ast.specs.Exprs.{ExprTree, exprs_of}
use Rattle.mace_grammar.specs.declared.class.TheConstants.{COMPARISON_OPS, EXPR_STARTS, INITIALS, PRODUCT_OPS, SUM_OPS, UNARY_OPS}
use Rattle.mace_grammar.specs.declared.class.Class.{Class}
use Rattle.mace_grammar.specs.inner.Classes as classes
use Rattle.mace_grammar.specs.Words.{Edition, literal_word, or_op, and_op, comparison_op, sum_op, product_op, op_word, unary_word}
use Rattle.mace_grammar.specs.Grammar.{binary_of}
use Rattle.mace_grammar.specs.inner.Run.{Reader, ◌>>=◌, ◌>>◌, give, word, choice, each, nested_reader}
use Rattle.mace_grammar.specs.inner.Readers.Tokens.{sign_at, if_sign, name_at, field_at, separated_at}

abbrev pub literal_at : Reader ExprTree
literal_at = word (λ t. literal_word t.span t.word)

abbrev pub unary_op_at : Reader (Span × UnaryOp)
unary_op_at = word (λ t. unary_word t.span t.word)

-- the operators of a level, from the tightest
abbrev pub operators_of : ℕ → List Class
operators_of zero = PRODUCT_OPS
operators_of (suc zero) = SUM_OPS
operators_of (suc (suc zero)) = COMPARISON_OPS
operators_of (suc (suc (suc zero))) = if_sign s.AndAnd
operators_of (suc (suc (suc (suc n)))) = if_sign s.OrOr

abbrev pub op_of : ℕ → Sign → Option BinaryOp
op_of zero j = product_op j
op_of (suc zero) j = sum_op j
op_of (suc (suc zero)) j = comparison_op j
op_of (suc (suc (suc zero))) j = and_op j
op_of (suc (suc (suc (suc n)))) j = or_op j

abbrev pub operator_at : ℕ → Reader BinaryOp
operator_at n = word (λ t. op_word (op_of n) t.word)

-- comparisons don't chain
abbrev pub turns_of : ℕ → List Token → ℕ
turns_of zero ts = length ts
turns_of (suc zero) ts = length ts
turns_of (suc (suc zero)) ts = 1
turns_of (suc (suc (suc n))) ts = length ts

unfoldable pub operand_at : Reader BinaryOp → Reader ExprTree → Reader (BinaryOp × ExprTree)
operand_at operator item = do
  o ← operator
  right ← item
  give (o, right)

-- ---- what a version changes, and what is made of it

module _ (edition : Edition) where
  abbrev kind : Token → Class
  kind = classes.kind edition

  -- at most so many operands more
  unfoldable pub operands_at : ℕ → Reader ExprTree → ℕ → ExprTree → Reader ExprTree
  operands_at n item turns left = each kind (operators_of n) (operand_at (operator_at n) item) turns >>= (λ others. give (fold binary_of left others))

  module _ (unary : Reader ExprTree) where
    abbrev pub level_at : ℕ → Reader ExprTree
    level_at zero = unary
    level_at (suc n) = level_at n >>= (λ first ts. operands_at n (level_at n) (turns_of n ts) first ts)

    unfoldable pub expr_at : Reader ExprTree
    expr_at = level_at 5

    unfoldable pub arguments_at : Reader (List ExprTree)
    arguments_at = separated_at edition EXPR_STARTS expr_at

    unfoldable pub bracketed_at : Reader ExprTree
    bracketed_at = do
      sign_at s.LeftBracket
      key ← expr_at
      sign_at s.RightBracket
      give key

    unfoldable pub parenthesized_at : Reader ExprTree
    parenthesized_at = do
      sign_at s.LeftParen
      inner ← expr_at
      sign_at s.RightParen
      give inner

    -- behind a name: what a call, an ancestor's field, an index or a child's call goes on with
    unfoldable pub call_at : Name → Reader ExprTree
    call_at f = do
      found ← arguments_at
      give (e.Call f.at f.text (exprs_of found))

    unfoldable pub above_at : Name → Reader ExprTree
    above_at c = do
      f ← field_at edition
      choice kind (if_sign s.LeftBracket) (do key ← bracketed_at; give (e.AboveIndex c.at c.text f.text key)) (give (e.Above c.at c.text f.text))

    unfoldable pub child_call_at : Name → ExprTree → Reader ExprTree
    child_call_at c key = do
      f ← field_at edition
      found ← arguments_at
      give (e.ChildCall c.at c.text key f.text (exprs_of found))

    unfoldable pub index_at : Name → Reader ExprTree
    index_at m = do
      key ← bracketed_at
      choice kind (if_sign s.Dot) (child_call_at m key) (give (e.Index m.at m.text key))

    unfoldable pub named_at : Reader ExprTree
    named_at = do
      n ← name_at edition
      choice kind (if_sign s.LeftParen) (call_at n) (choice kind (if_sign s.Dot) (above_at n) (choice kind (if_sign s.LeftBracket) (index_at n) (give (e.Read n.at n.text))))

    unfoldable pub primary_at : Reader ExprTree
    primary_at = choice kind INITIALS literal_at (choice kind (if_sign s.LeftParen) parenthesized_at named_at)

    unfoldable pub signed_at : Reader ExprTree
    signed_at = do
      o ← unary_op_at
      operand ← unary
      give (e.Unary o.0 o.1 operand)

    unfoldable pub signed_or_primary_at : Reader ExprTree
    signed_or_primary_at = choice kind UNARY_OPS signed_at primary_at

  abbrev pub unary_at : ℕ → Reader ExprTree
  unary_at = nested_reader (λ _. signed_or_primary_at)

  module _ (n : ℕ) where
    unfoldable pub any_expr_at : Reader ExprTree
    any_expr_at = expr_at (unary_at n)

    unfoldable pub any_arguments_at : Reader (List ExprTree)
    any_arguments_at = arguments_at (unary_at n)

    unfoldable pub any_key_at : Reader ExprTree
    any_key_at = bracketed_at (unary_at n)

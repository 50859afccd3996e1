-- The grammar of expressions, from the loosest operators to what stands alone.
use Rattle.std.specs.Prelude.{List, fold, Option, Some, None}
use Rattle.mace_lexer.specs.declared.sign.Sign.TheVariants as s
use Rattle.mace_ast.specs.declared.name.Name.{Name}
use Rattle.mace_ast.specs.declared.expr.BinaryOp.{BinaryOp}
use Rattle.mace_ast.specs.Exprs as e
use Rattle.mace_ast.specs.Exprs.{ExprTree, exprs_of, place_of}
use Rattle.mace_grammar.specs.Part.{Part, pure, ◌>>=◌, ◌>>◌, ◌or◌, many, maybe, deep_part}
use Rattle.mace_grammar.specs.Words.{Edition, sign, name, literal, or_op, and_op, comparison_op, sum_op, product_op, operator, unary_op}
use Rattle.mace_grammar.specs.Grammar.Lists.{in_parens}

-- a left operand with an operator and a right one
abbrev pub binary_of : ExprTree → BinaryOp × ExprTree → ExprTree
binary_of left right = e.Binary (place_of left) right.0 left right.1

abbrev pub comparison_of : ExprTree → Option (BinaryOp × ExprTree) → ExprTree
comparison_of left None = left
comparison_of left (Some right) = binary_of left right

-- an operator and its right operand
abbrev pub operand : Part BinaryOp → Part ExprTree → Part (BinaryOp × ExprTree)
operand operator item = do
  o ← operator
  right ← item
  pure (o, right)

-- Item (operator Item)*, grouped to the left
abbrev pub chain : Part ExprTree → Part BinaryOp → Part ExprTree
chain item operator = do
  first ← item
  others ← many (operand operator item)
  pure (fold binary_of first others)

-- ---- what a version changes, and what is made of it

module _ (edition : Edition) where
  -- "." Name
  abbrev pub field : Part Name
  field = sign s.Dot >> name edition

  module _ (unary : Part ExprTree) where
    -- Prod = Unary (("*" | "/" | "%") Unary)*
    abbrev pub product : Part ExprTree
    product = chain unary (operator product_op)

    -- Sum = Prod (("+" | "-") Prod)*
    abbrev pub sum : Part ExprTree
    sum = chain product (operator sum_op)

    -- Cmp = Sum [("==" | "!=" | "<" | "<=" | ">" | ">=") Sum]
    abbrev pub comparison : Part ExprTree
    comparison = do
      left ← sum
      right ← maybe (operand (operator comparison_op) sum)
      pure (comparison_of left right)

    -- And = Cmp ("&&" Cmp)*
    abbrev pub conjunction : Part ExprTree
    conjunction = chain comparison (operator and_op)

    -- Expr = And ("||" And)*
    abbrev pub expr : Part ExprTree
    expr = chain conjunction (operator or_op)

    -- "(" Args ")", with Args = [Expr ("," Expr)*]
    abbrev pub arguments : Part (List ExprTree)
    arguments = in_parens expr

    -- "[" Expr "]"
    abbrev pub bracketed_expr : Part ExprTree
    bracketed_expr = do
      sign s.LeftBracket
      key ← expr
      sign s.RightBracket
      pure key

    -- "(" Expr ")"
    abbrev pub parenthesized_expr : Part ExprTree
    parenthesized_expr = do
      sign s.LeftParen
      inner ← expr
      sign s.RightParen
      pure inner

    -- Name
    abbrev pub read : Part ExprTree
    read = do
      n ← name edition
      pure (e.Read n.at n.text)

    -- Name "." Name
    abbrev pub above : Part ExprTree
    above = do
      c ← name edition
      f ← field
      pure (e.Above c.at c.text f.text)

    -- Name "(" Args ")"
    abbrev pub call : Part ExprTree
    call = do
      f ← name edition
      found ← arguments
      pure (e.Call f.at f.text (exprs_of found))

    -- Name "[" Expr "]"
    abbrev pub index : Part ExprTree
    index = do
      m ← name edition
      key ← bracketed_expr
      pure (e.Index m.at m.text key)

    -- Name "." Name "[" Expr "]"
    abbrev pub above_index : Part ExprTree
    above_index = do
      c ← name edition
      f ← field
      key ← bracketed_expr
      pure (e.AboveIndex c.at c.text f.text key)

    -- Name "[" Expr "]" "." Name "(" Args ")"
    abbrev pub child_call : Part ExprTree
    child_call = do
      c ← name edition
      key ← bracketed_expr
      f ← field
      found ← arguments
      pure (e.ChildCall c.at c.text key f.text (exprs_of found))

    -- Primary = Number | Text | "true" | "false" | "empty" | "(" Expr ")" | Name | Name "." Name | Name "(" Args ")" | Name "[" Expr "]"
    --         | Name "." Name "[" Expr "]" | Name "[" Expr "]" "." Name "(" Args ")"
    abbrev pub primary : Part ExprTree
    primary = literal or parenthesized_expr or read or above or call or index or above_index or child_call

    -- Unary = ("-" | "!") Unary | Primary
    abbrev pub signed_expr : Part ExprTree
    signed_expr = do
      o ← unary_op
      operand ← unary
      pure (e.Unary o.0 o.1 operand)

    abbrev pub signed_or_primary : Part ExprTree
    signed_or_primary = signed_expr or primary

  abbrev pub unary : Part ExprTree
  unary = deep_part signed_or_primary

  unfoldable pub any_expr : Part ExprTree
  any_expr = expr unary

  unfoldable pub any_arguments : Part (List ExprTree)
  any_arguments = arguments unary

  unfoldable pub any_key : Part ExprTree
  any_key = bracketed_expr unary

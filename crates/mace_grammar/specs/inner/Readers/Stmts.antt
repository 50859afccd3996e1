-- Readers of statements, with a depth for their expressions.
use Rattle.std.specs.Prelude.{ℕ, List, [], ◌∷◌, Option, Some, None}
use Rattle.wave_base.specs.declared.span.Span.{Span}
use Rattle.mace_lexer.specs.declared.token.Token.{Token}
use Rattle.mace_lexer.specs.declared.keyword.Keyword.TheVariants as k
use Rattle.mace_lexer.specs.declared.sign.Sign.TheVariants as s
use Rattle.mace_ast.specs.declared.name.Name.{Name}
use Rattle.mace_ast.specs.declared.stmt.Target.{Target}
use Rattle.mace_ast.specs.Exprs.{ExprTree}
use Rattle.mace_ast.specs.Stmts as st
use Rattle.mace_ast.specs.Stmts.{StmtTree, stmts_of, else_of}
use Rattle.mace_grammar.specs.declared.class.TheConstants.{EXPR_STARTS, STMT_STARTS}
use Rattle.mace_grammar.specs.declared.class.Class.{Class}
use Rattle.mace_grammar.specs.declared.class.Class.TheVariants as class
use Rattle.mace_grammar.specs.inner.Classes as classes
use Rattle.mace_grammar.specs.Words.{Edition}
use Rattle.mace_grammar.specs.Grammar.{target}
use Rattle.mace_grammar.specs.inner.Run.{Reader, ◌>>=◌, ◌>>◌, give, choice, each_of, some, nested_reader}
use Rattle.mace_grammar.specs.inner.Readers.Tokens.{key_at, sign_at, text_at, if_sign, if_key, name_at, leave_at, finish_at, field_at}
use Rattle.mace_grammar.specs.inner.Readers.Exprs.{any_expr_at, any_arguments_at, any_key_at}

module _ (edition : Edition) where
  abbrev kind : Token → Class
  kind = classes.kind edition

  module _ (stmt : Reader StmtTree) where
    unfoldable pub stmts_in : Reader (List StmtTree)
    stmts_in = each_of kind STMT_STARTS stmt

    unfoldable pub block_at : Reader (List StmtTree)
    block_at = do
      sign_at s.LeftBrace
      found ← stmts_in
      sign_at s.RightBrace
      give found

  unfoldable pub else_at : Reader (List StmtTree) → Reader (Option (List StmtTree))
  else_at block = choice kind (if_key k.Else) (some (key_at k.Else >> block)) (give None)

  abbrev pub maybe_field_at : Reader (Option Name)
  maybe_field_at = choice kind (if_sign s.Dot) (some (field_at edition)) (give None)

  module _ (n : ℕ) where
    unfoldable pub let_at : Reader StmtTree
    let_at = do
      at ← key_at k.Let
      x ← name_at edition
      sign_at s.Equals
      value ← any_expr_at edition n
      sign_at s.Semicolon
      give (st.Let at x value)

    unfoldable pub require_at : Reader StmtTree
    require_at = do
      at ← key_at k.Require
      test ← any_expr_at edition n
      sign_at s.Semicolon
      give (st.Require at test)

    unfoldable pub send_at : Reader StmtTree
    send_at = do
      at ← key_at k.Send
      label ← text_at
      sign_at s.Comma
      value ← any_expr_at edition n
      sign_at s.Semicolon
      give (st.Send at label value)

    unfoldable pub spawn_at : Reader StmtTree
    spawn_at = do
      at ← key_at k.Spawn
      x ← name_at edition
      found ← any_arguments_at edition n
      sign_at s.Semicolon
      give (st.Spawn at x.text found)

    unfoldable pub drop_at : Reader StmtTree
    drop_at = do
      at ← key_at k.Drop
      x ← name_at edition
      field ← maybe_field_at
      place ← any_key_at edition n
      sign_at s.Semicolon
      give (st.Cut at (target x field) place)

    abbrev pub maybe_key_at : Reader (Option ExprTree)
    maybe_key_at = choice kind (if_sign s.LeftBracket) (some (any_key_at edition n)) (give None)

    -- behind what is set: its value
    unfoldable pub set_at : Span → Target → Option ExprTree → Reader StmtTree
    set_at at x place = do
      sign_at s.Equals
      value ← any_expr_at edition n
      sign_at s.Semicolon
      give (st.Set at x place value)

    unfoldable pub call_stmt_at : Name → Reader StmtTree
    call_stmt_at f = do
      found ← any_arguments_at edition n
      sign_at s.Semicolon
      give (st.Call f.at f.text found)

    unfoldable pub child_stmt_at : Name → ExprTree → Reader StmtTree
    child_stmt_at c place = do
      f ← field_at edition
      found ← any_arguments_at edition n
      sign_at s.Semicolon
      give (st.ChildCall c.at c.text place f.text found)

    unfoldable pub above_stmt_at : Name → Reader StmtTree
    above_stmt_at c = do
      f ← field_at edition
      place ← maybe_key_at
      set_at c.at (target c (Some f)) place

    unfoldable pub index_stmt_at : Name → Reader StmtTree
    index_stmt_at x = do
      place ← any_key_at edition n
      choice kind (if_sign s.Dot) (child_stmt_at x place) (set_at x.at (target x None) (Some place))

    unfoldable pub named_stmt_at : Reader StmtTree
    named_stmt_at = do
      x ← name_at edition
      choice kind (if_sign s.Dot) (above_stmt_at x) (choice kind (if_sign s.LeftBracket) (index_stmt_at x) (choice kind (if_sign s.LeftParen) (call_stmt_at x) (set_at x.at (target x None) None)))

    unfoldable pub simple_stmt_at : Reader StmtTree
    simple_stmt_at = choice kind (if_key k.Require) require_at (choice kind (if_key k.Send) send_at (choice kind (if_key k.Spawn) spawn_at (choice kind (if_key k.Drop) drop_at named_stmt_at)))

    abbrev pub maybe_expr_at : Reader (Option ExprTree)
    maybe_expr_at = choice kind EXPR_STARTS (some (any_expr_at edition n)) (give None)

    unfoldable pub return_at : Reader StmtTree
    return_at = do
      at ← leave_at edition
      value ← maybe_expr_at
      sign_at s.Semicolon
      give (st.Return at value)

    unfoldable pub finish_stmt_at : Reader StmtTree
    finish_stmt_at = do
      at ← finish_at edition
      value ← maybe_expr_at
      sign_at s.Semicolon
      give (st.Finish at value)

    -- one that ends a method or an event early, or the rest
    unfoldable pub ending_at : Reader StmtTree
    ending_at = choice kind (class.Leave ∷ []) return_at (choice kind (class.Finish ∷ []) finish_stmt_at simple_stmt_at)

    module _ (stmt : Reader StmtTree) where
      unfoldable pub if_at : Reader StmtTree
      if_at = do
        at ← key_at k.If
        test ← any_expr_at edition n
        body ← block_at stmt
        other ← else_at (block_at stmt)
        give (st.If at test (stmts_of body) (else_of other))

      unfoldable pub while_at : Reader StmtTree
      while_at = do
        at ← key_at k.While
        test ← any_expr_at edition n
        body ← block_at stmt
        give (st.While at test (stmts_of body))

      unfoldable pub for_at : Reader StmtTree
      for_at = do
        at ← key_at k.For
        x ← name_at edition
        key_at k.In
        low ← any_expr_at edition n
        key_at k.To
        high ← any_expr_at edition n
        body ← block_at stmt
        give (st.For at x low high (stmts_of body))

      -- a block comes with "if", "while" and "for"
      unfoldable pub any_stmt_at : Reader StmtTree
      any_stmt_at = choice kind (if_key k.Let) let_at (choice kind (if_key k.If) if_at (choice kind (if_key k.While) while_at (choice kind (if_key k.For) for_at ending_at)))

  abbrev pub stmt_at : ℕ → Reader StmtTree
  stmt_at = nested_reader any_stmt_at

  unfoldable pub stmts_at : ℕ → Reader (List StmtTree)
  stmts_at n = stmts_in (stmt_at n)

  unfoldable pub any_block_at : ℕ → Reader (List StmtTree)
  any_block_at n = block_at (stmt_at n)

-- The grammar of statements.
use Rattle.std.specs.Prelude.{List, Option, Some, None}
use Rattle.mace_lexer.specs.declared.keyword.Keyword.TheVariants as k
use Rattle.mace_lexer.specs.declared.sign.Sign.TheVariants as s
use Rattle.mace_ast.specs.declared.name.Name.{Name}
use Rattle.mace_ast.specs.declared.stmt.Target.{Target}
use Rattle.mace_ast.specs.Stmts as st
use Rattle.mace_ast.specs.Stmts.{StmtTree, stmts_of, else_of}
use Rattle.mace_grammar.specs.Part.{Part, pure, ◌>>=◌, ◌>>◌, ◌or◌, many, maybe, deep_part}
use Rattle.mace_grammar.specs.Words.{Edition, key, sign, name, leave, finish, text}
use Rattle.mace_grammar.specs.Grammar.Exprs.{any_expr, any_arguments, any_key, field}

-- x, or C.f with its class above
abbrev pub target : Name → Option Name → Target
target x None = record { above = None; name = x.text }
target c (Some f) = record { above = Some c.text; name = f.text }

module _ (edition : Edition) where
  -- "let" Name "=" Expr ";"
  abbrev pub let_stmt : Part StmtTree
  let_stmt = do
    at ← key k.Let
    n ← name edition
    sign s.Equals
    value ← any_expr edition
    sign s.Semicolon
    pure (st.Let at n value)

  -- "require" Expr ";"
  abbrev pub require_stmt : Part StmtTree
  require_stmt = do
    at ← key k.Require
    test ← any_expr edition
    sign s.Semicolon
    pure (st.Require at test)

  -- "send" Text "," Expr ";"
  abbrev pub send_stmt : Part StmtTree
  send_stmt = do
    at ← key k.Send
    label ← text
    sign s.Comma
    value ← any_expr edition
    sign s.Semicolon
    pure (st.Send at label value)

  -- "spawn" Name "(" Args ")" ";"
  abbrev pub spawn_stmt : Part StmtTree
  spawn_stmt = do
    at ← key k.Spawn
    n ← name edition
    found ← any_arguments edition
    sign s.Semicolon
    pure (st.Spawn at n.text found)

  -- "drop" Name ["." Name] "[" Expr "]" ";"
  abbrev pub drop_stmt : Part StmtTree
  drop_stmt = do
    at ← key k.Drop
    n ← name edition
    inner ← maybe (field edition)
    place ← any_key edition
    sign s.Semicolon
    pure (st.Cut at (target n inner) place)

  -- Name ["." Name] ["[" Expr "]"] "=" Expr ";"
  abbrev pub set_stmt : Part StmtTree
  set_stmt = do
    n ← name edition
    inner ← maybe (field edition)
    place ← maybe (any_key edition)
    sign s.Equals
    value ← any_expr edition
    sign s.Semicolon
    pure (st.Set n.at (target n inner) place value)

  -- Name "(" Args ")" ";"
  abbrev pub call_stmt : Part StmtTree
  call_stmt = do
    f ← name edition
    found ← any_arguments edition
    sign s.Semicolon
    pure (st.Call f.at f.text found)

  -- Name "[" Expr "]" "." Name "(" Args ")" ";"
  abbrev pub child_call_stmt : Part StmtTree
  child_call_stmt = do
    c ← name edition
    place ← any_key edition
    f ← field edition
    found ← any_arguments edition
    sign s.Semicolon
    pure (st.ChildCall c.at c.text place f.text found)

  -- "return" [Expr] ";"
  abbrev pub return_stmt : Part StmtTree
  return_stmt = do
    at ← leave edition
    value ← maybe (any_expr edition)
    sign s.Semicolon
    pure (st.Return at value)

  -- "finish" [Expr] ";"
  abbrev pub finish_stmt : Part StmtTree
  finish_stmt = do
    at ← finish edition
    value ← maybe (any_expr edition)
    sign s.Semicolon
    pure (st.Finish at value)

  module _ (stmt : Part StmtTree) where
    -- Block = "{" Stmt* "}"
    abbrev pub block : Part (List StmtTree)
    block = do
      sign s.LeftBrace
      found ← many stmt
      sign s.RightBrace
      pure found

    -- "if" Expr Block ["else" Block]
    abbrev pub if_stmt : Part StmtTree
    if_stmt = do
      at ← key k.If
      test ← any_expr edition
      body ← block
      other ← maybe (key k.Else >> block)
      pure (st.If at test (stmts_of body) (else_of other))

    -- "while" Expr Block
    abbrev pub while_stmt : Part StmtTree
    while_stmt = do
      at ← key k.While
      test ← any_expr edition
      body ← block
      pure (st.While at test (stmts_of body))

    -- "for" Name "in" Expr "to" Expr Block
    abbrev pub for_stmt : Part StmtTree
    for_stmt = do
      at ← key k.For
      n ← name edition
      key k.In
      low ← any_expr edition
      key k.To
      high ← any_expr edition
      body ← block
      pure (st.For at n low high (stmts_of body))

    abbrev pub any_stmt : Part StmtTree
    any_stmt = let_stmt or if_stmt or while_stmt or for_stmt or return_stmt or finish_stmt or require_stmt or send_stmt or spawn_stmt or drop_stmt or set_stmt or call_stmt or child_call_stmt

  abbrev pub stmt : Part StmtTree
  stmt = deep_part any_stmt

  unfoldable pub stmts : Part (List StmtTree)
  stmts = many stmt

  unfoldable pub any_block : Part (List StmtTree)
  any_block = block stmt

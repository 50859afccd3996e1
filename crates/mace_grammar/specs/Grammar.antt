-- The grammar, a production each: fields, methods, events, contexts and the service. Expressions and statements have files of their own.
pub mod Lists
pub mod Exprs
pub mod Stmts
unfoldable pub use Rattle.mace_grammar.specs.Grammar.Lists.{comma_list, in_parens}
unfoldable pub use Rattle.mace_grammar.specs.Grammar.Exprs.{binary_of, comparison_of, operand, chain, field, product, sum, comparison, conjunction, expr, arguments, bracketed_expr, parenthesized_expr, read, above, call, index, above_index, child_call, primary, signed_expr, signed_or_primary, unary, any_expr, any_arguments, any_key}
unfoldable pub use Rattle.mace_grammar.specs.Grammar.Stmts.{target, let_stmt, require_stmt, send_stmt, spawn_stmt, drop_stmt, set_stmt, call_stmt, child_call_stmt, return_stmt, finish_stmt, block, if_stmt, while_stmt, for_stmt, any_stmt, stmt, stmts, any_block}
use Rattle.std.specs.Prelude.{List, Option}
use Rattle.wave_base.specs.declared.span.Span.{Span}
use Rattle.wave_base.specs.declared.value.Kind.{Kind}
use Rattle.wave_base.specs.declared.version.Version.{Version}
use Rattle.mace_lexer.specs.declared.keyword.Keyword.TheVariants as k
use Rattle.mace_lexer.specs.declared.sign.Sign.TheVariants as s
use Rattle.mace_ast.specs.declared.name.Name.{Name}
use Rattle.mace_ast.specs.declared.field.VarDecl.{VarDecl}
use Rattle.mace_ast.specs.declared.field.Initial.{Initial}
use Rattle.mace_ast.specs.declared.field.Literal.TheVariants as lit
use Rattle.mace_ast.specs.declared.method.Param.{Param}
use Rattle.mace_ast.specs.Decls.{LastTree, MethodTree, PhaseTree, EventTree, ContextTree, Context, contexts_of, ServiceTree}
use Rattle.mace_grammar.specs.Part.{Part, pure, one, ◌>>=◌, ◌>>◌, ◌or◌, many, maybe, deep_part}
use Rattle.mace_grammar.specs.Words.{Edition, first, edition_of, version_number, key, sign, name, end, number, type, initial_word}

-- Initial = Number | "-" Number | Text | "true" | "false" | "empty"
abbrev pub minus_number : Part Initial
minus_number = do
  at ← sign s.Minus
  n ← number
  pure (record { at = at; value = lit.Minus n })

abbrev pub initial : Part Initial
initial = one (λ t. initial_word t.span t.word) or minus_number

-- [":" Type]
abbrev pub result : Part (Option Kind)
result = maybe (sign s.Colon >> type)

module _ (edition : Edition) where
  -- ---- fields

  -- Var = "var" Name ":" Type "=" Initial ";"
  abbrev pub var : Part VarDecl
  var = do
    at ← key k.Var
    n ← name edition
    sign s.Colon
    kind ← type
    sign s.Equals
    value ← initial
    sign s.Semicolon
    pure (record { at = at; name = n; kind = kind; initial = value })

  -- ---- methods and events

  abbrev pub param : Part Param
  param = do
    n ← name edition
    sign s.Colon
    kind ← type
    pure (record { name = n; kind = kind })

  -- "(" Params ")", with Params = [Name ":" Type ("," Name ":" Type)*]
  abbrev pub params : Part (List Param)
  params = in_parens param

  -- "return" Expr ";", and the same with "reply"
  abbrev pub last : Part Span → Part LastTree
  last keyword = do
    at ← keyword
    value ← any_expr edition
    sign s.Semicolon
    pure (record { at = at; value = value })

  -- Method = "method" Name "(" Params ")" [":" Type] "{" Stmt* ["return" Expr ";"] "}", and in version 2 without that `return`
  abbrev pub method : Part MethodTree
  method = do
    at ← key k.Method
    n ← name edition
    ps ← params
    kind ← result
    sign s.LeftBrace
    body ← stmts edition
    end ← maybe (last (end edition))
    sign s.RightBrace
    pure (record { at = at; name = n; params = ps; result = kind; body = body; last = end })

  -- Down = "down" Name "[" Expr "]" Block
  abbrev pub down : Part PhaseTree
  down = do
    at ← key k.Down
    c ← name edition
    place ← any_key edition
    body ← any_block edition
    pure (record { at = at; class = c.text; key = place; body = body })

  -- Event = "event" Name "(" Params ")" [":" Type] "{" ["here" Block] Down* ["reply" Expr ";"] "}"
  abbrev pub event : Part EventTree
  event = do
    at ← key k.Event
    n ← name edition
    ps ← params
    kind ← result
    sign s.LeftBrace
    here ← maybe (key k.Here >> any_block edition)
    phases ← many down
    end ← maybe (last (key k.Reply))
    sign s.RightBrace
    pure (record { at = at; name = n; params = ps; result = kind; here = here; phases = phases; last = end })

  -- ---- contexts and the service

  -- Context = "context" Name "[" "int" "]" "{" Var* Context* Method* "}"
  abbrev pub one_context : Part ContextTree → Part ContextTree
  one_context context = do
    at ← key k.Context
    n ← name edition
    sign s.LeftBracket
    key k.Int
    sign s.RightBracket
    sign s.LeftBrace
    vars ← many var
    contexts ← many context
    methods ← many method
    sign s.RightBrace
    pure (Context at n vars (contexts_of contexts) methods)

  abbrev pub context : Part ContextTree
  context = deep_part one_context

-- "{" Var* Context* Method* Event* "}", in this version
unfoldable pub members : Version → Span → Name → Part ServiceTree
members version at n = do
  sign s.LeftBrace
  vars ← many (var (edition_of version))
  contexts ← many (context (edition_of version))
  methods ← many (method (edition_of version))
  events ← many (event (edition_of version))
  sign s.RightBrace
  pure (record { at = at; name = n; version = version; vars = vars; contexts = contexts; methods = methods; events = events })

-- Service = "service" Name ["2"] "{" Var* Context* Method* Event* "}" End: what stands behind the number is read by it
unfoldable pub service : Part ServiceTree
service = do
  at ← key k.Service
  n ← name first
  version ← version_number
  members version at n

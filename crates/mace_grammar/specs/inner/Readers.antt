-- A reader for each production: fields, methods, events, contexts and the service. Tokens, expressions and statements have files of their own.
pub mod Tokens
pub mod Exprs
pub mod Stmts
unfoldable pub use Rattle.mace_grammar.specs.inner.Readers.Tokens.{key_at, sign_at, number_at, text_at, type_at, if_sign, if_key, name_at, leave_at, finish_at, next_at, list_at, separated_at, field_at}
unfoldable pub use Rattle.mace_grammar.specs.inner.Readers.Exprs.{literal_at, unary_op_at, operators_of, op_of, operator_at, turns_of, operand_at, operands_at, level_at, expr_at, arguments_at, bracketed_at, parenthesized_at, call_at, above_at, child_call_at, index_at, named_at, primary_at, signed_at, signed_or_primary_at, unary_at, any_expr_at, any_arguments_at, any_key_at}
unfoldable pub use Rattle.mace_grammar.specs.inner.Readers.Stmts.{stmts_in, block_at, else_at, maybe_field_at, let_at, require_at, send_at, spawn_at, drop_at, maybe_key_at, set_at, call_stmt_at, child_stmt_at, above_stmt_at, index_stmt_at, named_stmt_at, simple_stmt_at, maybe_expr_at, return_at, finish_stmt_at, ending_at, if_at, while_at, for_at, any_stmt_at, stmt_at, stmts_at, any_block_at}
use Rattle.std.specs.Prelude.{ℕ, List, [], ◌∷◌, unwrap_or, Option, None}
use Rattle.wave_base.specs.declared.span.Span.{Span}
use Rattle.wave_base.specs.declared.value.Kind.{Kind}
use Rattle.wave_base.specs.declared.version.Version.{Version}
use Rattle.wave_base.specs.declared.version.Version.TheVariants.{First}
use Rattle.mace_lexer.specs.declared.token.Token.{Token}
use Rattle.mace_lexer.specs.declared.keyword.Keyword.{Keyword}
use Rattle.mace_lexer.specs.declared.keyword.Keyword.TheVariants as k
use Rattle.mace_lexer.specs.declared.sign.Sign.TheVariants as s
use Rattle.mace_ast.specs.declared.name.Name.{Name}
use Rattle.mace_ast.specs.declared.field.VarDecl.{VarDecl}
use Rattle.mace_ast.specs.declared.field.Initial.{Initial}
use Rattle.mace_ast.specs.declared.field.Literal.TheVariants as literal
use Rattle.mace_ast.specs.declared.method.Param.{Param}
use Rattle.mace_ast.specs.Stmts.{StmtTree}
use Rattle.mace_ast.specs.Decls.{LastTree, MethodTree, PhaseTree, EventTree, ContextTree, Context, contexts_of, ServiceTree}
use Rattle.mace_grammar.specs.declared.class.TheConstants.{INITIALS}
use Rattle.mace_grammar.specs.declared.class.Class.{Class}
use Rattle.mace_grammar.specs.declared.class.Class.TheVariants as class
use Rattle.mace_grammar.specs.inner.Classes as classes
use Rattle.mace_grammar.specs.Words.{Edition, first, edition_of, two_word, initial_word}
use Rattle.mace_grammar.specs.inner.Run.{Reader, ◌>>=◌, ◌>>◌, give, word, choice, each_of, some, nested_reader}

unfoldable pub minus_number_at : Reader Initial
minus_number_at = do
  at ← sign_at s.Minus
  n ← number_at
  give (record { at = at; value = literal.Minus n })

abbrev pub literal_initial_at : Reader Initial
literal_initial_at = word (λ t. initial_word t.span t.word)

module _ (edition : Edition) where
  abbrev kind : Token → Class
  kind = classes.kind edition

  -- ---- fields

  unfoldable pub initial_at : Reader Initial
  initial_at = choice kind INITIALS literal_initial_at minus_number_at

  unfoldable pub var_at : Reader VarDecl
  var_at = do
    at ← key_at k.Var
    n ← name_at edition
    sign_at s.Colon
    kind' ← type_at
    sign_at s.Equals
    value ← initial_at
    sign_at s.Semicolon
    give (record { at = at; name = n; kind = kind'; initial = value })

  -- ---- methods and events

  unfoldable pub param_at : Reader Param
  param_at = do
    n ← name_at edition
    sign_at s.Colon
    kind' ← type_at
    give (record { name = n; kind = kind' })

  unfoldable pub params_at : Reader (List Param)
  params_at = separated_at edition (class.Name ∷ []) param_at

  unfoldable pub result_at : Reader (Option Kind)
  result_at = choice kind (if_sign s.Colon) (some (sign_at s.Colon >> type_at)) (give None)

  unfoldable pub last_at : Reader Span → ℕ → Reader LastTree
  last_at keyword n = do
    at ← keyword
    value ← any_expr_at edition n
    sign_at s.Semicolon
    give (record { at = at; value = value })

  -- where `return` begins a statement it has another class, and ends no method
  unfoldable pub maybe_last_at : Keyword → ℕ → Reader (Option LastTree)
  maybe_last_at want n = choice kind (if_key want) (some (last_at (key_at want) n)) (give None)

  unfoldable pub method_at : ℕ → Reader MethodTree
  method_at n = do
    at ← key_at k.Method
    x ← name_at edition
    ps ← params_at
    kind' ← result_at
    sign_at s.LeftBrace
    body ← stmts_at edition n
    end ← maybe_last_at k.Return n
    sign_at s.RightBrace
    give (record { at = at; name = x; params = ps; result = kind'; body = body; last = end })

  unfoldable pub down_at : ℕ → Reader PhaseTree
  down_at n = do
    at ← key_at k.Down
    c ← name_at edition
    place ← any_key_at edition n
    body ← any_block_at edition n
    give (record { at = at; class = c.text; key = place; body = body })

  unfoldable pub here_at : ℕ → Reader (Option (List StmtTree))
  here_at n = choice kind (if_key k.Here) (some (key_at k.Here >> any_block_at edition n)) (give None)

  unfoldable pub phases_at : ℕ → Reader (List PhaseTree)
  phases_at n = each_of kind (if_key k.Down) (down_at n)

  unfoldable pub event_at : ℕ → Reader EventTree
  event_at n = do
    at ← key_at k.Event
    x ← name_at edition
    ps ← params_at
    kind' ← result_at
    sign_at s.LeftBrace
    here ← here_at n
    phases ← phases_at n
    end ← maybe_last_at k.Reply n
    sign_at s.RightBrace
    give (record { at = at; name = x; params = ps; result = kind'; here = here; phases = phases; last = end })

  unfoldable pub events_at : ℕ → Reader (List EventTree)
  events_at n = each_of kind (if_key k.Event) (event_at n)

  -- ---- contexts and the service

  unfoldable pub vars_at : Reader (List VarDecl)
  vars_at = each_of kind (if_key k.Var) var_at

  unfoldable pub methods_at : ℕ → Reader (List MethodTree)
  methods_at n = each_of kind (if_key k.Method) (method_at n)

  unfoldable pub contexts_in : Reader ContextTree → Reader (List ContextTree)
  contexts_in context = each_of kind (if_key k.Context) context

  unfoldable pub one_context_at : ℕ → Reader ContextTree → Reader ContextTree
  one_context_at n context = do
    at ← key_at k.Context
    x ← name_at edition
    sign_at s.LeftBracket
    key_at k.Int
    sign_at s.RightBracket
    sign_at s.LeftBrace
    vars ← vars_at
    contexts ← contexts_in context
    methods ← methods_at n
    sign_at s.RightBrace
    give (Context at x vars (contexts_of contexts) methods)

  abbrev pub context_at : ℕ → Reader ContextTree
  context_at = nested_reader one_context_at

-- the number of the version
abbrev pub two_at : Reader Version
two_at = word (λ t. two_word t.word)

unfoldable pub version_at : Reader Version
version_at = choice (classes.kind first) (class.Number ∷ []) (some two_at) (give None) >>= (λ number. give (unwrap_or number First))

unfoldable pub members_at : ℕ → Version → Span → Name → Reader ServiceTree
members_at n version at x = do
  sign_at s.LeftBrace
  vars ← vars_at (edition_of version)
  contexts ← contexts_in (edition_of version) (context_at (edition_of version) n)
  methods ← methods_at (edition_of version) n
  events ← events_at (edition_of version) n
  sign_at s.RightBrace
  give (record { at = at; name = x; version = version; vars = vars; contexts = contexts; methods = methods; events = events })

unfoldable pub service_at : ℕ → Reader ServiceTree
service_at n = do
  at ← key_at k.Service
  x ← name_at first
  version ← version_at
  members_at n version at x

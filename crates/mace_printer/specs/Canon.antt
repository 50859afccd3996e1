-- The canonical words of a tree: its tokens in order, with parentheses only where the grammar needs them.
use Rattle.std.specs.Prelude.{ℕ, ℤ, pos, codes, ◌+◌, Bool, true, false, nat_lt, List, [], ◌∷◌, ◌++◌, Option, Some, None}
use Rattle.wave_base.specs.declared.value.Kind.{Kind}
use Rattle.wave_base.specs.declared.value.Kind.TheVariants as kind
use Rattle.wave_base.specs.declared.version.Version.{Version}
use Rattle.wave_base.specs.declared.version.Version.TheVariants.{First, Second}
use Rattle.mace_lexer.specs.declared.token.Word.{Word}
use Rattle.mace_lexer.specs.declared.token.Word.TheVariants as word
use Rattle.mace_lexer.specs.declared.keyword.Keyword.{Keyword}
use Rattle.mace_lexer.specs.declared.keyword.Keyword.TheVariants as k
use Rattle.mace_lexer.specs.declared.sign.Sign.{Sign}
use Rattle.mace_lexer.specs.declared.sign.Sign.TheVariants as s
use Rattle.mace_ast.specs.declared.field.VarDecl.{VarDecl}
use Rattle.mace_ast.specs.declared.field.Literal.{Literal}
use Rattle.mace_ast.specs.declared.field.Literal.TheVariants as lit
use Rattle.mace_ast.specs.declared.method.Param.{Param}
use Rattle.mace_ast.specs.declared.stmt.Target.{Target}
use Rattle.mace_ast.specs.declared.expr.UnaryOp.{UnaryOp}
use Rattle.mace_ast.specs.declared.expr.UnaryOp.TheVariants as unary
use Rattle.mace_ast.specs.declared.expr.BinaryOp.{BinaryOp}
use Rattle.mace_ast.specs.declared.expr.BinaryOp.TheVariants as op
use Rattle.mace_ast.specs.Exprs as e
use Rattle.mace_ast.specs.Exprs.{ExprTree, ExprTrees, no_exprs, expr_and}
use Rattle.mace_ast.specs.Stmts as st
use Rattle.mace_ast.specs.Stmts.{StmtTree, StmtTrees, ElseTree, no_stmts, stmt_and, no_else, otherwise}
use Rattle.mace_ast.specs.Decls.{LastTree, MethodTree, PhaseTree, EventTree, ContextTree, ContextTrees, Context, no_contexts, context_and, ServiceTree}

-- words, and then more words
infixr 10 ◌⧺◌
abbrev pub ◌⧺◌ : List Word → List Word → List Word
us ⧺ vs = us ++ vs

-- ---- one word

abbrev pub key : Keyword → List Word
key want = word.Key want ∷ []

abbrev pub sign : Sign → List Word
sign want = word.Sign want ∷ []

abbrev pub name : List ℕ → List Word
name text = word.Name text ∷ []

abbrev pub number : ℤ → List Word
number n = word.Number n ∷ []

abbrev pub text : List ℕ → List Word
text bytes = word.Text bytes ∷ []

abbrev pub boolean_key : Bool → Keyword
boolean_key true = k.True
boolean_key false = k.False

abbrev pub kind_key : Kind → Keyword
kind_key kind.Int = k.Int
kind_key kind.Bool = k.Bool
kind_key kind.Text = k.Text
kind_key kind.Map = k.Map

-- ---- lists

-- one behind the other
abbrev pub all_of : {X : Type 0} → (X → List Word) → List X → List Word
all_of words [] = []
all_of words (x ∷ xs) = words x ⧺ all_of words xs

-- each with a comma before it
abbrev pub further_words : {X : Type 0} → (X → List Word) → List X → List Word
further_words words [] = []
further_words words (x ∷ xs) = sign s.Comma ⧺ words x ⧺ further_words words xs

-- with commas between them
abbrev pub listed_words : {X : Type 0} → (X → List Word) → List X → List Word
listed_words words [] = []
listed_words words (x ∷ xs) = words x ⧺ further_words words xs

-- ---- fields

abbrev pub minus_words : ℤ → List Word
minus_words n = sign s.Minus ⧺ number n

abbrev pub literal_words : Literal → List Word
literal_words (lit.Number n) = number n
literal_words (lit.Minus n) = minus_words n
literal_words (lit.Text bytes) = text bytes
literal_words (lit.Bool b) = key (boolean_key b)
literal_words lit.Empty = key k.Empty

abbrev pub var_words : VarDecl → List Word
var_words v = key k.Var ⧺ name v.name.text ⧺ sign s.Colon ⧺ key (kind_key v.kind) ⧺ sign s.Equals ⧺ literal_words v.initial.value ⧺ sign s.Semicolon

-- ---- expressions

-- the levels of the grammar: 0 Expr, 1 And, 2 Cmp, 3 Sum, 4 Prod, 5 Unary
abbrev pub level_of : BinaryOp → ℕ
level_of op.Or = 0
level_of op.And = 1
level_of op.Eq = 2
level_of op.Ne = 2
level_of op.Lt = 2
level_of op.Le = 2
level_of op.Gt = 2
level_of op.Ge = 2
level_of op.Add = 3
level_of op.Sub = 3
level_of op.Mul = 4
level_of op.Div = 4
level_of op.Rem = 4

-- the level of the left operand: a chain is grouped to the left, and comparisons don't chain
abbrev pub left_level_of : BinaryOp → ℕ
left_level_of op.Or = 0
left_level_of op.And = 1
left_level_of op.Eq = 3
left_level_of op.Ne = 3
left_level_of op.Lt = 3
left_level_of op.Le = 3
left_level_of op.Gt = 3
left_level_of op.Ge = 3
left_level_of op.Add = 3
left_level_of op.Sub = 3
left_level_of op.Mul = 4
left_level_of op.Div = 4
left_level_of op.Rem = 4

abbrev pub sign_of : BinaryOp → Sign
sign_of op.Or = s.OrOr
sign_of op.And = s.AndAnd
sign_of op.Eq = s.EqualsEquals
sign_of op.Ne = s.BangEquals
sign_of op.Lt = s.Less
sign_of op.Le = s.LessEquals
sign_of op.Gt = s.Greater
sign_of op.Ge = s.GreaterEquals
sign_of op.Add = s.Plus
sign_of op.Sub = s.Minus
sign_of op.Mul = s.Star
sign_of op.Div = s.Slash
sign_of op.Rem = s.Percent

abbrev pub unary_sign_of : UnaryOp → Sign
unary_sign_of unary.Neg = s.Minus
unary_sign_of unary.Not = s.Bang

abbrev pub in_parens : Bool → List Word → List Word
in_parens true ws = sign s.LeftParen ⧺ ws ⧺ sign s.RightParen
in_parens false ws = ws

-- where an expression of this level is wanted
abbrev mutual
  pub expr_words : ExprTree → ℕ → List Word
  expr_words (e.Number at n) l = number n
  expr_words (e.Text at bytes) l = text bytes
  expr_words (e.Boolean at b) l = key (boolean_key b)
  expr_words (e.Empty at) l = key k.Empty
  expr_words (e.Read at x) l = name x
  expr_words (e.Above at c x) l = name c ⧺ sign s.Dot ⧺ name x
  expr_words (e.Index at x place) l = name x ⧺ sign s.LeftBracket ⧺ expr_words place 0 ⧺ sign s.RightBracket
  expr_words (e.AboveIndex at c x place) l = name c ⧺ sign s.Dot ⧺ name x ⧺ sign s.LeftBracket ⧺ expr_words place 0 ⧺ sign s.RightBracket
  expr_words (e.Call at f args) l = name f ⧺ sign s.LeftParen ⧺ args_words args ⧺ sign s.RightParen
  expr_words (e.ChildCall at c place f args) l = name c ⧺ sign s.LeftBracket ⧺ expr_words place 0 ⧺ sign s.RightBracket ⧺ sign s.Dot ⧺ name f ⧺ sign s.LeftParen ⧺ args_words args ⧺ sign s.RightParen
  expr_words (e.Unary at o operand) l = sign (unary_sign_of o) ⧺ expr_words operand 5
  expr_words (e.Binary at o left right) l = in_parens (nat_lt (level_of o) l) (expr_words left (left_level_of o) ⧺ sign (sign_of o) ⧺ expr_words right (level_of o + 1))

  -- with commas between them
  pub args_words : ExprTrees → List Word
  args_words no_exprs = []
  args_words (expr_and a others) = expr_words a 0 ⧺ more_words others

  pub more_words : ExprTrees → List Word
  more_words no_exprs = []
  more_words (expr_and a others) = sign s.Comma ⧺ expr_words a 0 ⧺ more_words others

abbrev pub whole_words : ExprTree → List Word
whole_words t = expr_words t 0

abbrev pub index_words : ExprTree → List Word
index_words place = sign s.LeftBracket ⧺ whole_words place ⧺ sign s.RightBracket

-- ---- statements

abbrev pub call_words : List ℕ → List ExprTree → List Word
call_words f args = name f ⧺ sign s.LeftParen ⧺ listed_words whole_words args ⧺ sign s.RightParen

abbrev pub maybe_above : Option (List ℕ) → List Word
maybe_above None = []
maybe_above (Some c) = name c ⧺ sign s.Dot

abbrev pub target_words : Target → List Word
target_words x = maybe_above x.above ⧺ name x.name

abbrev pub maybe_index : Option ExprTree → List Word
maybe_index None = []
maybe_index (Some place) = index_words place

abbrev pub maybe_words : Option ExprTree → List Word
maybe_words None = []
maybe_words (Some value) = whole_words value

abbrev mutual
  pub stmt_words : StmtTree → List Word
  stmt_words (st.Let at x value) = key k.Let ⧺ name x.text ⧺ sign s.Equals ⧺ whole_words value ⧺ sign s.Semicolon
  stmt_words (st.If at test body other) = key k.If ⧺ whole_words test ⧺ sign s.LeftBrace ⧺ stmts_words body ⧺ sign s.RightBrace ⧺ else_words other
  stmt_words (st.While at test body) = key k.While ⧺ whole_words test ⧺ sign s.LeftBrace ⧺ stmts_words body ⧺ sign s.RightBrace
  stmt_words (st.For at x low high body) = key k.For ⧺ name x.text ⧺ key k.In ⧺ whole_words low ⧺ key k.To ⧺ whole_words high ⧺ sign s.LeftBrace ⧺ stmts_words body ⧺ sign s.RightBrace
  stmt_words (st.Require at test) = key k.Require ⧺ whole_words test ⧺ sign s.Semicolon
  stmt_words (st.Send at label value) = key k.Send ⧺ text label ⧺ sign s.Comma ⧺ whole_words value ⧺ sign s.Semicolon
  stmt_words (st.Spawn at event args) = key k.Spawn ⧺ call_words event args ⧺ sign s.Semicolon
  stmt_words (st.Cut at target place) = key k.Drop ⧺ target_words target ⧺ index_words place ⧺ sign s.Semicolon
  stmt_words (st.Set at target place value) = target_words target ⧺ maybe_index place ⧺ sign s.Equals ⧺ whole_words value ⧺ sign s.Semicolon
  stmt_words (st.Call at f args) = call_words f args ⧺ sign s.Semicolon
  stmt_words (st.ChildCall at c place f args) = name c ⧺ index_words place ⧺ sign s.Dot ⧺ call_words f args ⧺ sign s.Semicolon
  stmt_words (st.Return at value) = key k.Return ⧺ maybe_words value ⧺ sign s.Semicolon
  stmt_words (st.Finish at value) = name (codes "finish") ⧺ maybe_words value ⧺ sign s.Semicolon

  pub stmts_words : StmtTrees → List Word
  stmts_words no_stmts = []
  stmts_words (stmt_and s others) = stmt_words s ⧺ stmts_words others

  pub else_words : ElseTree → List Word
  else_words no_else = []
  else_words (otherwise body) = key k.Else ⧺ sign s.LeftBrace ⧺ stmts_words body ⧺ sign s.RightBrace

abbrev pub body_words : List StmtTree → List Word
body_words = all_of stmt_words

abbrev pub braced_words : List StmtTree → List Word
braced_words body = sign s.LeftBrace ⧺ body_words body ⧺ sign s.RightBrace

-- ---- methods and events

abbrev pub param_words : Param → List Word
param_words p = name p.name.text ⧺ sign s.Colon ⧺ key (kind_key p.kind)

abbrev pub params_words : List Param → List Word
params_words ps = sign s.LeftParen ⧺ listed_words param_words ps ⧺ sign s.RightParen

abbrev pub result_words : Option Kind → List Word
result_words None = []
result_words (Some kind) = sign s.Colon ⧺ key (kind_key kind)

abbrev pub last_words : Keyword → Option LastTree → List Word
last_words want None = []
last_words want (Some l) = key want ⧺ whole_words l.value ⧺ sign s.Semicolon

abbrev pub method_words : MethodTree → List Word
method_words m = key k.Method ⧺ name m.name.text ⧺ params_words m.params ⧺ result_words m.result ⧺ sign s.LeftBrace ⧺ body_words m.body ⧺ last_words k.Return m.last ⧺ sign s.RightBrace

abbrev pub phase_words : PhaseTree → List Word
phase_words p = key k.Down ⧺ name p.class ⧺ index_words p.key ⧺ braced_words p.body

abbrev pub here_words : Option (List StmtTree) → List Word
here_words None = []
here_words (Some body) = key k.Here ⧺ braced_words body

abbrev pub event_words : EventTree → List Word
event_words e = key k.Event ⧺ name e.name.text ⧺ params_words e.params ⧺ result_words e.result ⧺ sign s.LeftBrace ⧺ here_words e.here ⧺ all_of phase_words e.phases ⧺ last_words k.Reply e.last ⧺ sign s.RightBrace

-- ---- contexts and the service

abbrev mutual
  pub context_words : ContextTree → List Word
  context_words (Context at x vars contexts methods) = key k.Context ⧺ name x.text ⧺ sign s.LeftBracket ⧺ key k.Int ⧺ sign s.RightBracket ⧺ sign s.LeftBrace ⧺ all_of var_words vars ⧺ contexts_words contexts ⧺ all_of method_words methods ⧺ sign s.RightBrace

  pub contexts_words : ContextTrees → List Word
  contexts_words no_contexts = []
  contexts_words (context_and c cs) = context_words c ⧺ contexts_words cs

-- the number of the version, which the first leaves out
abbrev pub version_words : Version → List Word
version_words First = []
version_words Second = number (pos 2)

unfoldable pub service_words : ServiceTree → List Word
service_words t = key k.Service ⧺ name t.name.text ⧺ version_words t.version ⧺ sign s.LeftBrace ⧺ all_of var_words t.vars ⧺ all_of context_words t.contexts ⧺ all_of method_words t.methods ⧺ all_of event_words t.events ⧺ sign s.RightBrace

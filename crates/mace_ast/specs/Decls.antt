-- Declarations as contracts see them: without pointers.
use Rattle.std.specs.Prelude.{◌≡◌, ℕ, List, [], ◌∷◌, map, Option}
use Rattle.std.specs.Option.{option_map}
use Rattle.wave_base.specs.declared.span.Span.{Span}
use Rattle.wave_base.specs.declared.value.Kind.{Kind}
use Rattle.wave_base.specs.declared.version.Version.{Version}
use Rattle.mace_ast.specs.declared.name.Name.{Name}
use Rattle.mace_ast.specs.declared.field.VarDecl.{VarDecl}
use Rattle.mace_ast.specs.declared.method.Param.{Param}
use Rattle.mace_ast.specs.declared.method.Last.{Last}
use Rattle.mace_ast.specs.declared.method.MethodDecl.{MethodDecl}
use Rattle.mace_ast.specs.declared.event.Phase.{Phase}
use Rattle.mace_ast.specs.declared.event.EventDecl.{EventDecl}
use Rattle.mace_ast.specs.declared.context.ContextDecl.{ContextDecl, ContextDecl', Row_of-ContextDecl, end_of-ContextDecl, more_of-ContextDecl}
use Rattle.mace_ast.specs.declared.service.Service.{Service}
use Rattle.mace_ast.specs.Exprs.{ExprTree, expr_tree, bare_expr, nowhere}
use Rattle.mace_ast.specs.Stmts.{StmtTree, stmt_tree, bare_stmt, bare_name}

pub record LastTree : Type 0 where
  pub at : Span
  pub value : ExprTree

pub record MethodTree : Type 0 where
  pub at : Span
  pub name : Name
  pub params : List Param
  pub result : Option Kind
  pub body : List StmtTree
  pub last : Option LastTree

pub record PhaseTree : Type 0 where
  pub at : Span
  pub class : List ℕ
  pub key : ExprTree
  pub body : List StmtTree

pub record EventTree : Type 0 where
  pub at : Span
  pub name : Name
  pub params : List Param
  pub result : Option Kind
  pub here : Option (List StmtTree)
  pub phases : List PhaseTree
  pub last : Option LastTree

mutual
  pub data ContextTree : Type 0 where
    Context : (at : Span) (name : Name) (vars : List VarDecl) (contexts : ContextTrees) (methods : List MethodTree) → ContextTree

  pub data ContextTrees : Type 0 where
    no_contexts : ContextTrees
    context_and : ContextTree → ContextTrees → ContextTrees

abbrev pub contexts_of : List ContextTree → ContextTrees
contexts_of [] = no_contexts
contexts_of (c ∷ cs) = context_and c (contexts_of cs)

pub record ServiceTree : Type 0 where
  pub at : Span
  pub name : Name
  pub version : Version
  pub vars : List VarDecl
  pub contexts : List ContextTree
  pub methods : List MethodTree
  pub events : List EventTree

-- ---- the tree of a declaration

abbrev pub last_tree : Last → LastTree
last_tree l = record { at = l.at; value = expr_tree l.value }

abbrev pub method_tree : MethodDecl → MethodTree
method_tree m = record { at = m.at; name = m.name; params = m.params; result = m.result; body = map stmt_tree m.body; last = option_map last_tree m.last }

abbrev pub phase_tree : Phase → PhaseTree
phase_tree p = record { at = p.at; class = p.class; key = expr_tree p.key; body = map stmt_tree p.body }

abbrev pub event_tree : EventDecl → EventTree
event_tree e = record { at = e.at; name = e.name; params = e.params; result = e.result; here = option_map (map stmt_tree) e.here; phases = map phase_tree e.phases; last = option_map last_tree e.last }

abbrev mutual
  pub context_tree : ContextDecl → ContextTree
  context_tree (ContextDecl' at name vars s inner methods) = Context at name vars (row_contexts inner) (map method_tree methods)

  pub row_contexts : {m : _} → Row_of-ContextDecl m → ContextTrees
  row_contexts end_of-ContextDecl = no_contexts
  row_contexts (more_of-ContextDecl c rest) = context_and (context_tree c) (row_contexts rest)

abbrev pub service_tree : Service → ServiceTree
service_tree s = record { at = s.at; name = s.name; version = s.version; vars = s.vars; contexts = map context_tree s.contexts; methods = map method_tree s.methods; events = map event_tree s.events }

-- ---- up to places

abbrev pub bare_var : VarDecl → VarDecl
bare_var v = record { at = nowhere; name = bare_name v.name; kind = v.kind; initial = record { at = nowhere; value = v.initial.value } }

abbrev pub bare_param : Param → Param
bare_param p = record { name = bare_name p.name; kind = p.kind }

abbrev pub bare_last : LastTree → LastTree
bare_last l = record { at = nowhere; value = bare_expr l.value }

abbrev pub bare_method : MethodTree → MethodTree
bare_method m = record { at = nowhere; name = bare_name m.name; params = map bare_param m.params; result = m.result; body = map bare_stmt m.body; last = option_map bare_last m.last }

abbrev pub bare_phase : PhaseTree → PhaseTree
bare_phase p = record { at = nowhere; class = p.class; key = bare_expr p.key; body = map bare_stmt p.body }

abbrev pub bare_event : EventTree → EventTree
bare_event e = record { at = nowhere; name = bare_name e.name; params = map bare_param e.params; result = e.result; here = option_map (map bare_stmt) e.here; phases = map bare_phase e.phases; last = option_map bare_last e.last }

abbrev mutual
  pub bare_context : ContextTree → ContextTree
  bare_context (Context at name vars contexts methods) = Context nowhere (bare_name name) (map bare_var vars) (bare_contexts contexts) (map bare_method methods)

  pub bare_contexts : ContextTrees → ContextTrees
  bare_contexts no_contexts = no_contexts
  bare_contexts (context_and c cs) = context_and (bare_context c) (bare_contexts cs)

abbrev pub bare_service : ServiceTree → ServiceTree
bare_service s = record { at = nowhere; name = bare_name s.name; version = s.version; vars = map bare_var s.vars; contexts = map bare_context s.contexts; methods = map bare_method s.methods; events = map bare_event s.events }

-- two services are the same but for their places
abbrev pub SameUpToSpans : ServiceTree → ServiceTree → Type 0
SameUpToSpans a b = bare_service a ≡ bare_service b

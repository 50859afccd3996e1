-- Which trees a version has words for: in version 1 those without `return` and `finish` as statements, and in version 2 those
-- without a name that is `finish`, and without a `return` at the end of a method that is no statement.
use Rattle.std.specs.Prelude.{◌≡◌, ℕ, List, [], ◌∷◌, true, false, Option, Some, None}
use Rattle.mace_ast.specs.declared.field.VarDecl.{VarDecl}
use Rattle.mace_ast.specs.declared.method.Param.{Param}
use Rattle.mace_ast.specs.declared.stmt.Target.{Target}
use Rattle.mace_ast.specs.Exprs as e
use Rattle.mace_ast.specs.Exprs.{ExprTree, ExprTrees, no_exprs, expr_and}
use Rattle.mace_ast.specs.Stmts as st
use Rattle.mace_ast.specs.Stmts.{StmtTree, StmtTrees, ElseTree, no_stmts, stmt_and, no_else, otherwise}
use Rattle.mace_ast.specs.Decls.{LastTree, MethodTree, PhaseTree, EventTree, ContextTree, ContextTrees, Context, no_contexts, context_and, ServiceTree}
use Rattle.mace_grammar.specs.Words.{Edition, edition_of}

-- each of a list, and a part that may be left out
abbrev pub Each : {A : Type 0} → (A → Type 0) → List A → Type 0
Each P [] = Unit {0}
Each P (a ∷ others) = P a × Each P others

abbrev pub IfThere : {A : Type 0} → (A → Type 0) → Option A → Type 0
IfThere P None = Unit {0}
IfThere P (Some a) = P a

abbrev pub IsName : Edition → List ℕ → Type 0
IsName edition t = edition.is_name t ≡ true

abbrev mutual
  pub ExprFits : Edition → ExprTree → Type 0
  ExprFits edition (e.Number at n) = Unit {0}
  ExprFits edition (e.Text at bytes) = Unit {0}
  ExprFits edition (e.Boolean at b) = Unit {0}
  ExprFits edition (e.Empty at) = Unit {0}
  ExprFits edition (e.Read at x) = IsName edition x
  ExprFits edition (e.Above at c x) = IsName edition c × IsName edition x
  ExprFits edition (e.Index at x place) = IsName edition x × ExprFits edition place
  ExprFits edition (e.AboveIndex at c x place) = IsName edition c × IsName edition x × ExprFits edition place
  ExprFits edition (e.Call at f args) = IsName edition f × ExprsFit edition args
  ExprFits edition (e.ChildCall at c place f args) = IsName edition c × ExprFits edition place × IsName edition f × ExprsFit edition args
  ExprFits edition (e.Unary at o operand) = ExprFits edition operand
  ExprFits edition (e.Binary at o left right) = ExprFits edition left × ExprFits edition right

  pub ExprsFit : Edition → ExprTrees → Type 0
  ExprsFit edition no_exprs = Unit {0}
  ExprsFit edition (expr_and a others) = ExprFits edition a × ExprsFit edition others

abbrev pub TargetFits : Edition → Target → Type 0
TargetFits edition x = IfThere (IsName edition) x.above × IsName edition x.name

-- a statement that ends a method or an event early
abbrev pub EndFits : Edition → Option ExprTree → Type 0
EndFits edition value = (edition.early ≡ true) × IfThere (ExprFits edition) value

abbrev mutual
  pub StmtFits : Edition → StmtTree → Type 0
  StmtFits edition (st.Let at x value) = IsName edition x.text × ExprFits edition value
  StmtFits edition (st.If at test body other) = ExprFits edition test × StmtsFit edition body × ElseFits edition other
  StmtFits edition (st.While at test body) = ExprFits edition test × StmtsFit edition body
  StmtFits edition (st.For at x low high body) = IsName edition x.text × ExprFits edition low × ExprFits edition high × StmtsFit edition body
  StmtFits edition (st.Require at test) = ExprFits edition test
  StmtFits edition (st.Send at label value) = ExprFits edition value
  StmtFits edition (st.Spawn at event args) = IsName edition event × Each (ExprFits edition) args
  StmtFits edition (st.Cut at x place) = TargetFits edition x × ExprFits edition place
  StmtFits edition (st.Set at x place value) = TargetFits edition x × IfThere (ExprFits edition) place × ExprFits edition value
  StmtFits edition (st.Call at f args) = IsName edition f × Each (ExprFits edition) args
  StmtFits edition (st.ChildCall at c place f args) = IsName edition c × ExprFits edition place × IsName edition f × Each (ExprFits edition) args
  StmtFits edition (st.Return at value) = EndFits edition value
  StmtFits edition (st.Finish at value) = EndFits edition value

  pub StmtsFit : Edition → StmtTrees → Type 0
  StmtsFit edition no_stmts = Unit {0}
  StmtsFit edition (stmt_and x others) = StmtFits edition x × StmtsFit edition others

  pub ElseFits : Edition → ElseTree → Type 0
  ElseFits edition no_else = Unit {0}
  ElseFits edition (otherwise body) = StmtsFit edition body

abbrev pub VarFits : Edition → VarDecl → Type 0
VarFits edition v = IsName edition v.name.text

abbrev pub ParamFits : Edition → Param → Type 0
ParamFits edition p = IsName edition p.name.text

-- the `return` at the end of a method
abbrev pub LastFits : Edition → LastTree → Type 0
LastFits edition l = (edition.early ≡ false) × ExprFits edition l.value

abbrev pub MethodFits : Edition → MethodTree → Type 0
MethodFits edition m = IsName edition m.name.text × Each (ParamFits edition) m.params × Each (StmtFits edition) m.body × IfThere (LastFits edition) m.last

abbrev pub PhaseFits : Edition → PhaseTree → Type 0
PhaseFits edition p = IsName edition p.class × ExprFits edition p.key × Each (StmtFits edition) p.body

abbrev pub EventFits : Edition → EventTree → Type 0
EventFits edition v = IsName edition v.name.text × Each (ParamFits edition) v.params × IfThere (Each (StmtFits edition)) v.here × Each (PhaseFits edition) v.phases × IfThere (λ l. ExprFits edition l.value) v.last

abbrev mutual
  pub ContextFits : Edition → ContextTree → Type 0
  ContextFits edition (Context at x vars contexts methods) = IsName edition x.text × Each (VarFits edition) vars × ContextsFit edition contexts × Each (MethodFits edition) methods

  pub ContextsFit : Edition → ContextTrees → Type 0
  ContextsFit edition no_contexts = Unit {0}
  ContextsFit edition (context_and c cs) = ContextFits edition c × ContextsFit edition cs

-- all of a service, in its version
abbrev pub MembersFit : Edition → ServiceTree → Type 0
MembersFit edition t = Each (VarFits edition) t.vars × Each (ContextFits edition) t.contexts × Each (MethodFits edition) t.methods × Each (EventFits edition) t.events

abbrev pub ServiceFits : ServiceTree → Type 0
ServiceFits t = MembersFit (edition_of t.version) t

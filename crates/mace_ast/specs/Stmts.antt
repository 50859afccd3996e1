-- Statements as contracts see them: without pointers.
use Rattle.std.specs.Prelude.{ℕ, List, [], ◌∷◌, map, Option, Some, None}
use Rattle.std.specs.Option.{option_map}
use Rattle.wave_base.specs.declared.span.Span.{Span}
use Rattle.mace_ast.specs.declared.name.Name.{Name}
use Rattle.mace_ast.specs.declared.stmt.Target.{Target}
use Rattle.mace_ast.specs.declared.stmt.Stmt.{Stmt}
use Rattle.mace_ast.specs.declared.stmt.Action.{Action, Row_of-Stmt, end_of-Stmt, more_of-Stmt, Held-Action-If-2, None', Some'}
use Rattle.mace_ast.specs.declared.stmt.Action.TheVariants as action
use Rattle.mace_ast.specs.Exprs.{ExprTree, expr_tree, bare_expr, nowhere}

mutual
  pub data StmtTree : Type 0 where
    Let : (at : Span) (name : Name) (value : ExprTree) → StmtTree
    If : (at : Span) (test : ExprTree) (body : StmtTrees) (other : ElseTree) → StmtTree
    While : (at : Span) (test : ExprTree) (body : StmtTrees) → StmtTree
    For : (at : Span) (name : Name) (low high : ExprTree) (body : StmtTrees) → StmtTree
    Require : (at : Span) (test : ExprTree) → StmtTree
    Send : (at : Span) (label : List ℕ) (value : ExprTree) → StmtTree
    Spawn : (at : Span) (event : List ℕ) (args : List ExprTree) → StmtTree
    Cut : (at : Span) (target : Target) (key : ExprTree) → StmtTree
    Set : (at : Span) (target : Target) (key : Option ExprTree) (value : ExprTree) → StmtTree
    Call : (at : Span) (name : List ℕ) (args : List ExprTree) → StmtTree
    ChildCall : (at : Span) (class : List ℕ) (key : ExprTree) (name : List ℕ) (args : List ExprTree) → StmtTree
    Return : (at : Span) (value : Option ExprTree) → StmtTree
    Finish : (at : Span) (value : Option ExprTree) → StmtTree

  pub data StmtTrees : Type 0 where
    no_stmts : StmtTrees
    stmt_and : StmtTree → StmtTrees → StmtTrees

  pub data ElseTree : Type 0 where
    no_else : ElseTree
    otherwise : StmtTrees → ElseTree

abbrev pub stmts_of : List StmtTree → StmtTrees
stmts_of [] = no_stmts
stmts_of (s ∷ ss) = stmt_and s (stmts_of ss)

abbrev pub else_of : Option (List StmtTree) → ElseTree
else_of None = no_else
else_of (Some ss) = otherwise (stmts_of ss)

-- ---- the tree of a statement

abbrev mutual
  pub action_tree : Action → Span → StmtTree
  action_tree (action.Let n e) at = Let at n (expr_tree e)
  action_tree (action.If' e s body other) at = If at (expr_tree e) (row_stmts body) (held_else other)
  action_tree (action.While' e s body) at = While at (expr_tree e) (row_stmts body)
  action_tree (action.For' n low high s body) at = For at n (expr_tree low) (expr_tree high) (row_stmts body)
  action_tree (action.Require e) at = Require at (expr_tree e)
  action_tree (action.Send t e) at = Send at t (expr_tree e)
  action_tree (action.Spawn t es) at = Spawn at t (map expr_tree es)
  action_tree (action.Cut x k) at = Cut at x (expr_tree k)
  action_tree (action.Set x k e) at = Set at x (option_map expr_tree k) (expr_tree e)
  action_tree (action.Call f es) at = Call at f (map expr_tree es)
  action_tree (action.ChildCall c k f es) at = ChildCall at c (expr_tree k) f (map expr_tree es)
  action_tree (action.Return e) at = Return at (option_map expr_tree e)
  action_tree (action.Finish e) at = Finish at (option_map expr_tree e)

  pub row_stmts : {m : _} → Row_of-Stmt m → StmtTrees
  row_stmts end_of-Stmt = no_stmts
  row_stmts (more_of-Stmt at a rest) = stmt_and (action_tree a at) (row_stmts rest)

  pub held_else : Held-Action-If-2 → ElseTree
  held_else None' = no_else
  held_else (Some' s r) = otherwise (row_stmts r)

abbrev pub stmt_tree : Stmt → StmtTree
stmt_tree s = action_tree s.action s.at

-- ---- up to places

abbrev pub bare_name : Name → Name
bare_name n = record { at = nowhere; text = n.text }

abbrev mutual
  pub bare_stmt : StmtTree → StmtTree
  bare_stmt (Let at name value) = Let nowhere (bare_name name) (bare_expr value)
  bare_stmt (If at test body other) = If nowhere (bare_expr test) (bare_stmts body) (bare_else other)
  bare_stmt (While at test body) = While nowhere (bare_expr test) (bare_stmts body)
  bare_stmt (For at name low high body) = For nowhere (bare_name name) (bare_expr low) (bare_expr high) (bare_stmts body)
  bare_stmt (Require at test) = Require nowhere (bare_expr test)
  bare_stmt (Send at label value) = Send nowhere label (bare_expr value)
  bare_stmt (Spawn at event args) = Spawn nowhere event (map bare_expr args)
  bare_stmt (Cut at target key) = Cut nowhere target (bare_expr key)
  bare_stmt (Set at target key value) = Set nowhere target (option_map bare_expr key) (bare_expr value)
  bare_stmt (Call at name args) = Call nowhere name (map bare_expr args)
  bare_stmt (ChildCall at class key name args) = ChildCall nowhere class (bare_expr key) name (map bare_expr args)
  bare_stmt (Return at value) = Return nowhere (option_map bare_expr value)
  bare_stmt (Finish at value) = Finish nowhere (option_map bare_expr value)

  pub bare_stmts : StmtTrees → StmtTrees
  bare_stmts no_stmts = no_stmts
  bare_stmts (stmt_and s ss) = stmt_and (bare_stmt s) (bare_stmts ss)

  pub bare_else : ElseTree → ElseTree
  bare_else no_else = no_else
  bare_else (otherwise ss) = otherwise (bare_stmts ss)

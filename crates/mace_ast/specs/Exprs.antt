-- Expressions as contracts see them: without pointers.
use Rattle.std.specs.Prelude.{ℕ, ℤ, Bool, List, [], ◌∷◌}
use Rattle.wave_base.specs.declared.span.Span.{Span}
use Rattle.mace_ast.specs.declared.expr.UnaryOp.{UnaryOp}
use Rattle.mace_ast.specs.declared.expr.BinaryOp.{BinaryOp}
use Rattle.mace_ast.specs.declared.expr.Expr.{Expr}
use Rattle.mace_ast.specs.declared.expr.Node.{Node, Row_of-Expr, end_of-Expr, more_of-Expr}
use Rattle.mace_ast.specs.declared.expr.Node.TheVariants as node

mutual
  pub data ExprTree : Type 0 where
    Number : (at : Span) (n : ℤ) → ExprTree
    Text : (at : Span) (bytes : List ℕ) → ExprTree
    Boolean : (at : Span) (b : Bool) → ExprTree
    Empty : (at : Span) → ExprTree
    Read : (at : Span) (name : List ℕ) → ExprTree
    Above : (at : Span) (class name : List ℕ) → ExprTree
    Index : (at : Span) (name : List ℕ) (key : ExprTree) → ExprTree
    AboveIndex : (at : Span) (class name : List ℕ) (key : ExprTree) → ExprTree
    Call : (at : Span) (name : List ℕ) (args : ExprTrees) → ExprTree
    ChildCall : (at : Span) (class : List ℕ) (key : ExprTree) (name : List ℕ) (args : ExprTrees) → ExprTree
    Unary : (at : Span) (op : UnaryOp) (operand : ExprTree) → ExprTree
    Binary : (at : Span) (op : BinaryOp) (left right : ExprTree) → ExprTree

  pub data ExprTrees : Type 0 where
    no_exprs : ExprTrees
    expr_and : ExprTree → ExprTrees → ExprTrees

abbrev pub exprs_of : List ExprTree → ExprTrees
exprs_of [] = no_exprs
exprs_of (e ∷ es) = expr_and e (exprs_of es)

-- where a node stands
abbrev pub place_of : ExprTree → Span
place_of (Number at n) = at
place_of (Text at bytes) = at
place_of (Boolean at b) = at
place_of (Empty at) = at
place_of (Read at name) = at
place_of (Above at class name) = at
place_of (Index at name key) = at
place_of (AboveIndex at class name key) = at
place_of (Call at name args) = at
place_of (ChildCall at class key name args) = at
place_of (Unary at op operand) = at
place_of (Binary at op left right) = at

-- ---- the tree of an expression

abbrev mutual
  pub node_tree : Node → Span → ExprTree
  node_tree (node.Number n) at = Number at n
  node_tree (node.Text t) at = Text at t
  node_tree (node.Bool b) at = Boolean at b
  node_tree node.Empty at = Empty at
  node_tree (node.Read x) at = Read at x
  node_tree (node.Above c f) at = Above at c f
  node_tree (node.Index' x p a n) at = Index at x (node_tree n a)
  node_tree (node.AboveIndex' c f p a n) at = AboveIndex at c f (node_tree n a)
  node_tree (node.Call' f s r) at = Call at f (row_trees r)
  node_tree (node.ChildCall' c p a n f s r) at = ChildCall at c (node_tree n a) f (row_trees r)
  node_tree (node.Unary' op p a n) at = Unary at op (node_tree n a)
  node_tree (node.Binary' op p a l q b r) at = Binary at op (node_tree l a) (node_tree r b)

  pub row_trees : {m : _} → Row_of-Expr m → ExprTrees
  row_trees end_of-Expr = no_exprs
  row_trees (more_of-Expr a n rest) = expr_and (node_tree n a) (row_trees rest)

abbrev pub expr_tree : Expr → ExprTree
expr_tree e = node_tree e.node e.at

-- ---- up to places

-- a place that stands for all places
abbrev pub nowhere : Span
nowhere = record { line = 0; col = 0 }

abbrev mutual
  pub bare_expr : ExprTree → ExprTree
  bare_expr (Number at n) = Number nowhere n
  bare_expr (Text at bytes) = Text nowhere bytes
  bare_expr (Boolean at b) = Boolean nowhere b
  bare_expr (Empty at) = Empty nowhere
  bare_expr (Read at name) = Read nowhere name
  bare_expr (Above at class name) = Above nowhere class name
  bare_expr (Index at name key) = Index nowhere name (bare_expr key)
  bare_expr (AboveIndex at class name key) = AboveIndex nowhere class name (bare_expr key)
  bare_expr (Call at name args) = Call nowhere name (bare_exprs args)
  bare_expr (ChildCall at class key name args) = ChildCall nowhere class (bare_expr key) name (bare_exprs args)
  bare_expr (Unary at op operand) = Unary nowhere op (bare_expr operand)
  bare_expr (Binary at op left right) = Binary nowhere op (bare_expr left) (bare_expr right)

  pub bare_exprs : ExprTrees → ExprTrees
  bare_exprs no_exprs = no_exprs
  bare_exprs (expr_and e es) = expr_and (bare_expr e) (bare_exprs es)

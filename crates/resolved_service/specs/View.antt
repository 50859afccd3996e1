-- Resolved trees as contracts see them: no pointers.
use Rattle.std.specs.Prelude.{ℕ, List, [], ◌∷◌}
use Rattle.wave_base.specs.declared.span.Span.{Span}
use Rattle.wave_base.specs.declared.value.Value.{Value}
use Rattle.resolved_service.specs.declared.expr.Expr.{Expr}
use Rattle.resolved_service.specs.declared.expr.Node.{Node, Row_of-Expr, end_of-Expr, more_of-Expr}
use Rattle.resolved_service.specs.declared.expr.Node.TheVariants as node

mutual
  pub data Tree : Type 0 where
    Const : (at : Span) (value : Value) → Tree
    Local : (at : Span) (slot : ℕ) → Tree
    Field : (at : Span) (field : ℕ) → Tree
    Above : (at : Span) (level field : ℕ) → Tree
    Op : (at : Span) (row : ℕ) (args : Trees) → Tree
    And : (at : Span) (left right : Tree) → Tree
    Or : (at : Span) (left right : Tree) → Tree
    Call : (at : Span) (method : ℕ) (args : Trees) → Tree
    Child : (at : Span) (class method : ℕ) (key : Tree) (args : Trees) → Tree

  pub data Trees : Type 0 where
    no_trees : Trees
    tree : Tree → Trees → Trees

abbrev pub trees_of : List Tree → Trees
trees_of [] = no_trees
trees_of (t ∷ ts) = tree t (trees_of ts)

abbrev mutual
  pub node_tree : Node → Span → Tree
  node_tree (node.Const v) at = Const at v
  node_tree (node.Local s) at = Local at s
  node_tree (node.Field f) at = Field at f
  node_tree (node.Above l f) at = Above at l f
  node_tree (node.Op' r s args) at = Op at r (row_trees args)
  node_tree (node.And' p a x q b y) at = And at (node_tree x a) (node_tree y b)
  node_tree (node.Or' p a x q b y) at = Or at (node_tree x a) (node_tree y b)
  node_tree (node.Call' m s args) at = Call at m (row_trees args)
  node_tree (node.Child' c m p a x s args) at = Child at c.0 m (node_tree x a) (row_trees args)

  pub row_trees : {m : _} → Row_of-Expr m → Trees
  row_trees end_of-Expr = no_trees
  row_trees (more_of-Expr a x rest) = tree (node_tree x a) (row_trees rest)

abbrev pub tree_of : Expr → Tree
tree_of e = node_tree e.node e.at

-- The trees of a row are the trees of its items.
use Rattle.std.proofs.Common.{◌≡◌, map, refl, ap}
use Rattle.mace_ast.specs.declared.expr.Node.{Row_of-Expr, end_of-Expr, more_of-Expr, items-the_row-Expr}
use Rattle.mace_ast.specs.declared.stmt.Action.{Row_of-Stmt, end_of-Stmt, more_of-Stmt, items-the_row-Stmt}
use Rattle.mace_ast.specs.declared.context.ContextDecl.{Row_of-ContextDecl, end_of-ContextDecl, more_of-ContextDecl, items-the_row-ContextDecl}
use Rattle.mace_ast.specs.Exprs.{expr_tree, exprs_of, row_trees, node_tree, expr_and}
use Rattle.mace_ast.specs.Stmts.{stmt_tree, stmts_of, row_stmts, action_tree, stmt_and}
use Rattle.mace_ast.specs.Decls.{context_tree, contexts_of, row_contexts, context_and}

pub row_trees-items : (n : _) (k : Row_of-Expr n) → row_trees k ≡ exprs_of (map expr_tree (items-the_row-Expr n k))
row_trees-items _ end_of-Expr = refl
row_trees-items _ (more_of-Expr a x rest) = ap (λ ts. expr_and (node_tree x a) ts) (row_trees-items _ rest)

pub row_stmts-items : (n : _) (k : Row_of-Stmt n) → row_stmts k ≡ stmts_of (map stmt_tree (items-the_row-Stmt n k))
row_stmts-items _ end_of-Stmt = refl
row_stmts-items _ (more_of-Stmt at a rest) = ap (λ ts. stmt_and (action_tree a at) ts) (row_stmts-items _ rest)

pub row_contexts-items : (n : _) (k : Row_of-ContextDecl n) → row_contexts k ≡ contexts_of (map context_tree (items-the_row-ContextDecl n k))
row_contexts-items _ end_of-ContextDecl = refl
row_contexts-items _ (more_of-ContextDecl c rest) = ap (λ ts. context_and (context_tree c) ts) (row_contexts-items _ rest)

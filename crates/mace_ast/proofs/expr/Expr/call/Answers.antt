use Rattle.std.proofs.Common.{rules}
use Rattle.mace_ast.specs.declared.expr.Node.{the_lemmas}
use Rattle.mace_ast.proofs.Rows.{row_trees-items}
use Rattle.mace_ast.proofs.expr.Expr.call.Goals as goal

pub returns : goal.returns
returns c = search (rules, the_lemmas, row_trees-items)

use Rattle.std.proofs.Common.{rules}
use Rattle.mace_ast.specs.declared.stmt.Action.{the_lemmas}
use Rattle.mace_ast.proofs.Rows.{row_stmts-items}
use Rattle.mace_ast.proofs.stmt.Stmt.if_else.Goals as goal

pub returns : goal.returns
returns c = search (rules, the_lemmas, row_stmts-items)

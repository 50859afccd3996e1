use Rattle.std.proofs.Common.{rules}
use Rattle.mace_ast.specs.declared.context.ContextDecl.{the_lemmas}
use Rattle.mace_ast.proofs.Rows.{row_contexts-items}
use Rattle.mace_ast.proofs.context.ContextDecl.new.Goals as goal

pub returns : goal.returns
returns c = search (rules, the_lemmas, row_contexts-items)

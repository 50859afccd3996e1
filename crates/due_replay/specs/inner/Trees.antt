-- A typed service and its code, of some tree.
use Rattle.mace_ast.specs.Decls.{ServiceTree}
use Rattle.context_types.specs.declared.Typed.{Typed}
use Rattle.service_code.specs.declared.program.Program.{Program}
use Rattle.due_parts.specs.Coded.{IsCoded}
use Rattle.due_parts.specs.Served.{IsTypedTree}

-- there is a tree of which they are
pub record HasTree (typed : Typed) (program : Program) : Type 0 where
  pub tree : ServiceTree
  pub is_typed : IsTypedTree tree typed
  pub coded : IsCoded typed.shape typed.resolved program

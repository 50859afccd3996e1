-- The code of a service, and the trees that it runs on. The calls are those of its actors.
use Rattle.std.specs.Prelude.{◌≡◌, true, List, []}
use Rattle.wave_base.specs.declared.shape.Shape.{Shape}
use Rattle.wave_base.specs.declared.value.Value.{Value}
use Rattle.wave_base.specs.Tree.{Tree, there}
use Rattle.wave_base.specs.Trees.{FitsShape}
use Rattle.resolved_service.specs.declared.service.Resolved.{Resolved}
use Rattle.resolved_service.specs.Fits.{FitsService}
use Rattle.service_code.specs.declared.program.Program.{Program}
use Rattle.code_scheme.specs.Programs.{scheme_program}
use Rattle.code_scheme.specs.Typed.{IsTyped}
pub use Rattle.code_actor.specs.CodeActors.{IsJob}

-- the program is the code of the service, which is checked
pub record IsCode (service : Resolved) (program : Program) : Type 0 where
  pub typed : IsTyped program.shape service
  pub fits : FitsService program.shape service
  pub is : program ≡ scheme_program program.shape service

-- a tree of the shape with its root
abbrev pub IsTree : Shape → Tree (List Value) → Type 0
IsTree shape tree = FitsShape shape tree × (there tree [] ≡ true)

-- Which fields of a context an event may read from below: it keeps a copy of these.
use Rattle.std.specs.Prelude.{◌≡◌, ℕ, suc, Bool, false, ◌==◌, ◌&&◌, ◌||◌, List, [], ◌∷◌, Option, Some, None, slice_get}
use Rattle.wave_base.specs.declared.shape.Shape.{Shape}
use Rattle.wave_base.specs.declared.value.Kind.{Kind}
use Rattle.wave_base.specs.Shapes.{kinds_of_class}
use Rattle.downgrade_views.specs.Levels.{keeps}
use Rattle.service_code.specs.declared.instr.Instr.{Instr}
use Rattle.service_code.specs.declared.instr.Instr.TheVariants.{Above}
use Rattle.service_code.specs.declared.program.Function.{Function}
use Rattle.service_code.specs.declared.program.Program.{Program}
use Rattle.service_verify.specs.declared.point.Point.{Point}
use Rattle.service_verify.specs.Points.{Table, points_of, point_at}
use Rattle.service_verify.specs.Rules.{levels_above}

-- Some instruction of a method or an event reads this field of this class from below: it stands at a class, which the verifier
-- fixed for it, strictly below this one, which is that class's ancestor at the level that the instruction names.
pub record Reads (program : Program) (class field : ℕ) : Type 0 where
  pub number : ℕ
  pub function : Function
  pub is_there : slice_get program.functions number ≡ Some function
  pub place : ℕ
  pub level : ℕ
  pub is_instr : slice_get function.code place ≡ Some (Above level field)
  pub point : Point
  pub is_point : point_at program number function place ≡ Some point
  pub is_ancestor : slice_get (levels_above program.shape point.class.0) level ≡ Some class

abbrev pub is_number : ℕ → Option ℕ → Bool
is_number n None = false
is_number n (Some m) = m == n

module _ (shape : Shape) (class field : ℕ) where
  -- the same, computed: of one instruction, at the point that is fixed for it
  abbrev pub reads_at : Instr → Option Point → Bool
  reads_at (Above level f) (Some p) = (f == field) && is_number class (slice_get (levels_above shape p.class.0) level)
  reads_at _ _ = false

  -- of a code, with its points
  abbrev pub code_reads : List Instr → Table → Bool
  code_reads [] points = false
  code_reads (i ∷ is) [] = false
  code_reads (i ∷ is) (q ∷ points) = reads_at i q || code_reads is points

module _ (program : Program) (class : ℕ) where
  -- of functions, the first of which has this number
  abbrev pub functions_read : ℕ → ℕ → List Function → Bool
  functions_read field number [] = false
  functions_read field number (f ∷ fs) = code_reads program.shape class field f.code (points_of program number f) || functions_read field (suc number) fs

  -- fields, the first of which has this number: whether each is read from below
  abbrev pub fields_kept : ℕ → List Kind → List Bool
  fields_kept field [] = []
  fields_kept field (k ∷ ks) = functions_read field 0 program.functions ∷ fields_kept (suc field) ks

  -- for each field of the class, whether it is read from below
  unfoldable pub read_marks : List Bool
  read_marks = fields_kept 0 (kinds_of_class program.shape class)

  -- the field is there, and is read from below
  abbrev pub is_kept : ℕ → Bool
  is_kept field = keeps read_marks field

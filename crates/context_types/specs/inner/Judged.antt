-- How far the walk has judged the classes, whose fields get numbers of 16 bits behind that.
use Rattle.std.specs.Prelude.{◌≡◌, ◌+◌, ◌<◌, ◌≤◌, ℕ, length}
use Rattle.wave_base.specs.declared.limits.TheConstants.{FIELDS}
use Rattle.wave_base.specs.declared.shape.Shape.{Shape}
use Rattle.wave_base.specs.Shapes.{declared_fields}
use Rattle.mace_ast.specs.Counts.{class_count}
use Rattle.mace_ast.specs.Decls.{ContextTree, Context, ContextTrees, no_contexts, context_and}
use Rattle.type_rules.specs.declared.known.Known.{Known}

-- no class before the n-th has more fields than it may have
abbrev pub FewFields : Known → ℕ → Type 0
FewFields known n = (c : ℕ) → c < n → length (declared_fields known.shape c) ≤ FIELDS

-- no class at all has
abbrev pub AllFew : Known → Type 0
AllFew known = (c : ℕ) → length (declared_fields known.shape c) ≤ FIELDS

abbrev mutual
  -- a shape's classes from the n-th on have as many fields as those of a context
  pub StandsAt : Shape → ℕ → ContextTree → Type 0
  StandsAt shape n (Context at name vars contexts methods) = (length (declared_fields shape n) ≡ length vars) × StandAt shape (n + 1) contexts

  pub StandAt : Shape → ℕ → ContextTrees → Type 0
  StandAt shape n no_contexts = Unit {0}
  StandAt shape n (context_and c cs) = StandsAt shape n c × StandAt shape (n + class_count c) cs

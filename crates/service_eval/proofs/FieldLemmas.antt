-- Fields of contexts.
use Rattle.std.proofs.Common.{◌≡◌, false, List, Option, Some, None, is_some, unwrap_or, refl, ◌∙◌}
use mathlib.Core.Bool.{true≢false}
use Rattle.wave_base.specs.declared.path.Path.{Path}
use Rattle.wave_base.specs.declared.shape.Shape.{Shape}
use Rattle.wave_base.specs.declared.value.Value.{Value}
use Rattle.wave_base.specs.Shapes.{initial_fields}
use Rattle.context_tree.specs.Contexts.{Contexts, tree_of, is_there, fields_in}
use Rattle.context_tree.proofs.KeptLemmas.{there_in, shown_is}

module _ (shape : Shape) (t : Contexts) (p : Path) where
  -- what is not there shows what its class begins with
  pub shown_absent : is_there t p ≡ false → (tree_of shape t).fields p ≡ initial_fields shape p
  shown_absent a = shown_is shape t.shots p ∙ by_kept (fields_in t.shots p) (there_in t.shots p ∙ a)
    where
      by_kept : (o : Option (List Value)) → is_some o ≡ false → unwrap_or o (initial_fields shape p) ≡ initial_fields shape p
      by_kept None e = refl
      by_kept (Some fs) e = absurd (true≢false e)

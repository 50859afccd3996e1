-- A tree of contexts of a shape.
use Rattle.std.specs.Prelude.{◌≡◌, true, List, [], All}
use Rattle.wave_base.specs.declared.shape.Shape.{Shape}
use Rattle.wave_base.specs.declared.value.Value.{Value}
use Rattle.wave_base.specs.Paths.{parent_of}
use Rattle.wave_base.specs.Shapes.{is_path}
use Rattle.wave_base.specs.Tree.{Tree, there}

-- all paths are the shape's, each parent is there, and so is the root
pub record Holds (shape : Shape) (tree : Tree (List Value)) : Type 0 where
  pub paths : All (λ p. is_path shape p ≡ true) tree.paths
  pub parents : All (λ p. there tree (parent_of p) ≡ true) tree.paths
  pub root : there tree [] ≡ true

-- Trees of contexts whose fields are values: what it is for one to fit a shape.
use Rattle.std.specs.Prelude.{◌≡◌, true, false, List, map, All}
use Rattle.std.specs.List.Sorted.{IsStrictlySortedBy}
use Rattle.wave_base.specs.declared.path.Path.{Path}
use Rattle.wave_base.specs.declared.shape.Shape.{Shape}
use Rattle.wave_base.specs.declared.value.Value.{Value}
use Rattle.wave_base.specs.Paths.{path_cmp, parent_of}
use Rattle.wave_base.specs.Shapes.{class_of, is_path, initial_fields, kinds_of_class}
use Rattle.wave_base.specs.Tree.{Tree, bare, there}
use Rattle.wave_base.specs.Values.{kind_of}

-- the root alone, with its initial values
abbrev pub first_tree : Shape → Tree (List Value)
first_tree shape = bare (initial_fields shape)

-- the fields at a path have the kinds that its class declares
abbrev pub HasKinds : Shape → Path → List Value → Type 0
HasKinds shape p fields = map kind_of fields ≡ kinds_of_class shape (class_of p)

pub record FitsShape (shape : Shape) (tree : Tree (List Value)) : Type 0 where
  pub ordered : IsStrictlySortedBy path_cmp tree.paths
  pub paths : All (λ p. is_path shape p ≡ true) tree.paths
  pub parents : All (λ p. there tree (parent_of p) ≡ true) tree.paths
  pub kinds : All (λ p. HasKinds shape p (tree.fields p)) tree.paths
  pub absent : (p : Path) → there tree p ≡ false → tree.fields p ≡ initial_fields shape p

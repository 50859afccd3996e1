-- What the shots of a snapshot may be.
use Rattle.std.specs.Prelude.{◌≡◌, ℤ, Bool, true, false, ◌&&◌, List, [], ◌∷◌, ◌++◌, map, All, FitsSigned}
use Rattle.std.specs.Int.{w64}
use Rattle.std.specs.List.{list_any}
use Rattle.std.specs.declared.cmp.Ordering.{Ordering}
use Rattle.std.specs.declared.cmp.Ordering.TheVariants.{Less}
use Rattle.wave_base.specs.declared.path.Path.{Path}
use Rattle.wave_base.specs.declared.shape.Shape.{Shape}
use Rattle.wave_base.specs.declared.shot.Shot.{Shot}
use Rattle.wave_base.specs.declared.value.Value.{Value}
use Rattle.wave_base.specs.declared.value.Value.TheVariants as value
use Rattle.wave_base.specs.Paths.{path_cmp, path_eq, parent_of}
use Rattle.path_text.specs.Found.{IsPath}
use Rattle.wave_base.specs.Tables.{IsTable}
use Rattle.wave_base.specs.Text.{IsText}
use Rattle.wave_base.specs.Trees.{HasKinds}

-- ---- one shot

-- numbers of 64 bits, texts and maps as long as they may be
abbrev pub IsValue : Value → Type 0
IsValue (value.Int z) = FitsSigned w64 z
IsValue (value.Bool b) = Unit {0}
IsValue (value.Str t) = IsText t
IsValue (value.Map pairs) = IsTable pairs × All (λ (p : ℤ × ℤ). FitsSigned w64 p.0 × FitsSigned w64 p.1) pairs

-- a path of the shape, and a value of its kind for each field of the class
pub record IsShot (shape : Shape) (s : Shot) : Type 0 where
  pub path : IsPath shape s.path
  pub kinds : HasKinds shape s.path s.fields
  pub values : All IsValue s.fields

-- ---- their order

abbrev pub is_less : Ordering → Bool
is_less Less = true
is_less _ = false

-- the path stands behind the last one
abbrev pub is_behind : List Path → Path → Bool
is_behind [] p = true
is_behind (q ∷ []) p = is_less (path_cmp q p)
is_behind (q ∷ r ∷ qs) p = is_behind (r ∷ qs) p

-- the first path is the root's; each other stands behind the one before it, and its parent is among those before
abbrev pub comes_next : List Path → Path → Bool
comes_next [] [] = true
comes_next [] (s ∷ p) = false
comes_next (q ∷ qs) p = is_behind (q ∷ qs) p && list_any (path_eq (parent_of p)) (q ∷ qs)

-- each of these comes next, behind those before it
abbrev pub are_in_order : List Path → List Path → Bool
are_in_order before [] = true
are_in_order before (p ∷ ps) = comes_next before p && are_in_order (before ++ p ∷ []) ps

abbrev pub paths_of : List Shot → List Path
paths_of shots = map (λ s. s.path) shots

-- the contexts of a tree, the root first
pub record AreShots (shape : Shape) (shots : List Shot) : Type 0 where
  pub some : shots ≡ [] → ⊥
  pub each : All (IsShot shape) shots
  pub order : are_in_order [] (paths_of shots) ≡ true

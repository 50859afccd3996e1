-- The class of the context at a path.
use Rattle.std.proofs.Common.{◌≡◌, ℕ, ◌<◌, Bool, true, false, ◌&&◌, List, [], ◌∷◌, length, Option, Some, None, slice_get, refl, sym, ◌∙◌, arith}
use mathlib.Core.Bool.{true≢false}
use Rattle.std.proofs.lemmas.Option.{slice_get_within}
use Rattle.wave_base.specs.declared.path.Path.{Path}
use Rattle.wave_base.specs.declared.path.Step.{Step}
use Rattle.wave_base.specs.declared.shape.ClassInfo.{ClassInfo}
use Rattle.wave_base.specs.declared.shape.Shape.{Shape}
use Rattle.wave_base.specs.Paths.{parent_of}
use Rattle.wave_base.specs.Shapes.{class_from, is_class, parent_in, parent_class, is_path_from}
use Rattle.context_tree.specs.Contexts.{Contexts, is_there}

first_true : (a b : Bool) → (a && b) ≡ true → (a ≡ true) × (b ≡ true)
first_true true b h = (refl, h)
first_true false b h = absurd (true≢false (sym h))

-- a class that has a parent is one of the shape's
has_parent : (shape : Shape) (c d : ℕ) → is_class c (parent_class shape d) ≡ true → d < length shape.classes
has_parent shape c d h = by_class (slice_get shape.classes d) refl h
  where
    by_class : (o : Option ClassInfo) → slice_get shape.classes d ≡ o → is_class c (parent_in o) ≡ true → d < length shape.classes
    by_class None e i = absurd (true≢false (sym i))
    by_class (Some x) e i = slice_get_within shape.classes d x e

-- the class of a path of the shape is one of the shape's
pub class_below : (shape : Shape) (c : ℕ) (p : List Step) → is_path_from shape c p ≡ true → 0 < length p → class_from c p < length shape.classes
class_below shape c [] h l = absurd (omega arith)
class_below shape c (s ∷ []) h l = has_parent shape c s.class.0 (first_true (is_class c (parent_class shape s.class.0)) true h).0
class_below shape c (s ∷ t ∷ p) h l =
    class_below shape s.class.0 (t ∷ p) (first_true (is_class c (parent_class shape s.class.0)) (is_path_from shape s.class.0 (t ∷ p)) h).1 (omega arith)

-- a path whose parent is there and which is not there itself is not the root's
pub not_root : (t : Contexts) (p : Path) → is_there t (parent_of p) ≡ true → is_there t p ≡ false → 0 < length p
not_root t [] h a = absurd (true≢false (sym h ∙ a))
not_root t (s ∷ p) h a = omega arith

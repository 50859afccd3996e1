-- What a run begins with.
use Rattle.std.proofs.Common.{◌≡◌, ◌<◌, ◌≤◌, ℕ, true, if◌then◌else◌, List, [], ◌∷◌, length, All, nat_lt, refl, sym, ap, subst, arith, lt-ltb}
use Rattle.std.proofs.lemmas.List.Elements.{All-nil, All-cons, All-head, All-tail}
use Rattle.wave_base.specs.declared.finished.Place.{Place}
use Rattle.wave_base.specs.declared.path.Path.{Path}
use Rattle.wave_base.specs.declared.script.Line.{Line}
use Rattle.wave_base.specs.declared.shape.Shape.{Shape}
use Rattle.wave_base.specs.Fold.{next_batch, first_head, begun}
use Rattle.wave_base.specs.Shapes.{initial_fields}
use Rattle.wave_base.specs.Starts.{IsStart, first_start, start_tree, shown_fields}
use Rattle.wave_base.specs.Trees.{FitsShape, first_tree}

pub first_again : (batches : List (List Line)) → All (λ (b : List Line). 0 < length b) batches → next_batch (first_head batches) ≡ first_head batches
first_again [] h = refl
first_again (b ∷ bs) h =
    let some : nat_lt 0 (length b) ≡ true = lt-ltb 0 (length b) (All-head (λ (b : List Line). 0 < length b) b bs h) in
    ap (λ t. if t then record { known = b; later = bs; done = 0 } else begun (record { known = b; later = bs; done = 0 }) bs) some

pub first_full : (batches : List (List Line)) → All (λ (b : List Line). 0 < length b) batches → All (λ (b : List Line). 0 < length b) (first_head batches).later
first_full [] h = All-nil (λ (b : List Line). 0 < length b)
first_full (b ∷ bs) h = All-tail (λ (b : List Line). 0 < length b) b bs h

-- the root's fields are the initial ones
first_tree_is : (shape : Shape) → start_tree shape (first_start shape) ≡ first_tree shape
first_tree_is shape i = record { paths = [] ∷ []; fields = λ p. shown p i }
  where
    shown : (p : Path) → shown_fields shape (first_start shape).shots p ≡ initial_fields shape p
    shown [] = refl
    shown (s ∷ p) = refl

pub first_fits : (shape : Shape) (count : ℕ) → FitsShape shape (first_tree shape) → 1 ≤ count → IsStart shape count (first_start shape)
first_fits shape count fits some = record {
  tree = subst (FitsShape shape) (sym (first_tree_is shape)) fits;
  root = refl;
  places = refl;
  hosts = All-cons (λ (x : Place). x.host.0 < count) (record { path = []; host = record { 0 = 0 } }) [] (omega (arith, some)) (All-nil (λ (x : Place). x.host.0 < count));
  few = omega arith;
  first_next = omega arith;
  last_next = omega arith;
}

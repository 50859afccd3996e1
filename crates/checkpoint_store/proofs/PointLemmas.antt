-- A start that fits a shape has the shots of a snapshot, and the shots of a snapshot are those of such a start.
use Rattle.std.proofs.Common.{◌≡◌, ◌≤◌, ◌<◌, ℕ, true, List, [], ◌∷◌, length, map, All, refl}
use Rattle.std.specs.List.{AllByRecursion}
use Rattle.std.proofs.lemmas.List.Elements.{All-from_recursion, recursion_from_All}
use Rattle.wave_base.specs.declared.finished.Place.{Place}
use Rattle.wave_base.specs.declared.path.Path.{Path}
use Rattle.wave_base.specs.declared.shape.Shape.{Shape}
use Rattle.wave_base.specs.declared.shot.Shot.{Shot}
use Rattle.wave_base.specs.declared.start.Start.{Start}
use Rattle.wave_base.specs.Paths.{parent_of}
use Rattle.wave_base.specs.Shapes.{is_path}
use Rattle.wave_base.specs.Starts.{IsStart, start_tree, shown_fields}
use Rattle.wave_base.specs.Tree.{there}
use Rattle.wave_base.specs.Trees.{HasKinds, FitsShape}
use Rattle.path_text.specs.Found.{HasKeys}
use Rattle.snapshot_text.specs.Shots.{IsValue, IsShot, AreShots, paths_of}
use Rattle.checkpoint_store.proofs.OrderLemmas.{rec_both, rec_weaker, in_order_sorted, in_order_parents, in_order_root, sorted_in_order}
use Rattle.checkpoint_store.proofs.ShownLemmas.{kinds_shown, shown_kinds, shown_absent}

over_paths : (P : Path → Type 0) (ss : List Shot) → AllByRecursion (λ (s : Shot). P s.path) ss → AllByRecursion P (paths_of ss)
over_paths P [] h = tt
over_paths P (s ∷ ss) h = (h.0, over_paths P ss h.1)

from_paths : (P : Path → Type 0) (ss : List Shot) → AllByRecursion P (paths_of ss) → AllByRecursion (λ (s : Shot). P s.path) ss
from_paths P [] h = tt
from_paths P (s ∷ ss) h = (h.0, from_paths P ss h.1)

module _ (shape : Shape) (start : Start) where
  -- ---- what was read fits

  pub shots_fit : AreShots shape start.shots → FitsShape shape (start_tree shape start)
  shots_fit h =
      let each = recursion_from_All (IsShot shape) start.shots h.each in
      let sorted = in_order_sorted (paths_of start.shots) h.order in
      record {
        ordered = sorted;
        paths = All-from_recursion (λ p. is_path shape p ≡ true) (paths_of start.shots) (over_paths (λ p. is_path shape p ≡ true) start.shots (rec_weaker (IsShot shape) (λ (s : Shot). is_path shape s.path ≡ true) (λ s k. k.path.path) start.shots each));
        parents = All-from_recursion (λ p. there (start_tree shape start) (parent_of p) ≡ true) (paths_of start.shots) (in_order_parents (paths_of start.shots) h.order);
        kinds = All-from_recursion (λ p. HasKinds shape p (shown_fields shape start.shots p)) (paths_of start.shots)
            (kinds_shown shape start.shots sorted (rec_weaker (IsShot shape) (λ (s : Shot). HasKinds shape s.path s.fields) (λ s k. k.kinds) start.shots each));
        absent = shown_absent shape start.shots;
      }

  pub is_start : (hosts : ℕ) → AreShots shape start.shots → map (λ x. x.path) start.places ≡ paths_of start.shots → All (λ (x : Place). x.host.0 < hosts) start.places
      → length start.shots ≤ 1000000000 → 1 ≤ start.next.0 → start.next.0 ≤ 2000000000 → IsStart shape hosts start
  is_start hosts h paths below few first last = record {
    tree = shots_fit h;
    root = in_order_root (paths_of start.shots) (some start.shots h.some) h.order;
    places = paths;
    hosts = below;
    few = few;
    first_next = first;
    last_next = last;
  }
    where
      some : (ss : List Shot) → (ss ≡ [] → ⊥) → paths_of ss ≡ [] → ⊥
      some [] n e = n refl
      some (s ∷ ss) n e = cc

  -- ---- what fits can be written

  record IsHalf (s : Shot) : Type 0 where
    path : is_path shape s.path ≡ true
    kinds : HasKinds shape s.path s.fields

  record IsWhole (s : Shot) : Type 0 where
    keys : HasKeys s.path
    values : All IsValue s.fields

  pub are_shots : (hosts : ℕ) → IsStart shape hosts start → All (λ (s : Shot). All IsValue s.fields) start.shots → All (λ (s : Shot). HasKeys s.path) start.shots → AreShots shape start.shots
  are_shots hosts h values keys = record {
    some = λ e. no_root start.shots e h.root;
    each = All-from_recursion (IsShot shape) start.shots (rec_both IsHalf IsWhole (IsShot shape) (λ s a b. record { path = record { path = a.path; keys = b.keys }; kinds = a.kinds; values = b.values }) start.shots half whole);
    order = sorted_in_order (paths_of start.shots) h.tree.ordered (recursion_from_All (λ p. there (start_tree shape start) (parent_of p) ≡ true) (paths_of start.shots) h.tree.parents) h.root;
  }
    where
      no_root : (ss : List Shot) → ss ≡ [] → there (start_tree shape (record { shots = ss; places = []; next = record { 0 = 1 } })) [] ≡ true → ⊥
      no_root [] e r = cc
      no_root (s ∷ ss) e r = cc

      half : AllByRecursion IsHalf start.shots
      half =
          rec_both (λ (s : Shot). is_path shape s.path ≡ true) (λ (s : Shot). HasKinds shape s.path s.fields) IsHalf (λ s a b. record { path = a; kinds = b }) start.shots
          (from_paths (λ p. is_path shape p ≡ true) start.shots (recursion_from_All (λ p. is_path shape p ≡ true) (paths_of start.shots) h.tree.paths))
          (shown_kinds shape start.shots h.tree.ordered (recursion_from_All (λ p. HasKinds shape p (shown_fields shape start.shots p)) (paths_of start.shots) h.tree.kinds))

      whole : AllByRecursion IsWhole start.shots
      whole =
          rec_both (λ (s : Shot). HasKeys s.path) (λ (s : Shot). All IsValue s.fields) IsWhole (λ s a b. record { keys = a; values = b }) start.shots
          (recursion_from_All (λ (s : Shot). HasKeys s.path) start.shots keys) (recursion_from_All (λ (s : Shot). All IsValue s.fields) start.shots values)

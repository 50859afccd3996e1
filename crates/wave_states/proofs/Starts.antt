-- A Start that fits a shape is a beginning that fits.
use Rattle.std.proofs.Common.{◌≡◌, ◌<◌, ℕ, ◌||◌, Bool, true, false, List, [], ◌∷◌, refl, sym, ◌∙◌, ap, subst}
use Rattle.std.specs.Prelude.{map, if◌then◌else◌}
use Rattle.std.specs.List.{list_any, AllByRecursion}
use Rattle.std.proofs.lemmas.List.Elements.{recursion_from_All}
use mathlib.Core.Bool.{true≢false}
use mathlib.Core.Path.{fun_ext}
use Rattle.wave_base.specs.declared.path.Path.{Path}
use Rattle.wave_base.specs.declared.finished.Place.{Place}
use Rattle.wave_base.specs.declared.shape.Shape.{Shape}
use Rattle.wave_base.specs.declared.start.Start.{Start}
use Rattle.wave_base.specs.declared.value.Value.{Value}
use Rattle.wave_base.specs.Paths.{path_eq, parent_of}
use Rattle.wave_base.specs.PathLaws.{path_eq_decides, path_eq_equiv}
use Rattle.wave_base.specs.Shapes.{is_path, initial_fields, fields_of_class}
use Rattle.wave_base.specs.Tree.{there}
use Rattle.wave_base.specs.Trees.{HasKinds}
use Rattle.wave_base.specs.Starts.{IsStart, first_start, start_tree, shown_host}
use Rattle.wave_states.specs.Begins.{begin_of, first_begin}
use Rattle.wave_states.specs.Kinds.{Kind}
use Rattle.wave_states.specs.Owes.{IsBegin}

bool_swap : (p q : Path) → path_eq p q ≡ true → path_eq q p ≡ true
bool_swap p q e = subst (λ r. path_eq r p ≡ true) ((path_eq_decides p q).0 e) (path_eq_equiv.refl p)

-- what holds of each path of a list holds of one that is in it
at_path : (P : Path → Type 0) (ps : List Path) → AllByRecursion P ps → (q : Path) → list_any (path_eq q) ps ≡ true → P q
at_path P [] h q e = absurd (true≢false (sym e))
at_path P (p ∷ ps) h q e = by (path_eq q p) refl e (at_path P ps h.1 q)
  where
    by : (i : Bool) → path_eq q p ≡ i → (i || list_any (path_eq q) ps) ≡ true → (list_any (path_eq q) ps ≡ true → P q) → P q
    by true z e f = subst P (sym ((path_eq_decides q p).0 z)) h.0
    by false z e f = f e

host_within : (count : ℕ) (xs : List Place) → AllByRecursion (λ (x : Place). x.host.0 < count) xs → (q : Path) → list_any (path_eq q) (map (λ x. x.path) xs) ≡ true → shown_host xs q < count
host_within count [] h q e = absurd (true≢false (sym e))
host_within count (x ∷ xs) h q e = by (path_eq x.path q) refl (host_within count xs h.1 q)
  where
    off : (i : Bool) → i ≡ false → (i || list_any (path_eq q) (map (λ x. x.path) xs)) ≡ true → list_any (path_eq q) (map (λ x. x.path) xs) ≡ true
    off true z e = absurd (true≢false z)
    off false z e = e

    not_other : (i : Bool) → path_eq q x.path ≡ i → path_eq x.path q ≡ false → i ≡ false
    not_other false y z = refl
    not_other true y z = absurd (true≢false (sym (bool_swap q x.path y) ∙ z))

    by : (i : Bool) → path_eq x.path q ≡ i → (list_any (path_eq q) (map (λ x. x.path) xs) ≡ true → shown_host xs q < count) → (if i then x.host.0 else shown_host xs q) < count
    by true z f = h.0
    by false z f = f (off (path_eq q x.path) (not_other (path_eq q x.path) refl z) e)

module _ {A R J : Type 0} (kind : Kind A (List Value) R J) (shape : Shape) (initial : (p : Path) → kind.system.initial p ≡ initial_fields shape p) (begins : (p : Path) → kind.fits p (kind.system.initial p))
    (kinds : (p : Path) (f : List Value) → is_path shape p ≡ true → HasKinds shape p f → kind.fits p f) where
  pub start_fits : (start : Start) → IsStart shape kind.hosts start → IsBegin kind (begin_of shape start)
  start_fits start s = record {
    ordered = s.tree.ordered;
    root = s.root;
    parents = λ p e. at_path (λ p. there (start_tree shape start) (parent_of p) ≡ true) (start_tree shape start).paths (recursion_from_All (λ p. there (start_tree shape start) (parent_of p) ≡ true) (start_tree shape start).paths s.tree.parents) p e;
    fields = λ p. by p (there (start_tree shape start) p) refl;
    absent = λ p e. s.tree.absent p e ∙ sym (initial p);
    places = s.places;
    within = λ p e. host_within kind.hosts start.places (recursion_from_All (λ (x : Place). x.host.0 < kind.hosts) start.places s.hosts) p (ap (λ ps. list_any (path_eq p) ps) s.places ∙ e);
  }
    where
      by : (p : Path) (i : Bool) → there (start_tree shape start) p ≡ i → kind.fits p ((start_tree shape start).fields p)
      by p true e = kinds p ((start_tree shape start).fields p) (at_path (λ p. is_path shape p ≡ true) (start_tree shape start).paths (recursion_from_All (λ p. is_path shape p ≡ true) (start_tree shape start).paths s.tree.paths) p e)
          (at_path (λ p. HasKinds shape p ((start_tree shape start).fields p)) (start_tree shape start).paths (recursion_from_All (λ p. HasKinds shape p ((start_tree shape start).fields p)) (start_tree shape start).paths s.tree.kinds) p e)
      by p false e = subst (kind.fits p) (initial p ∙ sym (s.tree.absent p e)) (begins p)

-- the first Start is the first beginning
pub first_is : (shape : Shape) → begin_of shape (first_start shape) ≡ first_begin (initial_fields shape)
first_is shape i = record {
  tree = record { paths = [] ∷ []; fields = fields_same i };
  places = record { paths = [] ∷ []; fields = hosts_same i };
  before = 0;
}
  where
    at_root : (p : Path) → (if path_eq [] p then fields_of_class shape 0 else initial_fields shape p) ≡ initial_fields shape p
    at_root [] = refl
    at_root (s ∷ p) = refl

    fields_same : (λ p. if path_eq [] p then fields_of_class shape 0 else initial_fields shape p) ≡ initial_fields shape
    fields_same = fun_ext at_root

    host_zero : (p : Path) → ◌≡◌ {A = ℕ} (if path_eq [] p then 0 else 0) 0
    host_zero [] = refl
    host_zero (s ∷ p) = refl

    hosts_same : ◌≡◌ {A = Path → ℕ} (λ p. if path_eq [] p then 0 else 0) (λ p. 0)
    hosts_same = fun_ext host_zero

-- Trees that fit a shape stay so.
use Rattle.std.proofs.Common.{◌≡◌, ℕ, zero, suc, Bool, true, false, if◌then◌else◌, ◌||◌, List, [], ◌∷◌, map, Option, Some, None, slice_get, slice_set, refl, sym, ap, subst, ◌∙◌}
use mathlib.Core.Bool.{true≢false}
use Rattle.std.proofs.lemmas.List.Elements.{All-nil, All-cons, All-head, All-tail, All-weaker}
use Rattle.std.proofs.lemmas.Map.Views.{All-insert_key}
use Rattle.std.proofs.lemmas.Option.{get_or_from_slice_get, slice_get_within}
use Rattle.std.specs.List.{list_any, All}
use Rattle.std.specs.List.Sorted.{IsStrictlySortedBy}
use Rattle.wave_base.proofs.Trees.{enter_sorted, enter_there, there-enter}
use Rattle.wave_base.specs.declared.path.Path.{Path}
use Rattle.wave_base.specs.declared.shape.ClassInfo.{ClassInfo}
use Rattle.wave_base.specs.declared.shape.FieldInfo.{FieldInfo}
use Rattle.wave_base.specs.declared.shape.Shape.{Shape}
use Rattle.wave_base.specs.declared.value.Kind.{Kind}
use Rattle.wave_base.specs.declared.value.Value.{Value}
use Rattle.wave_base.specs.Paths.{path_eq, path_cmp, parent_of}
use Rattle.wave_base.specs.PathLaws.{path_eq_decides}
use Rattle.wave_base.specs.Shapes.{IsShape, HasInitials, is_path, class_of, fields_in, fields_of_class, initial_fields, kinds_of_class}
use Rattle.wave_base.specs.Tree.{Tree, there, enter}
use Rattle.wave_base.specs.Trees.{first_tree, HasKinds, FitsShape}
use Rattle.wave_base.specs.Values.{kind_of}
use Rattle.context_tree.specs.Contexts.{with_field}

or_true : (a : Bool) → (a || true) ≡ true
or_true true = refl
or_true false = refl

or_false : (a b : Bool) → (a || b) ≡ false → b ≡ false
or_false true b h = absurd (true≢false h)
or_false false b h = h

-- initial values have the kinds of their fields
initial_kinds : (fields : List FieldInfo) → All (λ (f : FieldInfo). kind_of f.initial ≡ f.kind) fields → map kind_of (map (λ f. f.initial) fields) ≡ map (λ f. f.kind) fields
initial_kinds [] h = refl
initial_kinds (f ∷ fields) h = λ i. All-head (λ (f : FieldInfo). kind_of f.initial ≡ f.kind) f fields h i ∷ initial_kinds fields (All-tail (λ (f : FieldInfo). kind_of f.initial ≡ f.kind) f fields h) i

set_kind : (fields : List Value) (i : ℕ) (value : Value) (k : Kind) → slice_get (map kind_of fields) i ≡ Some k → kind_of value ≡ k → map kind_of (slice_set fields i value) ≡ map kind_of fields
set_kind [] i value k h e = refl
set_kind (v ∷ fields) zero value k h e = let same : kind_of v ≡ k = cc in ap (λ x. x ∷ map kind_of fields) (e ∙ sym same)
set_kind (v ∷ fields) (suc i) value k h e = ap (λ ks. kind_of v ∷ ks) (set_kind fields i value k h e)

-- a test that fails at q fails at what is equal to q
not_there : (ps : List Path) (p q : Path) → list_any (path_eq p) ps ≡ true → list_any (path_eq q) ps ≡ false → path_eq p q ≡ false
not_there ps p q h a =
    elim (path_eq p q) as (λ b. path_eq p q ≡ b → b ≡ false) [
      | true ↦ λ e. absurd (true≢false (sym h ∙ ap (λ r. list_any (path_eq r) ps) ((path_eq_decides p q).0 e) ∙ a))
      | false ↦ λ e. refl
    ] refl

choose_false : {A : Type 0} (b : Bool) (x y : A) → b ≡ false → (if b then x else y) ≡ y
choose_false b x y e = rw e refl

pub set_fits : (shape : Shape) (t : Tree (List Value)) (p : Path) (field : ℕ) (value : Value) → FitsShape shape t → there t p ≡ true → slice_get (kinds_of_class shape (class_of p)) field ≡ Some (kind_of value) → FitsShape shape (with_field t p field value)
set_fits shape t p field value fits h kind = record {
  ordered = fits.ordered;
  paths = fits.paths;
  parents = fits.parents;
  kinds = All-weaker (λ q. HasKinds shape q (t.fields q)) (λ q. HasKinds shape q (if path_eq p q then slice_set (t.fields p) field value else t.fields q)) one t.paths fits.kinds;
  absent = λ q a. choose_false (path_eq p q) (slice_set (t.fields p) field value) (t.fields q) (not_there t.paths p q h a) ∙ fits.absent q a;
}
  where
    here : HasKinds shape p (t.fields p) → HasKinds shape p (slice_set (t.fields p) field value)
    here k = set_kind (t.fields p) field value (kind_of value) (ap (λ ks. slice_get ks field) k ∙ kind) refl ∙ k

    one : (q : Path) → HasKinds shape q (t.fields q) → HasKinds shape q (if path_eq p q then slice_set (t.fields p) field value else t.fields q)
    one q k =
        elim (path_eq p q) as (λ b. path_eq p q ≡ b → HasKinds shape q (if b then slice_set (t.fields p) field value else t.fields q)) [
          | true ↦ λ e. let same : p ≡ q = (path_eq_decides p q).0 e in subst (λ r. HasKinds shape r (slice_set (t.fields p) field value)) same (here (subst (λ r. HasKinds shape r (t.fields r)) (sym same) k))
          | false ↦ λ e. k
        ] refl

module _ (shape : Shape) (is : IsShape shape) where
  class_kinds : (c : ℕ) → map kind_of (fields_of_class shape c) ≡ kinds_of_class shape c
  class_kinds c = by_class (slice_get shape.classes c) refl
    where
      by_class : (o : Option ClassInfo) → slice_get shape.classes c ≡ o → map kind_of (map (λ f. f.initial) (fields_in o)) ≡ map (λ f. f.kind) (fields_in o)
      by_class None e = refl
      by_class (Some info) e = initial_kinds info.fields (subst HasInitials (get_or_from_slice_get shape.classes c info info e) (is.initials c info (slice_get_within shape.classes c info e)))

  initial_has_kinds : (p : Path) → HasKinds shape p (initial_fields shape p)
  initial_has_kinds p = class_kinds (class_of p)

  pub first_fits : FitsShape shape (first_tree shape)
  unfolding IsStrictlySortedBy
  first_fits = record {
    ordered = (tt, tt);
    paths = All-cons (λ p. is_path shape p ≡ true) [] [] refl (All-nil (λ p. is_path shape p ≡ true));
    parents = All-cons (λ p. there (first_tree shape) (parent_of p) ≡ true) [] [] refl (All-nil (λ p. there (first_tree shape) (parent_of p) ≡ true));
    kinds = All-cons (λ p. HasKinds shape p (initial_fields shape p)) [] [] (initial_has_kinds []) (All-nil (λ p. HasKinds shape p (initial_fields shape p)));
    absent = λ p a. refl;
  }

  -- where a path is not there, it joins with what it has
  module _ (t : Tree (List Value)) (p : Path) (fits : FitsShape shape t) (of_shape : is_path shape p ≡ true) (parent : there t (parent_of p) ≡ true) where
    still_there : (q : Path) → there t q ≡ true → there (enter t p) q ≡ true
    still_there q h = there-enter t p q ∙ ap (λ b. path_eq q p || b) h ∙ or_true (path_eq q p)

    still_absent : (q : Path) → there (enter t p) q ≡ false → there t q ≡ false
    still_absent q h = or_false (path_eq q p) (there t q) (sym (there-enter t p q) ∙ h)

    joined : there t p ≡ false → FitsShape shape (enter t p)
    joined a = record {
      ordered = enter_sorted t p fits.ordered;
      paths = All-insert_key path_cmp p (λ q. is_path shape q ≡ true) t.paths fits.paths of_shape;
      parents = All-insert_key path_cmp p (λ q. there (enter t p) (parent_of q) ≡ true) t.paths
          (All-weaker (λ q. there t (parent_of q) ≡ true) (λ q. there (enter t p) (parent_of q) ≡ true) (λ q. still_there (parent_of q)) t.paths fits.parents) (still_there (parent_of p) parent);
      kinds = All-insert_key path_cmp p (λ q. HasKinds shape q (t.fields q)) t.paths fits.kinds (subst (HasKinds shape p) (sym (fits.absent p a)) (initial_has_kinds p));
      absent = λ q b. fits.absent q (still_absent q b);
    }

    pub enter_fits : FitsShape shape (enter t p)
    enter_fits =
        elim (there t p) as (λ b. there t p ≡ b → FitsShape shape (enter t p)) [
          | true ↦ λ h. subst (FitsShape shape) (sym (enter_there t p fits.ordered h)) fits
          | false ↦ λ a. joined a
        ] refl

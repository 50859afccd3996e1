-- Paths and their classes, a step down and a step up.
use Rattle.std.proofs.Common.{◌≡◌, ℕ, suc, ◌+◌, ◌<◌, ◌≤◌, ◌&&◌, ◌||◌, Bool, true, false, List, [], ◌∷◌, ◌++◌, length, pos, Option, Some, None, ◌⊎◌, inl, inr, refl, ap, sym, subst, ◌∙◌, arith}
use Rattle.std.specs.Prelude.{slice_get}
use mathlib.Core.Bool.{true≢false}
use Rattle.std.proofs.lemmas.Bool.{cases_lt}
use Rattle.std.proofs.lemmas.Bool.Decides.{nat_tests}
use Rattle.std.proofs.lemmas.List.{length-append}
use Rattle.std.proofs.lemmas.List.Elements.{All-head, All-tail, All-weaker}
use Rattle.std.proofs.lemmas.Map.Views.{All-insert_key}
use Rattle.std.proofs.lemmas.Option.{slice_get_within}
use Rattle.std.specs.List.{list_any, All}
use Rattle.wave_base.proofs.Trees.{there-enter}
use Rattle.wave_base.specs.declared.path.Class.{Class}
use Rattle.wave_base.specs.declared.path.Path.{Path}
use Rattle.wave_base.specs.declared.path.Step.{Step}
use Rattle.wave_base.specs.declared.shape.ClassInfo.{ClassInfo}
use Rattle.wave_base.specs.declared.shape.Shape.{Shape}
use Rattle.wave_base.specs.declared.value.Value.{Value}
use Rattle.wave_base.specs.Paths.{path_eq, path_cmp, parent_of}
use Rattle.wave_base.specs.PathLaws.{path_eq_decides}
use Rattle.wave_base.specs.Shapes.{class_from, class_of, parent_in, parent_class, is_class, is_path_from, is_path, passes_root, IsShape}
use Rattle.wave_base.specs.Tree.{Tree, there, enter}
use Rattle.resolved_service.specs.Fits.{IsChildClass}
use Rattle.service_eval.specs.Worlds.{Holds}

and_left : {P : Type 0} (a b : Bool) → (a && b) ≡ true → (a ≡ true → b ≡ true → P) → P
and_left true true e go = go refl refl
and_left true false e go = cc
and_left false b e go = cc

class_from-append : (c : ℕ) (p : List Step) (s : Step) → class_from c (p ++ s ∷ []) ≡ s.class.0
class_from-append c [] s = refl
class_from-append c (t ∷ p) s = class_from-append t.class.0 p s

pub class_of-child : (p : Path) (s : Step) → class_of (p ++ s ∷ []) ≡ s.class.0
class_of-child p s = class_from-append 0 p s

pub parent_of-child : (p : Path) (s : Step) → parent_of (p ++ s ∷ []) ≡ p
parent_of-child [] s = refl
parent_of-child (t ∷ []) s = refl
parent_of-child (t ∷ u ∷ p) s = ap (λ q. t ∷ q) (parent_of-child (u ∷ p) s)

module _ (shape : Shape) where
  child_from : (c : ℕ) (p : List Step) (s : Step) → is_path_from shape c p ≡ true → is_class (class_from c p) (parent_class shape s.class.0) ≡ true → is_path_from shape c (p ++ s ∷ []) ≡ true
  child_from c [] s h e = ap (λ b. b && true) e
  child_from c (t ∷ p) s h e = and_left (is_class c (parent_class shape t.class.0)) (is_path_from shape t.class.0 p) h (λ a b. (λ i. a i && child_from t.class.0 p s b e i))

  pub is_path-child : (p : Path) (s : Step) → is_path shape p ≡ true → IsChildClass shape (class_of p) s.class.0 → is_path shape (p ++ s ∷ []) ≡ true
  is_path-child p s h e = child_from 0 p s h e

  parent_from : (c : ℕ) (p : Path) → is_path_from shape c p ≡ true → is_path_from shape c (parent_of p) ≡ true
  parent_from c [] h = refl
  parent_from c (s ∷ []) h = refl
  parent_from c (s ∷ t ∷ p) h = and_left (is_class c (parent_class shape s.class.0)) (is_path_from shape s.class.0 (t ∷ p)) h (λ a b. (λ i. a i && parent_from s.class.0 (t ∷ p) b i))

  pub is_path-parent : (p : Path) → is_path shape p ≡ true → is_path shape (parent_of p) ≡ true
  is_path-parent p h = parent_from 0 p h

  -- a class that stands in another one
  parent_is : (c : ℕ) (o : Option Class) → is_class c o ≡ true → (d : Class) × (o ≡ Some d) × (d.0 ≡ c)
  parent_is c None e = cc
  parent_is c (Some d) e = (d, refl, grind (arith, nat_tests))

  root_passed : (c : ℕ) (p : List Step) (j : ℕ) → is_path_from shape c p ≡ true → passes_root shape (length p + j) (parent_class shape (class_from c p)) ≡ passes_root shape j (parent_class shape c)
  root_passed c [] j h = let e : 0 + j ≡ j = omega arith in ap (λ n. passes_root shape n (parent_class shape c)) e
  root_passed c (s ∷ p) j h =
      and_left (is_class c (parent_class shape s.class.0)) (is_path_from shape s.class.0 p) h (λ a b.
      let d = parent_is c (parent_class shape s.class.0) a in
      let e : suc (length p) + j ≡ length p + suc j = omega arith in
      ap (λ n. passes_root shape n (parent_class shape (class_from s.class.0 p))) e
      ∙ root_passed s.class.0 p (suc j) b
      ∙ ap (passes_root shape (suc j)) d.1
      ∙ ap (λ n. passes_root shape j (parent_class shape n)) d.2)

  longer : (c : ℕ) (p : List Step) (m : ℕ) → is_path_from shape c p ≡ true → m < length p → passes_root shape m (parent_class shape (class_from c p)) ≡ false
  longer c [] m h lt = absurd (omega arith)
  longer c (s ∷ p) m h lt =
      and_left (is_class c (parent_class shape s.class.0)) (is_path_from shape s.class.0 p) h (λ a b. go a b (cases_lt m (length p)) (λ l. longer s.class.0 p m b l))
    where
      go : is_class c (parent_class shape s.class.0) ≡ true → is_path_from shape s.class.0 p ≡ true → m < length p ⊎ length p ≤ m → (m < length p → passes_root shape m (parent_class shape (class_from s.class.0 p)) ≡ false) → passes_root shape m (parent_class shape (class_from s.class.0 p)) ≡ false
      go a b (inl l) rest = rest l
      go a b (inr l) rest =
          let d = parent_is c (parent_class shape s.class.0) a in
          let e : m ≡ length p + 0 = omega (arith, lt, l) in
          ap (λ n. passes_root shape n (parent_class shape (class_from s.class.0 p))) e
          ∙ root_passed s.class.0 p 0 b ∙ ap (passes_root shape 0) d.1

  child_there : (c d : ℕ) → IsChildClass shape c d → d < length shape.classes
  child_there c d h = go (slice_get shape.classes d) refl h
    where
      go : (o : Option ClassInfo) → slice_get shape.classes d ≡ o → is_class c (parent_in o) ≡ true → d < length shape.classes
      go None e i = absurd (true≢false (sym i))
      go (Some x) e i = slice_get_within shape.classes d x e

  -- there is room for a step into a child class
  pub short_path : IsShape shape → (p : Path) (c : ℕ) → is_path shape p ≡ true → IsChildClass shape (class_of p) c → length p < 8
  short_path is p c h child =
      elim (cases_lt (length p) 8) [
        | inl l ↦ l
        | inr l ↦ absurd (true≢false (sym (is.depth c (child_there (class_of p) c child)) ∙ passed l))
      ]
    where
      s : Step
      s = record { class = record { 0 = c }; key = pos 0 }

      passed : 8 ≤ length p → passes_root shape 8 (parent_class shape c) ≡ false
      passed l =
          ap (λ d. passes_root shape 8 (parent_class shape d)) (sym (class_of-child p s))
          ∙ longer 0 (p ++ s ∷ []) 8 (is_path-child p s h child) (omega (arith, length-append p (s ∷ []), l))

-- what is there is one of the paths
pub all_there : (P : Path → Type 0) (ps : List Path) (p : Path) → list_any (path_eq p) ps ≡ true → All P ps → P p
all_there P [] p h all = absurd (true≢false (sym h))
all_there P (q ∷ ps) p h all =
    elim (path_eq p q) as (λ b. path_eq p q ≡ b → (b || list_any (path_eq p) ps) ≡ true → P p) [
      | true ↦ λ e k. subst P (sym ((path_eq_decides p q).0 e)) (All-head P q ps all)
      | false ↦ λ e k. all_there P ps p k (All-tail P q ps all)
    ] refl h

module _ (shape : Shape) (t : Tree (List Value)) (holds : Holds shape t) where
  pub parent_there : (p : Path) → there t p ≡ true → there t (parent_of p) ≡ true
  parent_there p h = all_there (λ p. there t (parent_of p) ≡ true) t.paths p h holds.parents

  or_true : (a : Bool) → (a || true) ≡ true
  or_true true = refl
  or_true false = refl

  pub still_there : (p q : Path) → there t q ≡ true → there (enter t p) q ≡ true
  still_there p q h = there-enter t p q ∙ ap (λ b. path_eq q p || b) h ∙ or_true (path_eq q p)

  -- a context joins below one that is there
  pub enter_holds : (p : Path) → is_path shape p ≡ true → there t (parent_of p) ≡ true → Holds shape (enter t p)
  enter_holds p h parent = record {
    paths = All-insert_key path_cmp p (λ q. is_path shape q ≡ true) t.paths holds.paths h;
    parents = All-insert_key path_cmp p (λ q. there (enter t p) (parent_of q) ≡ true) t.paths
        (All-weaker (λ q. there t (parent_of q) ≡ true) (λ q. there (enter t p) (parent_of q) ≡ true) (λ q. still_there p (parent_of q)) t.paths holds.parents) (still_there p (parent_of p) parent);
    root = still_there p [] holds.root;
  }

  pub entered_there : (p : Path) → there (enter t p) p ≡ true
  entered_there p = there-enter t p p ∙ ap (λ b. b || there t p) ((path_eq_decides p p).1 refl)

-- the same paths, with other fields
pub same_paths : (shape : Shape) (t u : Tree (List Value)) → t.paths ≡ u.paths → Holds shape t → Holds shape u
same_paths shape t u e h = record {
  paths = subst (All (λ p. is_path shape p ≡ true)) e h.paths;
  parents = subst (λ ps. All (λ p. list_any (path_eq (parent_of p)) ps ≡ true) ps) e h.parents;
  root = subst (λ ps. list_any (path_eq []) ps ≡ true) e h.root;
}

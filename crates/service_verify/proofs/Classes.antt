-- The classes along a path.
use Rattle.std.proofs.Common.{◌≡◌, ℕ, zero, suc, take, ◌+◌, ◌-◌, ◌<◌, ◌≤◌, ◌&&◌, Bool, true, false, List, [], ◌∷◌, ◌++◌, length, Option, Some, None, ◌⊎◌, inl, inr, refl, ap, sym, ◌∙◌, arith, append_assoc}
use Rattle.std.specs.Prelude.{reverse, slice_get}
use mathlib.Core.Bool.{true≢false}
use Rattle.std.proofs.lemmas.Bool.{cases_lt}
use Rattle.std.proofs.lemmas.Option.{slice_get_within}
use Rattle.std.proofs.lemmas.Bool.Decides.{nat_tests}
use Rattle.std.proofs.lemmas.List.{reverse-append, append-nil, reverse-reverse}
use Rattle.wave_base.specs.declared.path.Class.{Class}
use Rattle.wave_base.specs.declared.path.Path.{Path}
use Rattle.wave_base.specs.declared.path.Step.{Step}
use Rattle.wave_base.specs.declared.shape.ClassInfo.{ClassInfo}
use Rattle.wave_base.specs.declared.shape.Shape.{Shape}
use Rattle.wave_base.specs.Paths.{parent_of}
use Rattle.wave_base.specs.Shapes.{class_from, class_of, parent_in, parent_class, is_class, is_child_class, is_path_from, is_path, passes_root, IsShape}
use Rattle.service_verify.specs.Rules.{classes_above, levels_above}
use Rattle.service_verify.proofs.Judged.{some_same}

and_left : {P : Type 0} (a b : Bool) → (a && b) ≡ true → (a ≡ true → b ≡ true → P) → P
and_left true true e go = go refl refl
and_left true false e go = cc
and_left false b e go = cc

class_from-append : (c : ℕ) (p : List Step) (s : Step) → class_from c (p ++ s ∷ []) ≡ s.class.0
class_from-append c [] s = refl
class_from-append c (t ∷ p) s = class_from-append t.class.0 p s

pub class_of-child : (p : Path) (s : Step) → class_of (p ++ s ∷ []) ≡ s.class.0
class_of-child p s = class_from-append 0 p s

pub parent_of-child : (p : Path) (s : Step) → parent_of (p ++ s ∷ []) ≡ p
parent_of-child [] s = refl
parent_of-child (t ∷ []) s = refl
parent_of-child (t ∷ u ∷ p) s = ap (λ q. t ∷ q) (parent_of-child (u ∷ p) s)

module _ (shape : Shape) where
  child_from : (c : ℕ) (p : List Step) (s : Step) → is_path_from shape c p ≡ true → is_child_class shape (class_from c p) s.class.0 ≡ true → is_path_from shape c (p ++ s ∷ []) ≡ true
  child_from c [] s h e = ap (λ b. b && true) e
  child_from c (t ∷ p) s h e = and_left (is_class c (parent_class shape t.class.0)) (is_path_from shape t.class.0 p) h (λ a b. (λ i. a i && child_from t.class.0 p s b e i))

  pub is_path-child : (p : Path) (s : Step) → is_path shape p ≡ true → is_child_class shape (class_of p) s.class.0 ≡ true → is_path shape (p ++ s ∷ []) ≡ true
  is_path-child p s h e = child_from 0 p s h e

  front_from : (c : ℕ) (p : List Step) (s : Step) → is_path_from shape c (p ++ s ∷ []) ≡ true → is_path_from shape c p ≡ true
  front_from c [] s h = refl
  front_from c (t ∷ p) s h = and_left (is_class c (parent_class shape t.class.0)) (is_path_from shape t.class.0 (p ++ s ∷ [])) h (λ a b. (λ i. a i && front_from t.class.0 p s b i))

  pub is_path-parent : (p : Path) (s : Step) → is_path shape (p ++ s ∷ []) ≡ true → is_path shape p ≡ true
  is_path-parent p s h = front_from 0 p s h

  -- a class that stands in another one
  pub parent_is : (c : ℕ) (o : Option Class) → is_class c o ≡ true → (d : Class) × (o ≡ Some d) × (d.0 ≡ c)
  parent_is c None e = cc
  parent_is c (Some d) e = (d, refl, grind (arith, nat_tests))

  root_passed : (c : ℕ) (p : List Step) (j : ℕ) → is_path_from shape c p ≡ true → passes_root shape (length p + j) (parent_class shape (class_from c p)) ≡ passes_root shape j (parent_class shape c)
  root_passed c [] j h = let e : 0 + j ≡ j = omega arith in ap (λ n. passes_root shape n (parent_class shape c)) e
  root_passed c (s ∷ p) j h =
      and_left (is_class c (parent_class shape s.class.0)) (is_path_from shape s.class.0 p) h (λ a b.
      let d = parent_is c (parent_class shape s.class.0) a in
      let e : suc (length p) + j ≡ length p + suc j = omega arith in
      ap (λ n. passes_root shape n (parent_class shape (class_from s.class.0 p))) e
      ∙ root_passed s.class.0 p (suc j) b
      ∙ ap (passes_root shape (suc j)) d.1
      ∙ ap (λ n. passes_root shape j (parent_class shape n)) d.2)

  longer : (c : ℕ) (p : List Step) (m : ℕ) → is_path_from shape c p ≡ true → m < length p → passes_root shape m (parent_class shape (class_from c p)) ≡ false
  longer c [] m h lt = absurd (omega arith)
  longer c (s ∷ p) m h lt =
      and_left (is_class c (parent_class shape s.class.0)) (is_path_from shape s.class.0 p) h (λ a b. go a b (cases_lt m (length p)) (λ l. longer s.class.0 p m b l))
    where
      go : is_class c (parent_class shape s.class.0) ≡ true → is_path_from shape s.class.0 p ≡ true → m < length p ⊎ length p ≤ m → (m < length p → passes_root shape m (parent_class shape (class_from s.class.0 p)) ≡ false) → passes_root shape m (parent_class shape (class_from s.class.0 p)) ≡ false
      go a b (inl l) rest = rest l
      go a b (inr l) rest =
          let d = parent_is c (parent_class shape s.class.0) a in
          let e : m ≡ length p + 0 = omega (arith, lt, l) in
          ap (λ n. passes_root shape n (parent_class shape (class_from s.class.0 p))) e
          ∙ root_passed s.class.0 p 0 b ∙ ap (passes_root shape 0) d.1

  -- the classes above the last one, from c on
  abbrev pub classes_on : ℕ → List Step → List ℕ
  classes_on c [] = []
  classes_on c (s ∷ p) = c ∷ classes_on s.class.0 p

  on_path : (c : ℕ) (p : List Step) (l d : ℕ) → slice_get (classes_on c p) l ≡ Some d → (l < length p) × (class_from c (take l p) ≡ d)
  on_path c [] l d e = cc
  on_path c (s ∷ p) zero d e = (omega arith, some_same c d e)
  on_path c (s ∷ p) (suc l) d e = let r = on_path s.class.0 p l d e in (omega (arith, r.0), r.1)

  above_on : (c : ℕ) (p : List Step) (n : ℕ) → is_path_from shape c p ≡ true → classes_above shape (length p + n) (parent_class shape (class_from c p)) ≡ reverse (classes_on c p) ++ classes_above shape n (parent_class shape c)
  above_on c [] n h = let e : 0 + n ≡ n = omega arith in ap (λ m. classes_above shape m (parent_class shape c)) e
  above_on c (s ∷ p) n h =
      and_left (is_class c (parent_class shape s.class.0)) (is_path_from shape s.class.0 p) h (λ a b.
      let d = parent_is c (parent_class shape s.class.0) a in
      let e : suc (length p) + n ≡ length p + suc n = omega arith in
      ap (λ m. classes_above shape m (parent_class shape (class_from s.class.0 p))) e
      ∙ above_on s.class.0 p (suc n) b
      ∙ ap (λ o. reverse (classes_on s.class.0 p) ++ classes_above shape (suc n) o) d.1
      ∙ ap (λ m. reverse (classes_on s.class.0 p) ++ (m ∷ classes_above shape n (parent_class shape m))) d.2
      ∙ sym (append_assoc (reverse (classes_on s.class.0 p)) (c ∷ []) (classes_above shape n (parent_class shape c)))
      ∙ ap (λ cs. cs ++ classes_above shape n (parent_class shape c)) (sym (reverse-append (c ∷ []) (classes_on s.class.0 p))))

  none_above : (n : ℕ) → classes_above shape n None ≡ []
  none_above zero = refl
  none_above (suc n) = refl

  parent_there : (c : ℕ) (d : Class) → parent_class shape c ≡ Some d → c < length shape.classes
  parent_there c d e = go (slice_get shape.classes c) refl e
    where
      go : (o : Option ClassInfo) → slice_get shape.classes c ≡ o → parent_in o ≡ Some d → c < length shape.classes
      go None is e = cc
      go (Some x) is e = slice_get_within shape.classes c x is

  class_from_there : (c : ℕ) (p : List Step) → c < length shape.classes → is_path_from shape c p ≡ true → class_from c p < length shape.classes
  class_from_there c [] lt h = lt
  class_from_there c (s ∷ p) lt h =
      and_left (is_class c (parent_class shape s.class.0)) (is_path_from shape s.class.0 p) h (λ a b.
      let d = parent_is c (parent_class shape s.class.0) a in
      class_from_there s.class.0 p (parent_there s.class.0 d.0 d.1) b)

  module _ (fit : IsShape shape) where
    pub class_there : (p : Path) → is_path shape p ≡ true → class_of p < length shape.classes
    class_there p h = class_from_there 0 p (slice_get_within shape.classes 0 fit.root.0 fit.root.1) h

    pub short_path : (p : Path) → is_path shape p ≡ true → length p ≤ 8
    short_path p h = go (cases_lt 8 (length p))
      where
        go : 8 < length p ⊎ length p ≤ 8 → length p ≤ 8
        go (inl lt) = absurd (true≢false (sym (fit.depth (class_of p) (class_there p h)) ∙ longer 0 p 8 h lt))
        go (inr le) = le

    root_parent : parent_class shape 0 ≡ None
    root_parent = ap parent_in fit.root.1 ∙ fit.root.2

    levels_are : (p : Path) → is_path shape p ≡ true → levels_above shape (class_of p) ≡ classes_on 0 p
    unfolding levels_above
    levels_are p h =
        let le = short_path p h in
        let e : 8 ≡ length p + (8 - length p) = omega arith in
        ap (λ n. reverse (classes_above shape n (parent_class shape (class_of p)))) e
        ∙ ap reverse (above_on 0 p (8 - length p) h
        ∙ ap (λ o. reverse (classes_on 0 p) ++ classes_above shape (8 - length p) o) root_parent
        ∙ ap (λ cs. reverse (classes_on 0 p) ++ cs) (none_above (8 - length p))
        ∙ append-nil (reverse (classes_on 0 p)))
        ∙ reverse-reverse (classes_on 0 p)

    -- the context at the level of an ancestor's class
    pub level_on : (p : Path) (l c : ℕ) → is_path shape p ≡ true → slice_get (levels_above shape (class_of p)) l ≡ Some c → (l < length p) × (class_of (take l p) ≡ c)
    level_on p l c h e = on_path 0 p l c (ap (λ cs. slice_get cs l) (sym (levels_are p h)) ∙ e)

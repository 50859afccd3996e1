-- Tables of child classes by name, one class more after the other.
use Rattle.std.proofs.Common.{◌≡◌, ◌≢◌, ◌⊎◌, inl, inr, ◌+◌, ◌<◌, ◌≤◌, ◌==◌, ◌&&◌, ℕ, zero, suc, true, false, List, [], ◌∷◌, ◌++◌, length, get_or, slice_get, take, Option, Some, None, IfSome, refl, sym, ap, subst, ◌∙◌, length-append, arith}
use Rattle.std.proofs.lemmas.Bool.{eq-eqb}
use Rattle.std.proofs.lemmas.Bool.Decides.{eqb_tells}
use Rattle.std.proofs.lemmas.List.{take_more, take_all, length-take-le, length-set}
use Rattle.wave_base.specs.declared.path.Class.{Class}
use Rattle.wave_base.specs.declared.shape.ClassInfo.{ClassInfo}
use Rattle.wave_base.specs.declared.shape.Shape.{Shape}
use Rattle.wave_base.specs.Names.{same_bytes}
use Rattle.wave_base.specs.Shapes.{IsShape, is_class, parent_in}
use Rattle.name_table.specs.Numbers.{numbers_with, TellFirst}
use Rattle.name_table.proofs.Noting.{told_blank, told_other, told_in}
use Rattle.path_text.specs.Paths.{is_child}
use Rattle.path_text.specs.inner.Children.{AreBelow, with_named, with_child}

-- ---- parents

pub shape_below : (shape : Shape) → IsShape shape → AreBelow shape.classes
shape_below shape is zero l = subst (λ o. IfSome o (λ d. d.0 < 0)) (sym (ap parent_in is.root.1 ∙ is.root.2)) tt
shape_below shape is (suc n) l =
    let p = is.parents n l in
    subst (λ o. IfSome o (λ d. d.0 < suc n)) (sym p.1) (omega (arith, p.2))

at_place : (xs : List ClassInfo) (i : ℕ) (x : ClassInfo) → i < length xs → x ≡ get_or xs i x → slice_get xs i ≡ Some x
at_place [] i x l e = absurd (omega arith)
at_place (y ∷ xs) zero x l e = ap Some (sym e)
at_place (y ∷ xs) (suc i) x l e = at_place xs i x (omega arith) e

pub parent_there : (classes : List ClassInfo) → AreBelow classes → (i : ℕ) (info : ClassInfo) (n : ℕ) → i < length classes → info ≡ get_or classes i info → i < n → IfSome info.parent (λ d. d.0 < n)
parent_there classes below i info n l at more = weaker info.parent (subst (λ o. IfSome (parent_in o) (λ d. d.0 < i)) (at_place classes i info l at) (below i l))
  where
    weaker : (o : Option Class) → IfSome o (λ d. d.0 < i) → IfSome o (λ d. d.0 < n)
    weaker None h = tt
    weaker (Some d) h = omega (arith, h)

-- ---- one class more

other_number : (m n : ℕ) → m ≢ n → (m == n) ≡ false
other_number m n h = by (eqb_tells m n)
  where
    by : (((m == n) ≡ true) × (m ≡ n)) ⊎ (((m == n) ≡ false) × (m ≢ n)) → (m == n) ≡ false
    by (inl e) = absurd (h e.1)
    by (inr e) = e.0

module _ (before : List ClassInfo) (info : ClassInfo) (tables : List (List (List ℕ × ℕ))) (tell : TellFirst is_child before tables) where
  named : (o : Option Class) → info.parent ≡ o → IfSome o (λ d. d.0 < length tables) → TellFirst is_child (before ++ info ∷ []) (with_named tables o info.name (length before))
  named None e there = told_other is_child before tables tell info (λ n q. ap (λ p. is_class n p && same_bytes info.name q) e)
  named (Some d) e there =
      told_in is_child before tables tell info d.0 info.name
      (λ q. ap (λ p. is_class d.0 p && same_bytes info.name q) e ∙ ap (λ t. t && same_bytes info.name q) (eq-eqb d.0 d.0 refl))
      (λ n q h. ap (λ p. is_class n p && same_bytes info.name q) e ∙ ap (λ t. t && same_bytes info.name q) (other_number d.0 n h)) there

  pub child_told : IfSome info.parent (λ d. d.0 < length tables) → TellFirst is_child (before ++ info ∷ []) (with_child tables info (length before))
  child_told there = named info.parent refl there

-- the tables of the classes up to one, and that one
pub class_told : (classes : List ClassInfo) (i : ℕ) (info : ClassInfo) (tables : List (List (List ℕ × ℕ))) → i < length classes → info ≡ get_or classes i info
    → TellFirst is_child (take i classes) tables → IfSome info.parent (λ d. d.0 < length (tables ++ [] ∷ [])) → TellFirst is_child (take (i + 1) classes) (with_child (tables ++ [] ∷ []) info i)
class_told classes i info tables l at tell there =
    let more : take (i + 1) classes ≡ take i classes ++ info ∷ [] = take_more classes i info l ∙ ap (λ x. take i classes ++ x ∷ []) (sym at) in
    let count : length (take i classes) ≡ i = length-take-le i classes (omega arith) in
    let all = child_told (take i classes) info (tables ++ [] ∷ []) (told_blank is_child (take i classes) tables tell) there in
    subst (λ xs. TellFirst is_child xs (with_child (tables ++ [] ∷ []) info i)) (sym more) (subst (λ n. TellFirst is_child (take i classes ++ info ∷ []) (with_child (tables ++ [] ∷ []) info n)) count all)

pub all_told : (classes : List ClassInfo) (i : ℕ) (tables : List (List (List ℕ × ℕ))) → length classes ≤ i → TellFirst is_child (take i classes) tables → TellFirst is_child classes tables
all_told classes i tables l tell = subst (λ xs. TellFirst is_child xs tables) (take_all i classes l) tell

-- ---- how many tables there are

pub child_count : (tables : List (List (List ℕ × ℕ))) (info : ClassInfo) (number : ℕ) → length (with_child tables info number) ≡ length tables
child_count tables info number = named_count info.parent
  where
    named_count : (o : Option Class) → length (with_named tables o info.name number) ≡ length tables
    named_count None = refl
    named_count (Some d) = length-set tables d.0 (numbers_with (get_or tables d.0 []) info.name number)

pub blank_count : (tables new : List (List (List ℕ × ℕ))) (i : ℕ) → length tables ≡ i → new ≡ tables ++ [] ∷ [] → length new ≡ i + 1
blank_count tables new i count e = ap length e ∙ length-append tables ([] ∷ []) ∙ ap (λ n. n + 1) count

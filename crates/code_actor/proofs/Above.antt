-- Paths above one another.
use Rattle.std.proofs.Common.{◌≡◌, ℕ, zero, suc, ◌⊎◌, ◌&&◌, ◌||◌, Bool, true, false, [], ◌∷◌, ◌++◌, refl, ap, subst, ◌∙◌, arith}
use Rattle.std.proofs.lemmas.List.{append-nil}
use Rattle.wave_base.specs.declared.path.Path.{Path}
use Rattle.wave_base.specs.declared.path.Step.{Step}
use Rattle.wave_base.specs.Paths.{path_eq, is_above, parent_of}
use Rattle.wave_base.specs.PathLaws.{step_eq_equiv, path_eq_decides, is_above_append}

pub or_is : (a b : Bool) → (a || b) ≡ true → (a ≡ true) ⊎ (b ≡ true)
or_is a b e = grind arith

pub or_left : (a b : Bool) → a ≡ true → (a || b) ≡ true
or_left a b e = grind arith

pub or_right : (a b : Bool) → b ≡ true → (a || b) ≡ true
or_right a b e = grind arith

pub and_first : (a b : Bool) → (a && b) ≡ true → a ≡ true
and_first a b e = grind arith

pub and_second : (a b : Bool) → (a && b) ≡ true → b ≡ true
and_second a b e = grind arith

pub and_both : (a b : Bool) → a ≡ true → b ≡ true → (a && b) ≡ true
and_both a b e f = grind arith

pub not_both : (b : Bool) → (b ≡ true → ⊥) → b ≡ false
not_both true h = absurd (h refl)
not_both false h = refl

pub same_self : (p : Path) → path_eq p p ≡ true
same_self p = (path_eq_decides p p).1 refl

pub above_self : (p : Path) → is_above p p ≡ true
above_self p = subst (λ q. is_above p q ≡ true) (append-nil p) (is_above_append p [])

no_way : {A : Type 0} → false ≡ true → A
no_way e = cc

pub above_through : (p q r : Path) → is_above p q ≡ true → is_above q r ≡ true → is_above p r ≡ true
above_through [] q r e f = refl
above_through (x ∷ p) [] r e f = no_way e
above_through (x ∷ p) (y ∷ q) [] e f = no_way f
above_through (x ∷ p) (y ∷ q) (z ∷ r) e f =
    and_both _ _ (step_eq_equiv.congr x y z (and_first _ _ e) ∙ and_first _ _ f) (above_through p q r (and_second _ _ e) (and_second _ _ f))

pub parent_above : (p : Path) → is_above (parent_of p) p ≡ true
parent_above [] = refl
parent_above (s ∷ []) = refl
parent_above (s ∷ t ∷ p) = and_both _ _ (step_eq_equiv.refl s) (parent_above (t ∷ p))

pub parent_child : (p : Path) (s : Step) → parent_of (p ++ s ∷ []) ≡ p
parent_child [] s = refl
parent_child (x ∷ []) s = refl
parent_child (x ∷ y ∷ p) s = ap (λ r. x ∷ r) (parent_child (y ∷ p) s)

-- so many steps up
abbrev pub up : ℕ → Path → Path
up zero p = p
up (suc k) p = up k (parent_of p)

pub up_above : (k : ℕ) (p : Path) → is_above (up k p) p ≡ true
up_above zero p = above_self p
up_above (suc k) p = above_through (up k (parent_of p)) (parent_of p) p (up_above k (parent_of p)) (parent_above p)

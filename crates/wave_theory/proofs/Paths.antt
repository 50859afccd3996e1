-- Paths: prefixes, parents, and lists of paths.
use Rattle.std.proofs.Common.{◌≡◌, ℕ, zero, suc, ◌⊎◌, ◌&&◌, ◌||◌, inl, inr, Bool, true, false, List, [], ◌∷◌, ◌++◌, length, filter, refl, sym, ◌∙◌, ap, ap₂, subst, arith}
use Rattle.wave_base.specs.declared.path.Step.{Step}
use Rattle.wave_base.specs.declared.path.Path.{Path}
use Rattle.wave_base.specs.Paths.{step_eq, path_eq, is_above, parent_of}
use Rattle.wave_base.specs.PathLaws.{step_eq_equiv, path_eq_equiv, is_above_append}
use Rattle.wave_states.specs.Alone.{has}
use Rattle.wave_theory.proofs.Basics.{bool_cases, clash, path_is, and_first, and_second, and_both}

pub or_is : (a b : Bool) → (a || b) ≡ true → (a ≡ true) ⊎ (b ≡ true)
or_is a b e = grind arith

pub or_false : (a b : Bool) → (a || b) ≡ false → (a ≡ false) × (b ≡ false)
or_false a b e = grind arith

pub or_left : (a b : Bool) → a ≡ true → (a || b) ≡ true
or_left a b e = grind arith

pub or_right : (a b : Bool) → b ≡ true → (a || b) ≡ true
or_right a b e = grind arith

pub and_false : (a b : Bool) → a ≡ true → (a && b) ≡ false → b ≡ false
and_false a b e f = grind arith

abbrev head_of : Path → Step → Step
head_of [] d = d
head_of (s ∷ p) d = s

abbrev tail_of : Path → Path
tail_of [] = []
tail_of (s ∷ p) = p

pub step_is : (a b : Step) → step_eq a b ≡ true → a ≡ b
step_is a b e = ap (λ p. head_of p a) (path_is (a ∷ []) (b ∷ []) (and_both _ _ e refl))

pub step_self : (a : Step) → step_eq a a ≡ true
step_self a = step_eq_equiv.refl a

pub above_self : (p : Path) → is_above p p ≡ true
above_self [] = refl
above_self (x ∷ p) = and_both _ _ (step_self x) (above_self p)

pub above_more : (p d : Path) → is_above p (p ++ d) ≡ true
above_more p d = is_above_append p d

pub above_through : (p q r : Path) → is_above p q ≡ true → is_above q r ≡ true → is_above p r ≡ true
above_through [] q r e f = refl
above_through (x ∷ p) [] r e f = absurd (clash false e refl)
above_through (x ∷ p) (y ∷ q) [] e f = absurd (clash false f refl)
above_through (x ∷ p) (y ∷ q) (z ∷ r) e f =
    let a : x ≡ y = step_is x y (and_first _ _ e) in let b : y ≡ z = step_is y z (and_first _ _ f) in
    and_both _ _ (subst (λ v. step_eq x v ≡ true) (a ∙ b) (step_self x)) (above_through p q r (and_second _ _ e) (and_second _ _ f))

pub above_both : (p q : Path) → is_above p q ≡ true → is_above q p ≡ true → p ≡ q
above_both [] [] e f = refl
above_both [] (y ∷ q) e f = absurd (clash false f refl)
above_both (x ∷ p) [] e f = absurd (clash false e refl)
above_both (x ∷ p) (y ∷ q) e f = ap₂ (λ a b. a ∷ b) (step_is x y (and_first _ _ e)) (above_both p q (and_second _ _ e) (and_second _ _ f))

pub parent_child : (p : Path) (s : Step) → parent_of (p ++ s ∷ []) ≡ p
parent_child [] s = refl
parent_child (x ∷ []) s = refl
parent_child (x ∷ y ∷ p) s = ap (λ r. x ∷ r) (parent_child (y ∷ p) s)

-- a prefix of a child is the child or a prefix of the parent
pub above_child : (p q : Path) (s : Step) → is_above p (q ++ s ∷ []) ≡ true → (p ≡ q ++ s ∷ []) ⊎ (is_above p q ≡ true)
above_child [] q s e = inr refl
above_child (x ∷ p) [] s e = inl (ap₂ (λ a b. a ∷ b) (step_is x s (and_first _ _ e)) (above_both p [] (and_second _ _ e) refl))
above_child (x ∷ p) (y ∷ q) s e = elim (above_child p q s (and_second _ _ e)) [
  | inl h ↦ inl (ap₂ (λ a b. a ∷ b) (step_is x y (and_first _ _ e)) h)
  | inr h ↦ inr (and_both _ _ (and_first _ _ e) h)
]

pub child_not_above : (p : Path) (s : Step) → is_above (p ++ s ∷ []) p ≡ true → ⊥
child_not_above [] s e = clash false e refl
child_not_above (x ∷ p) s e = child_not_above p s (and_second _ _ e)

pub child_not_root : (p : Path) (s : Step) → p ++ s ∷ [] ≡ [] → ⊥
child_not_root [] s e = grind arith
child_not_root (x ∷ p) s e = grind arith

-- a path is not its child
pub child_differs : (p : Path) (s : Step) → path_eq (p ++ s ∷ []) p ≡ false
child_differs p s = elim (bool_cases (path_eq (p ++ s ∷ []) p)) [
  | inr e ↦ e
  | inl e ↦ absurd (child_not_above p s (subst (λ q. is_above (p ++ s ∷ []) q ≡ true) (path_is _ _ e) (above_self (p ++ s ∷ []))))
]

pub has_append : (xs : List Path) (q p : Path) → has (xs ++ q ∷ []) p ≡ (has xs p || path_eq p q)
has_append [] q p = or_none (path_eq p q)
  where
    or_none : (a : Bool) → (a || false) ≡ (false || a)
    or_none a = grind arith
has_append (x ∷ xs) q p = ap (λ b. path_eq p x || b) (has_append xs q p) ∙ or_assoc (path_eq p x) (has xs p) (path_eq p q)
  where
    or_assoc : (a b c : Bool) → (a || (b || c)) ≡ ((a || b) || c)
    or_assoc a b c = grind arith

pub has_filter : (f : Path → Bool) (xs : List Path) (q : Path) → has (filter f xs) q ≡ (f q && has xs q)
has_filter f [] q = none_here (f q)
  where
    none_here : (b : Bool) → false ≡ (b && false)
    none_here b = grind arith
has_filter f (x ∷ xs) q = elim (bool_cases (path_eq q x)) [
  | inl z ↦ (let xq : x ≡ q = sym (path_is q x z) in elim (bool_cases (f x)) [
    | inl e ↦ rw e (rw z (rw (subst (λ r. f r ≡ true) xq e) refl))
    | inr e ↦ rw e (rw (has_filter f xs q) (rw (subst (λ r. f r ≡ false) xq e) refl))
  ])
  | inr z ↦ elim (bool_cases (f x)) [
    | inl e ↦ rw e (rw z (has_filter f xs q))
    | inr e ↦ rw e (rw z (has_filter f xs q))
  ]
]

pub path_swap : (p q : Path) → path_eq p q ≡ path_eq q p
path_swap p q = path_eq_equiv.symm p q

-- a list that is longer by one ends in a step
pub snoc : (d : Path) (n : ℕ) → length d ≡ suc n → (i : Path) × (s : Step) × (d ≡ i ++ s ∷ [])
snoc [] n e = absurd (omega arith)
snoc (s ∷ []) n e = ([], s, refl)
snoc (a ∷ b ∷ d) zero e = absurd (omega arith)
snoc (a ∷ b ∷ d) (suc n) e = let r = snoc (b ∷ d) n (omega arith) in (a ∷ r.0, r.1, ap (λ z. a ∷ z) r.2)

-- two children of one context are one where their paths are
pub last_step : (p : Path) (s u : Step) → p ++ s ∷ [] ≡ p ++ u ∷ [] → s ≡ u
last_step [] s u e = ap (λ q. head_of q s) e
last_step (x ∷ p) s u e = last_step p s u (ap tail_of e)

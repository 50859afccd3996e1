-- What is in lists that are joined, mapped and filtered, and which of two workers is taken.
use Rattle.std.proofs.lemmas.Bool.Decides.{nat_tests}
use Rattle.std.proofs.Common.{◌≡◌, ℕ, ◌<◌, ◌≤◌, inl, inr, true, Option, Some, None, List, refl, sym, ◌∙◌, ap, subst, arith, is_some, nat_lt, [], ◌∷◌, ◌++◌, nat_eq, ◌+◌, zero, suc, ◌⊎◌, Bool, false}
use Rattle.wave_theory.proofs.Basics.{clash, none_not, some_same, number_cases}
use Rattle.wave_theory.proofs.Frames.{option_some}
use Rattle.std.specs.Prelude.{cond, if◌then◌else◌}
use Rattle.wave_states.specs.States.{Column, Hand}
use Rattle.wave_states.specs.Labels.{Act}
use Rattle.std.specs.Prelude.{filter, flat_map, map, is_none, option_map}
use Rattle.wave_base.specs.Fold.{tickets_from}
use Rattle.wave_states.specs.States.{Mark}
use Rattle.wave_states.specs.Labels.{Choice}
use Rattle.wave_states.specs.Steps.{Deliver, Wait, Forward, route, route_by}
use Rattle.wave_states.specs.Canonical.{host_in, idle_in}
use Rattle.wave_theory.specs.Listed.{IsIn}

pub in_left : {X : Type 0} (xs ys : List X) (x : X) → IsIn xs x → IsIn (xs ++ ys) x
in_left [] ys x i = absurd i
in_left (y ∷ xs) ys x (inl e) = inl e
in_left (y ∷ xs) ys x (inr i) = inr (in_left xs ys x i)

pub in_right : {X : Type 0} (xs ys : List X) (x : X) → IsIn ys x → IsIn (xs ++ ys) x
in_right [] ys x i = i
in_right (y ∷ xs) ys x i = inr (in_right xs ys x i)

pub in_or : {X : Type 0} (xs ys : List X) (x : X) → IsIn (xs ++ ys) x → IsIn xs x ⊎ IsIn ys x
in_or [] ys x i = inr i
in_or (y ∷ xs) ys x (inl e) = inl (inl e)
in_or (y ∷ xs) ys x (inr i) = elim (in_or xs ys x i) [ inl j ↦ inl (inr j) | inr j ↦ inr j ]

pub in_filter : {X : Type 0} (f : X → Bool) (xs : List X) (x : X) → IsIn xs x → f x ≡ true → IsIn (filter f xs) x
in_filter f [] x i e = absurd i
in_filter f (y ∷ xs) x (inl z) e = subst (λ j. IsIn (cond j (y ∷ filter f xs) (filter f xs)) x) (sym (ap f z ∙ e)) (inl z)
in_filter f (y ∷ xs) x (inr i) e = by (f y) (in_filter f xs x i e)
  where
    by : (j : Bool) → IsIn (filter f xs) x → IsIn (cond j (y ∷ filter f xs) (filter f xs)) x
    by true k = inr k
    by false k = k

pub filter_in : {X : Type 0} (f : X → Bool) (xs : List X) (x : X) → IsIn (filter f xs) x → IsIn xs x × (f x ≡ true)
filter_in f [] x i = absurd i
filter_in f (y ∷ xs) x i = by (f y) refl i (filter_in f xs x)
  where
    by : (j : Bool) → f y ≡ j → IsIn (cond j (y ∷ filter f xs) (filter f xs)) x → (IsIn (filter f xs) x → IsIn xs x × (f x ≡ true)) → IsIn (y ∷ xs) x × (f x ≡ true)
    by false e k r = (inr (r k).0, (r k).1)
    by true e (inl z) r = (inl z, ap f (sym z) ∙ e)
    by true e (inr k) r = (inr (r k).0, (r k).1)

pub in_map : {X Y : Type 0} (f : X → Y) (xs : List X) (x : X) → IsIn xs x → IsIn (map f xs) (f x)
in_map f [] x i = absurd i
in_map f (y ∷ xs) x (inl e) = inl (ap f e)
in_map f (y ∷ xs) x (inr i) = inr (in_map f xs x i)

pub map_in : {X Y : Type 0} (f : X → Y) (xs : List X) (y : Y) → IsIn (map f xs) y → (x : X) × IsIn xs x × (f x ≡ y)
map_in f [] y i = absurd i
map_in f (x ∷ xs) y (inl e) = (x, inl refl, e)
map_in f (x ∷ xs) y (inr i) = (let r = map_in f xs y i in (r.0, inr r.1, r.2))

pub in_flat : {X Y : Type 0} (f : X → List Y) (xs : List X) (x : X) (y : Y) → IsIn xs x → IsIn (f x) y → IsIn (flat_map f xs) y
in_flat f [] x y i j = absurd i
in_flat f (z ∷ xs) x y (inl e) j = in_left (f z) (flat_map f xs) y (subst (λ u. IsIn (f u) y) (sym e) j)
in_flat f (z ∷ xs) x y (inr i) j = in_right (f z) (flat_map f xs) y (in_flat f xs x y i j)

pub flat_in : {X Y : Type 0} (f : X → List Y) (xs : List X) (y : Y) → IsIn (flat_map f xs) y → (x : X) × IsIn xs x × IsIn (f x) y
flat_in f [] y i = absurd i
flat_in f (x ∷ xs) y i = elim (in_or (f x) (flat_map f xs) y i) [
  | inl j ↦ (x, inl refl, j)
  | inr j ↦ (let r = flat_in f xs y j in (r.0, inr r.1, r.2))
]

pub in_from : (n a t : ℕ) → a ≤ t → t < a + n → IsIn (tickets_from a n) t
in_from zero a t l m = absurd (omega (arith, l, m))
in_from (suc n) a t l m = elim (number_cases a t) [ inl e ↦ inl e | inr e ↦ inr (in_from n (suc a) t (past a t l e) (omega (arith, m))) ]
  where
    past : (a t : ℕ) → a ≤ t → nat_eq a t ≡ false → suc a ≤ t
    past a t l e = grind (arith, nat_tests)

pub less_by : (a c : ℕ) → nat_lt a c ≡ true → a < c
less_by a c e = grind (arith, nat_tests)

pub by_less : (a c : ℕ) → a < c → nat_lt a c ≡ true
by_less a c l = grind (arith, nat_tests)

pub unmap : {X Y : Type 0} (f : X → Y) (o : Option X) → is_some (option_map f o) ≡ true → is_some o ≡ true
unmap f None e = e
unmap f (Some x) e = refl

pub un_if : {X : Type 0} (i : Bool) (o : Option X) → is_some (if i then o else None) ≡ true → (i ≡ true) × (is_some o ≡ true)
un_if true o e = (refl, e)
un_if false o e = absurd (clash false e refl)

pub host_found : {F : Type 0} (c : Column F) (xs : List ℕ) (h : ℕ) → IsIn xs h → is_some (c.store h) ≡ true → ((g : ℕ) → is_some (c.store g) ≡ true → g ≡ h) → host_in c xs ≡ Some h
host_found c [] h i e u = absurd i
host_found c (x ∷ xs) h i e u = by (is_some (c.store x)) refl i (λ j. host_found c xs h j e u)
  where
    by : (j : Bool) → is_some (c.store x) ≡ j → IsIn (x ∷ xs) h → (IsIn xs h → host_in c xs ≡ Some h) → (if j then Some x else host_in c xs) ≡ Some h
    by true z i r = ap Some (u x z)
    by false z (inl n) r = absurd (clash _ (subst (λ a. is_some (c.store a) ≡ true) (sym n) e) z)
    by false z (inr i) r = r i

pub forward_to : {F : Type 0} (c : Column F) (h f g : ℕ) (m : Mark) → c.gone h ≡ Some m → route c h f ≡ Forward g → m.to ≡ g
forward_to c h f g m e r = by (is_some (c.store h)) (nat_lt f m.number) (subst (λ o. (if is_some (c.store h) then Deliver else route_by o f) ≡ Forward g) e r)
  where
    forward_same : (a b : ℕ) → Forward a ≡ Forward b → a ≡ b
    forward_same a b e = cc

    deliver_not : Deliver ≡ Forward g → ⊥
    deliver_not e = grind arith

    wait_not : Wait ≡ Forward g → ⊥
    wait_not e = grind arith

    by : (i j : Bool) → (if i then Deliver else (if j then Forward m.to else Wait)) ≡ Forward g → m.to ≡ g
    by true j z = absurd (deliver_not z)
    by false true z = forward_same m.to g z
    by false false z = absurd (wait_not z)

-- the lowest idle worker
pub lowest : {A F : Type 0} (hands : ℕ → Option (Hand A F)) (n a w : ℕ) → idle_in hands (tickets_from a n) ≡ Some w → (hands w ≡ None) × (w < a + n) × ((v : ℕ) → a ≤ v → v < w → is_some (hands v) ≡ true)
lowest {A} {F} hands zero a w e = absurd (none_not e)
lowest {A} {F} hands (suc n) a w e = by (hands a) refl e (lowest hands n (suc a) w)
  where
    sum : (a n w : ℕ) → w < suc a + n → w < a + suc n
    sum a n w l = omega (arith, l)

    first : (a n w : ℕ) → a ≡ w → w < a + suc n
    first a n w e = omega (arith, e)

    none_between : (a v w : ℕ) → a ≡ w → a ≤ v → v < w → ⊥
    none_between a v w e l m = omega (arith, e, l, m)

    by : (o : Option (Hand A F)) → hands a ≡ o → (if is_none o then Some a else idle_in hands (tickets_from (suc a) n)) ≡ Some w →
        (idle_in hands (tickets_from (suc a) n) ≡ Some w → (hands w ≡ None) × (w < suc a + n) × ((v : ℕ) → suc a ≤ v → v < w → is_some (hands v) ≡ true)) → (hands w ≡ None) × (w < a + suc n) × ((v : ℕ) → a ≤ v → v < w → is_some (hands v) ≡ true)
    by None z e f = (subst (λ i. hands i ≡ None) (some_same a w e) z, first a n w (some_same a w e), λ v l m. absurd (none_between a v w (some_same a w e) l m))
    by (Some h) z e f = (let r = f e in (r.0, sum a n w r.1, λ v l m. elim (number_cases a v) [ inl i ↦ ap is_some (ap hands (sym i) ∙ z) | inr i ↦ (r.2) v (past a v l i) m ]))
      where
        past : (a v : ℕ) → a ≤ v → nat_eq a v ≡ false → suc a ≤ v
        past a v l e = grind (arith, nat_tests)

pub is_lowest : {A F : Type 0} (hands : ℕ → Option (Hand A F)) (n a w : ℕ) → a ≤ w → w < a + n → hands w ≡ None → ((v : ℕ) → a ≤ v → v < w → is_some (hands v) ≡ true) → idle_in hands (tickets_from a n) ≡ Some w
is_lowest hands zero a w l m e f = absurd (omega (arith, l, m))
is_lowest hands (suc n) a w l m e f = elim (number_cases a w) [
  | inl z ↦ ap (λ o. if is_none o then Some a else idle_in hands (tickets_from (suc a) n)) (ap hands z ∙ e) ∙ ap Some z
  | inr z ↦ (let o = option_some (hands a) (f a (upto a) (past a w l z)) in ap (λ o. if is_none o then Some a else idle_in hands (tickets_from (suc a) n)) o.1 ∙ is_lowest hands n (suc a) w (past a w l z) (sum a n w m) e (λ v i j. f v (under a v i) j))
]
  where
    upto : (a : ℕ) → a ≤ a
    upto a = omega arith

    past : (a v : ℕ) → a ≤ v → nat_eq a v ≡ false → suc a ≤ v
    past a v l e = grind (arith, nat_tests)

    sum : (a n w : ℕ) → w < a + suc n → w < suc a + n
    sum a n w l = omega (arith, l)

    under : (a v : ℕ) → suc a ≤ v → a ≤ v
    under a v l = omega (arith, l)

pub choice_is : (h h' : ℕ) (a a' : Act) → h ≡ h' → a ≡ a' → ◌≡◌ {A = Choice} (record { host = h; act = a }) (record { host = h'; act = a' })
choice_is h h' a a' e f = λ i. record { host = e i; act = f i }

-- The steps to the children of a path: each is there, they are in order, and behind one come those above it.
use Rattle.std.proofs.Common.{◌≡◌, Bool, true, false, ◌||◌, List, [], ◌∷◌, ◌++◌, Option, Some, None, refl, sym, ◌∙◌, ap, ap₂, subst, arith}
use Rattle.std.specs.Prelude.{if◌then◌else◌}
use Rattle.std.specs.List.{list_any, filter, filter_map, AllByRecursion}
use Rattle.std.specs.List.Sorted.{IsStrictlySortedBy}
use Rattle.std.specs.Cmp.{eq_by_cmp_equiv}
use Rattle.std.specs.Ordering.{is_eq, is_lt, ordering_then, ordering_reverse}
use Rattle.std.specs.declared.cmp.Ordering.{Ordering}
use Rattle.std.specs.declared.cmp.Ordering.TheVariants.{Less, Equal, Greater}
use mathlib.Core.Bool.{true≢false}
use Rattle.wave_base.specs.declared.path.Step.{Step}
use Rattle.wave_base.specs.declared.path.Path.{Path}
use Rattle.wave_base.specs.declared.children.Child.{Child}
use Rattle.wave_base.specs.Kids.{first_step, step_after, steps_above}
use Rattle.wave_base.specs.Paths.{step_eq, step_cmp, path_eq, path_cmp}
use Rattle.wave_base.specs.PathLaws.{path_eq_equiv, step_eq_ties, step_cmp_total, same_step}
use Rattle.wave_base.specs.Tree.{child_step}
use Rattle.wave_states.specs.States.{steps_of}
use Rattle.wave_states.specs.Walkers.{steps_left, first_of}

none_some : {X : Type 0} (x : X) → None ≡ Some x → ⊥
none_some x e = grind arith

some_same : {X : Type 0} (x y : X) → Some x ≡ Some y → x ≡ y
some_same x y e = cc

-- the child of a path
step_is : (a b : Step) → step_eq a b ≡ true → a ≡ b
step_is a b e = same_step a b (equal _ (sym (step_eq_ties a b) ∙ e))
  where
    equal : (o : Ordering) → is_eq o ≡ true → o ≡ Equal
    equal Equal e = refl
    equal Less e = absurd (true≢false (sym e))
    equal Greater e = absurd (true≢false (sym e))

child_is : (p q : Path) (s : Step) → child_step p q ≡ Some s → q ≡ p ++ s ∷ []
child_is [] [] s e = absurd (none_some s e)
child_is [] (t ∷ []) s e = ap (λ v. v ∷ []) (some_same t s e)
child_is [] (t ∷ u ∷ q) s e = absurd (none_some s e)
child_is (x ∷ p) [] s e = absurd (none_some s e)
child_is (x ∷ p) (t ∷ q) s e = by (step_eq x t) refl e (child_is p q s)
  where
    by : (b : Bool) → step_eq x t ≡ b → (if b then child_step p q else None) ≡ Some s → (child_step p q ≡ Some s → q ≡ p ++ s ∷ []) → t ∷ q ≡ (x ∷ p) ++ s ∷ []
    by true z e f = ap₂ (λ a b. a ∷ b) (sym (step_is x t z)) (f e)
    by false z e f = absurd (none_some s e)

-- each child of a path is there
pub kids_in : (p : Path) (all ps : List Path) → ((q : Path) → list_any (path_eq q) ps ≡ true → list_any (path_eq q) all ≡ true) → AllByRecursion (λ s. list_any (path_eq (p ++ s ∷ [])) all ≡ true) (filter_map (child_step p) ps)
kids_in p all [] f = tt
kids_in p all (x ∷ ps) f = by (child_step p x) refl (kids_in p all ps (λ q e. f q (or_right (path_eq q x) _ e)))
  where
    or_right : (a b : Bool) → b ≡ true → (a || b) ≡ true
    or_right a b e = grind arith

    or_left : (a b : Bool) → a ≡ true → (a || b) ≡ true
    or_left a b e = grind arith

    by : (o : Option Step) → child_step p x ≡ o → AllByRecursion (λ s. list_any (path_eq (p ++ s ∷ [])) all ≡ true) (filter_map (child_step p) ps) → AllByRecursion (λ s. list_any (path_eq (p ++ s ∷ [])) all ≡ true) (filter_map (child_step p) (x ∷ ps))
    by None e h = rw e h
    by (Some s) e h = rw e (f (p ++ s ∷ []) (or_left _ _ (subst (λ q. path_eq (p ++ s ∷ []) q ≡ true) (sym (child_is p x s e)) (path_eq_equiv.refl (p ++ s ∷ [])))), h)

-- the steps are in order
step_self : (s : Step) → step_cmp s s ≡ Equal
step_self s = equal _ ((eq_by_cmp_equiv step_cmp_total).refl s)
  where
    equal : (o : Ordering) → is_eq o ≡ true → o ≡ Equal
    equal Equal e = refl
    equal Less e = absurd (true≢false (sym e))
    equal Greater e = absurd (true≢false (sym e))

child_cmp : (p : Path) (s u : Step) → path_cmp (p ++ s ∷ []) (p ++ u ∷ []) ≡ step_cmp s u
child_cmp [] s u = then_equal (step_cmp s u)
  where
    then_equal : (o : Ordering) → ordering_then o Equal ≡ o
    then_equal Less = refl
    then_equal Equal = refl
    then_equal Greater = refl
child_cmp (x ∷ p) s u = ap (λ o. ordering_then o (path_cmp (p ++ s ∷ []) (p ++ u ∷ []))) (step_self x) ∙ child_cmp p s u

all_kids : (p : Path) (s : Step) (ps : List Path) → AllByRecursion (λ y. path_cmp (p ++ s ∷ []) y ≡ Less) ps → AllByRecursion (λ u. step_cmp s u ≡ Less) (filter_map (child_step p) ps)
all_kids p s [] h = tt
all_kids p s (x ∷ ps) h = by (child_step p x) refl (all_kids p s ps h.1)
  where
    by : (o : Option Step) → child_step p x ≡ o → AllByRecursion (λ u. step_cmp s u ≡ Less) (filter_map (child_step p) ps) → AllByRecursion (λ u. step_cmp s u ≡ Less) (filter_map (child_step p) (x ∷ ps))
    by None e k = rw e k
    by (Some u) e k = rw e (sym (child_cmp p s u) ∙ subst (λ y. path_cmp (p ++ s ∷ []) y ≡ Less) (child_is p x u e) h.0, k)

pub kids_sorted : (p : Path) (ps : List Path) → IsStrictlySortedBy path_cmp ps → IsStrictlySortedBy step_cmp (filter_map (child_step p) ps)
unfolding IsStrictlySortedBy
kids_sorted p [] h = tt
kids_sorted p (x ∷ ps) h = by (child_step p x) refl (kids_sorted p ps h.1)
  where
    by : (o : Option Step) → child_step p x ≡ o → IsStrictlySortedBy step_cmp (filter_map (child_step p) ps) → IsStrictlySortedBy step_cmp (filter_map (child_step p) (x ∷ ps))
    by None e k = rw e k
    by (Some s) e k = rw e (all_kids p s ps (subst (λ q. AllByRecursion (λ y. path_cmp q y ≡ Less) ps) (child_is p x s e) h.0), k)

-- behind a step come those above it
keep_all : (s : Step) (us : List Step) → AllByRecursion (λ u. step_cmp s u ≡ Less) us → filter (λ u. is_lt (step_cmp s u)) us ≡ us
keep_all s [] h = refl
keep_all s (u ∷ us) h = ap (λ o. if is_lt o then u ∷ filter (λ c. is_lt (step_cmp s c)) us else filter (λ c. is_lt (step_cmp s c)) us) h.0 ∙ ap (λ vs. u ∷ vs) (keep_all s us h.1)

above_of : (front : List Step) (s : Step) (ss : List Step) → AllByRecursion (λ u. step_cmp u s ≡ Less) front → AllByRecursion (λ u. step_cmp s u ≡ Less) ss → filter (λ u. is_lt (step_cmp s u)) (front ++ s ∷ ss) ≡ ss
above_of [] s ss h k = ap (λ o. if is_lt o then s ∷ filter (λ c. is_lt (step_cmp s c)) ss else filter (λ c. is_lt (step_cmp s c)) ss) (step_self s) ∙ keep_all s ss k
above_of (t ∷ ts) s ss h k = ap (λ o. if is_lt o then t ∷ filter (λ c. is_lt (step_cmp s c)) (ts ++ s ∷ ss) else filter (λ c. is_lt (step_cmp s c)) (ts ++ s ∷ ss)) (step_cmp_total.antisymm s t ∙ ap ordering_reverse h.0) ∙ above_of ts s ss h.1 k

split_front : (front : List Step) (s : Step) (ss : List Step) → IsStrictlySortedBy step_cmp (front ++ s ∷ ss) → AllByRecursion (λ u. step_cmp u s ≡ Less) front × AllByRecursion (λ u. step_cmp s u ≡ Less) ss
unfolding IsStrictlySortedBy
split_front [] s ss h = (tt, h.0)
split_front (t ∷ ts) s ss h = let k = split_front ts s ss h.1 in ((of_it ts h.0, k.0), k.1)
  where
    of_it : (ts : List Step) → AllByRecursion (λ u. step_cmp t u ≡ Less) (ts ++ s ∷ ss) → step_cmp t s ≡ Less
    of_it [] h = h.0
    of_it (u ∷ ts) h = of_it ts h.1

pub left_after : (front : List Step) (s : Step) (ss : List Step) → IsStrictlySortedBy step_cmp (front ++ s ∷ ss) → steps_left (front ++ s ∷ ss) (Some s) ≡ ss
left_after front s ss h = let k = split_front front s ss h in above_of front s ss k.0 k.1

-- the next child of a walker is the least step above the one that it came back from, as children have it
steps_kept : (s : Step) (children : List (Step × Child)) → filter (λ c. is_lt (step_cmp s c)) (steps_of children) ≡ steps_of (steps_above children s)
steps_kept s [] = refl
steps_kept s (c ∷ children) = by (is_lt (step_cmp s c.0)) (steps_kept s children)
  where
    by : (b : Bool) → filter (λ u. is_lt (step_cmp s u)) (steps_of children) ≡ steps_of (steps_above children s) →
        (if b then c.0 ∷ filter (λ u. is_lt (step_cmp s u)) (steps_of children) else filter (λ u. is_lt (step_cmp s u)) (steps_of children)) ≡ steps_of (if b then c ∷ steps_above children s else steps_above children s)
    by true h = ap (λ us. c.0 ∷ us) h
    by false h = h

first_is : (children : List (Step × Child)) → first_of (steps_of children) ≡ first_step children
first_is [] = refl
first_is (c ∷ children) = refl

pub next_is_after : (children : List (Step × Child)) (from : Option Step) → first_of (steps_left (steps_of children) from) ≡ step_after children from
next_is_after children None = first_is children
next_is_after children (Some s) = ap first_of (steps_kept s children) ∙ first_is (steps_above children s)

-- Depth first, by the steps in their order, is the order of paths.
use Rattle.std.proofs.Common.{◌≡◌, ℕ, zero, suc, ◌+◌, ◌*◌, ◌≤◌, ◌||◌, inl, inr, true, false, List, [], ◌∷◌, ◌++◌, length, Option, Some, None, append_assoc, append-nil, length-append, refl, sym, ◌∙◌, ap, ap₂, subst, arith}
use Rattle.std.specs.List.{list_any, filter_map, AllByRecursion}
use Rattle.std.specs.List.Sorted.{IsStrictlySortedBy}
use Rattle.std.proofs.lemmas.List.Folds.{list_any-append}
use Rattle.std.specs.Ordering.{ordering_then, ordering_reverse, is_eq}
use Rattle.std.specs.declared.cmp.Ordering.{Ordering}
use Rattle.std.specs.declared.cmp.Ordering.TheVariants.{Less, Equal, Greater}
use Rattle.wave_base.specs.declared.path.Step.{Step}
use Rattle.wave_base.specs.declared.path.Path.{Path}
use Rattle.wave_base.specs.Paths.{step_eq, step_cmp, path_eq, path_cmp, parent_of}
use Rattle.wave_base.specs.PathLaws.{step_eq_ties, path_cmp_total}
use Rattle.wave_base.specs.Tree.{Tree, there, children_of, child_step}
use Rattle.wave_states.specs.Walkers.{depth_of, visit, with_children}
use Rattle.wave_states.proofs.Children.{kids_in, kids_sorted}
use Rattle.wave_theory.proofs.Basics.{clash, none_not, some_same, path_is, path_self}
use Rattle.wave_theory.proofs.Paths.{or_is, or_left, or_right, parent_child, snoc, step_is, step_self}

-- ---- the order of steps and of paths

step_ties : (s : Step) → step_cmp s s ≡ Equal
step_ties s = by (step_cmp s s) (step_eq_ties s s)
  where
    by : (o : Ordering) → step_eq s s ≡ is_eq o → o ≡ Equal
    by Equal e = refl
    by Less e = absurd (clash (step_eq s s) (step_self s) e)
    by Greater e = absurd (clash (step_eq s s) (step_self s) e)

-- what two paths begin with alike makes no difference
cmp_below : (p a b : Path) → path_cmp (p ++ a) (p ++ b) ≡ path_cmp a b
cmp_below [] a b = refl
cmp_below (s ∷ p) a b = ap (λ o. ordering_then o (path_cmp (p ++ a) (p ++ b))) (step_ties s) ∙ cmp_below p a b

less_then : (o : Ordering) → o ≡ Less → (v : Ordering) → ordering_then o v ≡ Less
less_then o e v = ap (λ o. ordering_then o v) e

-- of two children the order is that of their steps, and so for all below them
pub sides : (p a b : Path) (s t : Step) → step_cmp s t ≡ Less → path_cmp (p ++ s ∷ a) (p ++ t ∷ b) ≡ Less
sides p a b s t e = cmp_below p (s ∷ a) (t ∷ b) ∙ less_then (step_cmp s t) e (path_cmp a b)

-- a context comes before all below it
pub first_below : (p r : Path) (s : Step) → path_cmp p (p ++ s ∷ r) ≡ Less
first_below p r s = ap (λ q. path_cmp q (p ++ s ∷ r)) (sym (append-nil p)) ∙ cmp_below p [] (s ∷ r)

-- ---- lists in order

module _ {K : Type 0} (R : K → K → Ordering) where
  sorted_append : (xs ys : List K) → IsStrictlySortedBy R xs → IsStrictlySortedBy R ys → AllByRecursion (λ x. AllByRecursion (λ y. R x y ≡ Less) ys) xs → IsStrictlySortedBy R (xs ++ ys)
  unfolding IsStrictlySortedBy
  sorted_append [] ys a b h = b
  sorted_append (x ∷ xs) ys a b h = (all_append xs ys a.0 h.0, sorted_append xs ys a.1 b h.1)
    where
      all_append : (xs ys : List K) → AllByRecursion (λ y. R x y ≡ Less) xs → AllByRecursion (λ y. R x y ≡ Less) ys → AllByRecursion (λ y. R x y ≡ Less) (xs ++ ys)
      all_append [] ys f g = g
      all_append (z ∷ zs) ys f g = (f.0, all_append zs ys f.1 g)

pub all_map : {X : Type 0} (P Q : X → Type 0) → ((x : X) → P x → Q x) → (xs : List X) → AllByRecursion P xs → AllByRecursion Q xs
all_map P Q f [] h = tt
all_map P Q f (x ∷ xs) h = (f x h.0, all_map P Q f xs h.1)

pub all_joined : {X : Type 0} (P : X → Type 0) (xs ys : List X) → AllByRecursion P xs → AllByRecursion P ys → AllByRecursion P (xs ++ ys)
all_joined P [] ys f g = g
all_joined P (x ∷ xs) ys f g = (f.0, all_joined P xs ys f.1 g)

-- what holds of each holds of one that is among them
pub at_path : (P : Path → Type 0) (ps : List Path) → AllByRecursion P ps → (q : Path) → list_any (path_eq q) ps ≡ true → P q
at_path P [] h q e = absurd (clash false e refl)
at_path P (p ∷ ps) h q e = elim (or_is _ _ e) [
  | inl z ↦ subst P (sym (path_is q p z)) h.0
  | inr z ↦ at_path P ps h.1 q z
]

-- two paths do not come before each other, and none before itself
never_both : (p q : Path) → path_cmp p q ≡ Less → path_cmp q p ≡ Less → ⊥
never_both p q e f = no (path_cmp q p) f (path_cmp_total.antisymm q p ∙ ap ordering_reverse e)
  where
    no : (o : Ordering) → o ≡ Less → o ≡ Greater → ⊥
    no o e f = cc

pub never_self : (p : Path) → path_cmp p p ≡ Less → ⊥
never_self p e = never_both p p e e

-- lists in order that have the same paths are the same
pub sorted_same : (xs ys : List Path) → IsStrictlySortedBy path_cmp xs → IsStrictlySortedBy path_cmp ys →
    ((q : Path) → list_any (path_eq q) xs ≡ true → list_any (path_eq q) ys ≡ true) → ((q : Path) → list_any (path_eq q) ys ≡ true → list_any (path_eq q) xs ≡ true) → xs ≡ ys
unfolding IsStrictlySortedBy
sorted_same [] [] a b f g = refl
sorted_same [] (y ∷ ys) a b f g = absurd (clash false (g y (or_left (path_eq y y) _ (path_self y))) refl)
sorted_same (x ∷ xs) [] a b f g = absurd (clash false (f x (or_left (path_eq x x) _ (path_self x))) refl)
sorted_same (x ∷ xs) (y ∷ ys) a b f g = ap₂ (λ v vs. v ∷ vs) heads (sorted_same xs ys a.1 b.1 (λ q e. drop q ys (λ z. never_self x (subst (λ r. path_cmp x r ≡ Less) (z ∙ sym heads) (at_path (λ r. path_cmp x r ≡ Less) xs a.0 q e))) (f q (or_right (path_eq q x) _ e)))
    (λ q e. drop' q xs (λ z. never_self y (subst (λ r. path_cmp y r ≡ Less) (z ∙ heads) (at_path (λ r. path_cmp y r ≡ Less) ys b.0 q e))) (g q (or_right (path_eq q y) _ e))))
  where
    heads : x ≡ y
    heads = elim (or_is _ _ (f x (or_left (path_eq x x) _ (path_self x)))) [
      | inl z ↦ path_is x y z
      | inr z ↦ (elim (or_is _ _ (g y (or_left (path_eq y y) _ (path_self y)))) [
        | inl w ↦ sym (path_is y x w)
        | inr w ↦ absurd (never_both y x (at_path (λ r. path_cmp y r ≡ Less) ys b.0 x z) (at_path (λ r. path_cmp x r ≡ Less) xs a.0 y w))
      ])
    ]

    drop : (q : Path) (ys : List Path) → (q ≡ y → ⊥) → (path_eq q y || list_any (path_eq q) ys) ≡ true → list_any (path_eq q) ys ≡ true
    drop q ys n e = elim (or_is _ _ e) [ inl z ↦ absurd (n (path_is q y z)) | inr z ↦ z ]

    drop' : (q : Path) (xs : List Path) → (q ≡ x → ⊥) → (path_eq q x || list_any (path_eq q) xs) ≡ true → list_any (path_eq q) xs ≡ true
    drop' q xs n e = elim (or_is _ _ e) [ inl z ↦ absurd (n (path_is q x z)) | inr z ↦ z ]

-- ---- children

child_of : (p : Path) (s : Step) → child_step p (p ++ s ∷ []) ≡ Some s
child_of [] s = refl
child_of (x ∷ p) s = rw (step_self x) (child_of p s)

-- a context that is there is among its parent's children
pub has_child : (p : Path) (s : Step) (ps : List Path) → list_any (path_eq (p ++ s ∷ [])) ps ≡ true → list_any (step_eq s) (filter_map (child_step p) ps) ≡ true
has_child p s [] e = absurd (clash false e refl)
has_child p s (x ∷ ps) e = by (has_child p s ps) (child_step p x) refl
  where
    by : (list_any (path_eq (p ++ s ∷ [])) ps ≡ true → list_any (step_eq s) (filter_map (child_step p) ps) ≡ true) → (o : Option Step) → child_step p x ≡ o → list_any (step_eq s) (filter_map (child_step p) (x ∷ ps)) ≡ true
    by more None f = rw f (elim (or_is _ _ e) [
      | inl z ↦ absurd (none_not (sym f ∙ ap (child_step p) (sym (path_is (p ++ s ∷ []) x z)) ∙ child_of p s))
      | inr z ↦ more z
    ])
    by more (Some t) f = rw f (elim (or_is _ _ e) [
      | inl z ↦ or_left _ _ (subst (λ u. step_eq s u ≡ true) (some_same s t (sym (child_of p s) ∙ ap (child_step p) (path_is (p ++ s ∷ []) x z) ∙ f)) (step_self s))
      | inr z ↦ or_right (step_eq s t) _ (more z)
    ])

-- no path that is there is longer than all together
pub no_deeper : (p : Path) (ps : List Path) → list_any (path_eq p) ps ≡ true → length p ≤ depth_of ps
no_deeper p [] e = absurd (clash false e refl)
no_deeper p (x ∷ ps) e = elim (or_is _ _ e) [
  | inl z ↦ subst (λ q. length p ≤ length q + depth_of ps) (path_is p x z) (more (length p) (length p) (depth_of ps) (omega arith))
  | inr z ↦ more' (length p) (length x) (depth_of ps) (no_deeper p ps z)
]
  where
    more : (a b c : ℕ) → a ≤ b → a ≤ b + c
    more a b c l = omega (arith, l)

    more' : (a b c : ℕ) → a ≤ c → a ≤ b + c
    more' a b c l = omega (arith, l)

-- ---- the contexts of a subtree, depth first

module _ {F : Type 0} (tree : Tree F) where
  -- those below a context, child by child
  abbrev pub below : (Path → List Path) → Path → List Step → List Path
  below v p [] = []
  below v p (s ∷ ss) = v (p ++ s ∷ []) ++ below v p ss

  unfoldable pub subtree : ℕ → Path → List Path
  subtree zero p = p ∷ []
  subtree (suc d) p = p ∷ below (subtree d) p (children_of tree p)

  -- all of them begin with the context
  abbrev pub Under : Path → List Path → Type 0
  Under p ps = AllByRecursion (λ q. (r : Path) × (q ≡ p ++ r)) ps

  below_under : (v : Path → List Path) (p : Path) → ((s : Step) → Under (p ++ s ∷ []) (v (p ++ s ∷ []))) → (ss : List Step) → Under p (below v p ss)
  below_under v p f [] = tt
  below_under v p f (s ∷ ss) = all_joined (λ q. (r : Path) × (q ≡ p ++ r)) (v (p ++ s ∷ [])) (below v p ss)
      (all_map (λ q. (r : Path) × (q ≡ (p ++ s ∷ []) ++ r)) (λ q. (r : Path) × (q ≡ p ++ r)) (λ q e. (s ∷ e.0, e.1 ∙ append_assoc p (s ∷ []) e.0)) (v (p ++ s ∷ [])) (f s))
      (below_under v p f ss)

  pub subtree_under : (d : ℕ) (p : Path) → Under p (subtree d p)
  unfolding subtree
  subtree_under zero p = (([], sym (append-nil p)), tt)
  subtree_under (suc d) p = (([], sym (append-nil p)), below_under (subtree d) p (λ s. subtree_under d (p ++ s ∷ [])) (children_of tree p))

  -- each of them lies below a child that comes after s
  abbrev After : Path → Step → Path → Type 0
  After p s q = (t : Step) × (r : Path) × (q ≡ p ++ t ∷ r) × (step_cmp s t ≡ Less)

  all_after : (v : Path → List Path) (p : Path) (s : Step) → ((t : Step) → Under (p ++ t ∷ []) (v (p ++ t ∷ []))) → (ss : List Step) → AllByRecursion (λ t. step_cmp s t ≡ Less) ss → AllByRecursion (After p s) (below v p ss)
  all_after v p s f [] h = tt
  all_after v p s f (t ∷ ss) h = all_joined (After p s) (v (p ++ t ∷ [])) (below v p ss)
      (all_map (λ q. (r : Path) × (q ≡ (p ++ t ∷ []) ++ r)) (After p s) (λ q e. (t, e.0, e.1 ∙ append_assoc p (t ∷ []) e.0, h.0)) (v (p ++ t ∷ [])) (f t))
      (all_after v p s f ss h.1)

  below_sorted : (v : Path → List Path) (p : Path) → ((s : Step) → Under (p ++ s ∷ []) (v (p ++ s ∷ []))) → ((s : Step) → IsStrictlySortedBy path_cmp (v (p ++ s ∷ []))) → (ss : List Step) → IsStrictlySortedBy step_cmp ss → IsStrictlySortedBy path_cmp (below v p ss)
  unfolding IsStrictlySortedBy
  below_sorted v p f g [] h = tt
  below_sorted v p f g (s ∷ ss) h = sorted_append path_cmp (v (p ++ s ∷ [])) (below v p ss) (g s) (below_sorted v p f g ss h.1)
      (all_map (λ q. (r : Path) × (q ≡ (p ++ s ∷ []) ++ r)) (λ q. AllByRecursion (λ y. path_cmp q y ≡ Less) (below v p ss))
      (λ q e. all_map (After p s) (λ y. path_cmp q y ≡ Less) (λ y a. ap₂ path_cmp (e.1 ∙ append_assoc p (s ∷ []) e.0) a.2 ∙ sides p e.0 a.1 s a.0 a.3) (below v p ss) (all_after v p s f ss h.0))
      (v (p ++ s ∷ [])) (f s))

  module _ (ordered : IsStrictlySortedBy path_cmp tree.paths) where
    subtree_sorted : (d : ℕ) (p : Path) → IsStrictlySortedBy path_cmp (subtree d p)
    unfolding subtree IsStrictlySortedBy
    subtree_sorted zero p = (tt, tt)
    subtree_sorted (suc d) p = (
      all_map (λ q. (s : Step) × (r : Path) × (q ≡ p ++ s ∷ r)) (λ q. path_cmp p q ≡ Less) (λ q e. ap (path_cmp p) e.2 ∙ first_below p e.1 e.0) _ (deeper (children_of tree p)),
      below_sorted (subtree d) p (λ s. subtree_under d (p ++ s ∷ [])) (λ s. subtree_sorted d (p ++ s ∷ [])) (children_of tree p) (kids_sorted p tree.paths ordered),
    )
      where
        deeper : (ss : List Step) → AllByRecursion (λ q. (s : Step) × (r : Path) × (q ≡ p ++ s ∷ r)) (below (subtree d) p ss)
        deeper [] = tt
        deeper (s ∷ ss) = all_joined (λ q. (s : Step) × (r : Path) × (q ≡ p ++ s ∷ r)) (subtree d (p ++ s ∷ [])) (below (subtree d) p ss)
            (all_map (λ q. (r : Path) × (q ≡ (p ++ s ∷ []) ++ r)) (λ q. (s : Step) × (r : Path) × (q ≡ p ++ s ∷ r)) (λ q e. (s, e.0, e.1 ∙ append_assoc p (s ∷ []) e.0)) (subtree d (p ++ s ∷ [])) (subtree_under d (p ++ s ∷ [])))
            (deeper ss)

    kids_there : (p : Path) → AllByRecursion (λ s. there tree (p ++ s ∷ []) ≡ true) (children_of tree p)
    kids_there p = kids_in p tree.paths tree.paths (λ q e. e)

    -- all of a subtree is there
    subtree_there : (d : ℕ) (p : Path) → there tree p ≡ true → AllByRecursion (λ q. there tree q ≡ true) (subtree d p)
    unfolding subtree
    subtree_there zero p e = (e, tt)
    subtree_there (suc d) p e = (e, go (λ s f. subtree_there d (p ++ s ∷ []) f) (children_of tree p) (kids_there p))
      where
        go : ((s : Step) → there tree (p ++ s ∷ []) ≡ true → AllByRecursion (λ q. there tree q ≡ true) (subtree d (p ++ s ∷ []))) → (ss : List Step) → AllByRecursion (λ s. there tree (p ++ s ∷ []) ≡ true) ss → AllByRecursion (λ q. there tree q ≡ true) (below (subtree d) p ss)
        go f [] h = tt
        go f (s ∷ ss) h = all_joined (λ q. there tree q ≡ true) (subtree d (p ++ s ∷ [])) (below (subtree d) p ss) (f s h.0) (go f ss h.1)

    module _ (parents : (p : Path) → there tree p ≡ true → there tree (parent_of p) ≡ true) where
      -- what begins a path that is there is there
      pub front_there : (n : ℕ) (p r : Path) → length r ≡ n → there tree (p ++ r) ≡ true → there tree p ≡ true
      front_there zero p [] l e = subst (λ q. there tree q ≡ true) (append-nil p) e
      front_there zero p (s ∷ r) l e = absurd (omega (arith, l))
      front_there (suc n) p r l e = (let f = snoc r n l in
          front_there n p f.0 (one_less (length f.0) n (sym (length-append f.0 (f.1 ∷ [])) ∙ ap length (sym f.2) ∙ l))
          (subst (λ q. there tree q ≡ true) (parent_child (p ++ f.0) f.1) (parents ((p ++ f.0) ++ f.1 ∷ []) (subst (λ q. there tree q ≡ true) (ap (λ q. p ++ q) f.2 ∙ sym (append_assoc p f.0 (f.1 ∷ []))) e))))
        where
          one_less : (a n : ℕ) → a + 1 ≡ suc n → a ≡ n
          one_less a n e = omega (arith, e)

      -- what is there below a context is in its subtree
      in_subtree : (d : ℕ) (p r : Path) → length r ≤ d → there tree (p ++ r) ≡ true → list_any (path_eq (p ++ r)) (subtree d p) ≡ true
      unfolding subtree
      in_subtree zero p [] l e = or_left _ _ (subst (λ q. path_eq q p ≡ true) (sym (append-nil p)) (path_self p))
      in_subtree zero p (s ∷ r) l e = absurd (omega (arith, l))
      in_subtree (suc d) p [] l e = or_left _ _ (subst (λ q. path_eq q p ≡ true) (sym (append-nil p)) (path_self p))
      in_subtree (suc d) p (s ∷ r) l e = or_right (path_eq (p ++ s ∷ r) p) _ (go (subst (λ q. list_any (path_eq q) (subtree d (p ++ s ∷ [])) ≡ true) (append_assoc p (s ∷ []) r) (in_subtree d (p ++ s ∷ []) r (one_less (length r) d l) (subst (λ q. there tree q ≡ true) (sym (append_assoc p (s ∷ []) r)) e))) (children_of tree p) (has_child p s tree.paths (front_there (length r) (p ++ s ∷ []) r refl (subst (λ q. there tree q ≡ true) (sym (append_assoc p (s ∷ []) r)) e))))
        where
          one_less : (a b : ℕ) → suc a ≤ suc b → a ≤ b
          one_less a b l = omega (arith, l)

          go : list_any (path_eq (p ++ s ∷ r)) (subtree d (p ++ s ∷ [])) ≡ true → (ss : List Step) → list_any (step_eq s) ss ≡ true → list_any (path_eq (p ++ s ∷ r)) (below (subtree d) p ss) ≡ true
          go here [] f = absurd (clash false f refl)
          go here (t ∷ ss) f = list_any-append (path_eq (p ++ s ∷ r)) (subtree d (p ++ t ∷ [])) (below (subtree d) p ss) ∙ (elim (or_is _ _ f) [
            | inl z ↦ or_left _ _ (subst (λ u. list_any (path_eq (p ++ s ∷ r)) (subtree d (p ++ u ∷ [])) ≡ true) (step_is s t z) here)
            | inr z ↦ or_right (list_any (path_eq (p ++ s ∷ r)) (subtree d (p ++ t ∷ []))) _ (go here ss z)
          ])

      -- depth first from the root is path order
      pub depth_first : (d : ℕ) → depth_of tree.paths ≤ d → there tree [] ≡ true → subtree d [] ≡ tree.paths
      depth_first d deep root = sorted_same (subtree d []) tree.paths (subtree_sorted d []) ordered (λ q e. at_path (λ q. there tree q ≡ true) (subtree d []) (subtree_there d [] root) q e)
          (λ q e. in_subtree d [] q (through (length q) (depth_of tree.paths) d (no_deeper q tree.paths e) deep) e)
        where
          through : (a b c : ℕ) → a ≤ b → b ≤ c → a ≤ c
          through a b c l m = omega (arith, l, m)

  -- a visit of k contexts has 2k - 1 segments
  pub visit_is : (d : ℕ) (p : Path) → visit tree d p + 1 ≡ 2 * length (subtree d p)
  unfolding visit subtree
  visit_is zero p = refl
  visit_is (suc d) p = go (λ s. visit_is d (p ++ s ∷ [])) (children_of tree p)
    where
      go : ((s : Step) → visit tree d (p ++ s ∷ []) + 1 ≡ 2 * length (subtree d (p ++ s ∷ []))) → (ss : List Step) → with_children (visit tree d) p ss + 1 ≡ 2 * suc (length (below (subtree d) p ss))
      go f [] = refl
      go f (s ∷ ss) = by (visit tree d (p ++ s ∷ [])) (with_children (visit tree d) p ss) (length (subtree d (p ++ s ∷ []))) (length (below (subtree d) p ss)) _ (f s) (go f ss) (length-append (subtree d (p ++ s ∷ [])) (below (subtree d) p ss))
        where
          by : (a b c e f : ℕ) → a + 1 ≡ 2 * c → b + 1 ≡ 2 * suc e → f ≡ c + e → suc (a + b) + 1 ≡ 2 * suc f
          by a b c e f g h i = omega (arith, g, h, i)

-- Paths in order with their parents before them, and sorted paths with their parents among them: the same.
use Rattle.std.proofs.Common.{◌≡◌, ◌⊎◌, inl, inr, true, false, List, [], ◌∷◌, ◌++◌, true≢false, refl, sym, ap, subst, ◌∙◌, append_assoc, append-nil}
use Rattle.std.specs.Prelude.{◌&&◌, ◌||◌}
use Rattle.std.specs.BTreeMap.Comparable.{le_lt_trans}
use Rattle.std.specs.List.{AllByRecursion}
use Rattle.std.specs.List.Sorted.{IsStrictlySortedBy}
use Rattle.std.specs.Ordering.{ordering_then, is_le, is_eq}
use Rattle.std.specs.declared.cmp.Ordering.{Ordering}
use Rattle.std.specs.declared.cmp.Ordering.TheVariants.{Less, Equal, Greater}
use Rattle.std.proofs.lemmas.Bool.{and_parts, or_cases, or_left, or_right}
use Rattle.wave_base.specs.declared.path.Path.{Path}
use Rattle.wave_base.specs.declared.path.Step.{Step}
use Rattle.wave_base.specs.Paths.{step_cmp, path_eq, path_cmp, parent_of}
use Rattle.wave_base.specs.PathLaws.{step_eq_ties, step_eq_equiv, path_cmp_total, path_eq_decides, path_eq_equiv, path_eq_ties}
use Rattle.snapshot_text.specs.Shots.{is_less, is_behind, comes_next, are_in_order}
use Rattle.snapshot_text.proofs.OrderLemmas.{there, last_of, last_there, IsKept, kept_more, root_kept, behind_last, less_is}

-- ---- all of a list, by recursion

module _ {X : Type 0} where
  rec_more : (P : X → Type 0) (xs : List X) (y : X) → AllByRecursion P xs → P y → AllByRecursion P (xs ++ y ∷ [])
  rec_more P [] y h k = (k, tt)
  rec_more P (x ∷ xs) y h k = (h.0, rec_more P xs y h.1 k)

  pub rec_both : (P Q R : X → Type 0) → ((x : X) → P x → Q x → R x) → (xs : List X) → AllByRecursion P xs → AllByRecursion Q xs → AllByRecursion R xs
  rec_both P Q R f [] h k = tt
  rec_both P Q R f (x ∷ xs) h k = (f x h.0 k.0, rec_both P Q R f xs h.1 k.1)

  pub rec_weaker : (P Q : X → Type 0) → ((x : X) → P x → Q x) → (xs : List X) → AllByRecursion P xs → AllByRecursion Q xs
  rec_weaker P Q f [] h = tt
  rec_weaker P Q f (x ∷ xs) h = (f x h.0, rec_weaker P Q f xs h.1)

rec_there : (P : Path → Type 0) (qs : List Path) (x : Path) → AllByRecursion P qs → there x qs ≡ true → P x
rec_there P [] x h t = cc
rec_there P (q ∷ qs) x h t = by_or (rec_there P qs x h.1) (or_cases (path_eq x q) (there x qs) t)
  where
    by_or : (there x qs ≡ true → P x) → (path_eq x q ≡ true) ⊎ (there x qs ≡ true) → P x
    by_or more (inl e) = subst P (sym ((path_eq_decides x q).0 e)) h.0
    by_or more (inr e) = more e

pub there_append : (x : Path) (qs ps : List Path) → there x qs ≡ true → there x (qs ++ ps) ≡ true
there_append x [] ps h = cc
there_append x (q ∷ qs) ps h = by_or (there_append x qs ps) (or_cases (path_eq x q) (there x qs) h)
  where
    by_or : (there x qs ≡ true → there x (qs ++ ps) ≡ true) → (path_eq x q ≡ true) ⊎ (there x qs ≡ true) → (path_eq x q || there x (qs ++ ps)) ≡ true
    by_or more (inl e) = or_left (path_eq x q) (there x (qs ++ ps)) e
    by_or more (inr e) = or_right (path_eq x q) (there x (qs ++ ps)) (more e)

there_parts : (x : Path) (qs ps : List Path) → there x (qs ++ ps) ≡ true → (there x qs ≡ true) ⊎ (there x ps ≡ true)
there_parts x [] ps h = inr h
there_parts x (q ∷ qs) ps h = by_or (there_parts x qs ps) (or_cases (path_eq x q) (there x (qs ++ ps)) h)
  where
    by_rest : (there x qs ≡ true) ⊎ (there x ps ≡ true) → ((path_eq x q || there x qs) ≡ true) ⊎ (there x ps ≡ true)
    by_rest (inl e) = inl (or_right (path_eq x q) (there x qs) e)
    by_rest (inr e) = inr e

    by_or : (there x (qs ++ ps) ≡ true → (there x qs ≡ true) ⊎ (there x ps ≡ true)) → (path_eq x q ≡ true) ⊎ (there x (qs ++ ps) ≡ true) → ((path_eq x q || there x qs) ≡ true) ⊎ (there x ps ≡ true)
    by_or more (inl e) = inl (or_left (path_eq x q) (there x qs) e)
    by_or more (inr e) = by_rest (more e)

-- ---- in order, so sorted, with the parents among them

sorted_more : (qs : List Path) (p : Path) → IsStrictlySortedBy path_cmp qs → AllByRecursion (λ q. path_cmp q p ≡ Less) qs → IsStrictlySortedBy path_cmp (qs ++ p ∷ [])
unfolding IsStrictlySortedBy
sorted_more [] p s h = (tt, tt)
sorted_more (q ∷ qs) p s h = (rec_more (λ r. path_cmp q r ≡ Less) qs p s.0 h.0, sorted_more qs p s.1 h.1)

below_each : (last p : Path) (qs : List Path) → ((q : Path) → there q qs ≡ true → is_le (path_cmp q last) ≡ true) → path_cmp last p ≡ Less → AllByRecursion (λ q. path_cmp q p ≡ Less) qs
below_each last p [] g h = tt
below_each last p (q ∷ qs) g h =
    (le_lt_trans path_cmp_total q last p (g q (or_left (path_eq q q) (there q qs) (path_eq_equiv.refl q))) h, below_each last p qs (λ r t. g r (or_right (path_eq r q) (there r qs) t)) h)

next_sorted : (q : Path) (qs : List Path) (p : Path) → IsKept (q ∷ qs) → IsStrictlySortedBy path_cmp (q ∷ qs) → comes_next (q ∷ qs) p ≡ true → IsStrictlySortedBy path_cmp ((q ∷ qs) ++ p ∷ [])
next_sorted q qs p k s next =
    let parts = and_parts (is_behind (q ∷ qs) p) (there (parent_of p) (q ∷ qs)) next in
    let below : path_cmp (last_of (q ∷ qs)) p ≡ Less = less_is (path_cmp (last_of (q ∷ qs)) p) (sym (behind_last q qs p) ∙ parts.0) in
    sorted_more (q ∷ qs) p s (below_each (last_of (q ∷ qs)) p (q ∷ qs) k.greatest below)

sorted_all : (q : Path) (qs ps : List Path) → IsKept (q ∷ qs) → IsStrictlySortedBy path_cmp (q ∷ qs) → are_in_order (q ∷ qs) ps ≡ true → IsStrictlySortedBy path_cmp ((q ∷ qs) ++ ps)
sorted_all q qs [] k s h = subst (IsStrictlySortedBy path_cmp) (sym (append-nil (q ∷ qs))) s
sorted_all q qs (p ∷ ps) k s h =
    let parts = and_parts (comes_next (q ∷ qs) p) (are_in_order ((q ∷ qs) ++ p ∷ []) ps) h in
    subst (IsStrictlySortedBy path_cmp) (append_assoc (q ∷ qs) (p ∷ []) ps) (sorted_all q (qs ++ p ∷ []) ps (kept_more q qs p k parts.0) (next_sorted q qs p k s parts.0) parts.1)

one_sorted : (p : Path) → IsStrictlySortedBy path_cmp (p ∷ [])
unfolding IsStrictlySortedBy
one_sorted p = (tt, tt)

pub in_order_sorted : (ps : List Path) → are_in_order [] ps ≡ true → IsStrictlySortedBy path_cmp ps
unfolding IsStrictlySortedBy
in_order_sorted [] h = tt
in_order_sorted ([] ∷ ps) h = sorted_all [] [] ps root_kept (one_sorted []) h
in_order_sorted ((s ∷ p) ∷ ps) h = cc

parents_behind : (q : Path) (qs ps : List Path) → are_in_order (q ∷ qs) ps ≡ true → AllByRecursion (λ p. there (parent_of p) ((q ∷ qs) ++ ps) ≡ true) ps
parents_behind q qs [] h = tt
parents_behind q qs (p ∷ ps) h =
    let parts = and_parts (comes_next (q ∷ qs) p) (are_in_order ((q ∷ qs) ++ p ∷ []) ps) h in
    let here = and_parts (is_behind (q ∷ qs) p) (there (parent_of p) (q ∷ qs)) parts.0 in
    (there_append (parent_of p) (q ∷ qs) (p ∷ ps) here.1, subst (λ xs. AllByRecursion (λ r. there (parent_of r) xs ≡ true) ps) (append_assoc (q ∷ qs) (p ∷ []) ps) (parents_behind q (qs ++ p ∷ []) ps parts.1))

pub in_order_parents : (ps : List Path) → are_in_order [] ps ≡ true → AllByRecursion (λ p. there (parent_of p) ps ≡ true) ps
in_order_parents [] h = tt
in_order_parents ([] ∷ ps) h = (refl, parents_behind [] [] ps h)
in_order_parents ((s ∷ p) ∷ ps) h = cc

pub in_order_root : (ps : List Path) → (ps ≡ [] → ⊥) → are_in_order [] ps ≡ true → there [] ps ≡ true
in_order_root [] some h = absurd (some refl)
in_order_root ([] ∷ ps) some h = refl
in_order_root ((s ∷ p) ∷ ps) some h = cc

-- ---- and the other way round

sorted_mid : (xs : List Path) (p : Path) (ps : List Path) → IsStrictlySortedBy path_cmp (xs ++ p ∷ ps) → AllByRecursion (λ x. path_cmp x p ≡ Less) xs × AllByRecursion (λ y. path_cmp p y ≡ Less) ps
unfolding IsStrictlySortedBy
sorted_mid [] p ps s = (tt, s.0)
sorted_mid (x ∷ xs) p ps s =
    let more = sorted_mid xs p ps s.1 in
    ((at_mid (λ y. path_cmp x y ≡ Less) xs s.0, more.0), more.1)
  where
    at_mid : (P : Path → Type 0) (ys : List Path) → AllByRecursion P (ys ++ p ∷ ps) → P p
    at_mid P [] h = h.0
    at_mid P (y ∷ ys) h = at_mid P ys h.1

step_self : (s : Step) → step_cmp s s ≡ Equal
step_self s = equal (step_cmp s s) (sym (step_eq_ties s s) ∙ step_eq_equiv.refl s)
  where
    equal : (o : Ordering) → is_eq o ≡ true → o ≡ Equal
    equal Less e = cc
    equal Equal e = refl
    equal Greater e = cc

parent_below : (s : Step) (p : Path) → path_cmp (parent_of (s ∷ p)) (s ∷ p) ≡ Less
parent_below s [] = refl
parent_below s (t ∷ p) = ap (λ o. ordering_then o (path_cmp (parent_of (t ∷ p)) (t ∷ p))) (step_self s) ∙ parent_below t p

not_before_root : (l : Path) → path_cmp l [] ≡ Less → ⊥
not_before_root [] e = cc
not_before_root (s ∷ l) e = cc

-- what is below p is none of p and those behind it
not_behind : (x p : Path) (ps : List Path) → AllByRecursion (λ y. path_cmp p y ≡ Less) ps → path_cmp x p ≡ Less → there x (p ∷ ps) ≡ true → ⊥
not_behind x p ps h less t = by_or (or_cases (path_eq x p) (there x ps) t)
  where
    self : path_cmp x x ≡ Less → ⊥
    self e = true≢false (sym (path_eq_equiv.refl x) ∙ not_same e)
      where
        not_same : path_cmp x x ≡ Less → path_eq x x ≡ false
        not_same f = path_eq_ties x x ∙ ap is_eq f

    by_or : (path_eq x p ≡ true) ⊎ (there x ps ≡ true) → ⊥
    by_or (inl e) = self (subst (λ y. path_cmp x y ≡ Less) (sym ((path_eq_decides x p).0 e)) less)
    by_or (inr e) = self (path_cmp_total.trans x p x less (rec_there (λ y. path_cmp p y ≡ Less) ps x h e))

below_child : (l p : Path) → path_cmp l p ≡ Less → path_cmp (parent_of p) p ≡ Less
below_child l [] e = absurd (not_before_root l e)
below_child l (s ∷ p) e = parent_below s p

next_is : (q : Path) (qs : List Path) (p : Path) (ps : List Path) → IsStrictlySortedBy path_cmp ((q ∷ qs) ++ p ∷ ps) → there (parent_of p) ((q ∷ qs) ++ p ∷ ps) ≡ true → comes_next (q ∷ qs) p ≡ true
next_is q qs p ps s t = λ i. behind i && parent (there_parts (parent_of p) (q ∷ qs) (p ∷ ps) t) i
  where
    mid : AllByRecursion (λ x. path_cmp x p ≡ Less) (q ∷ qs) × AllByRecursion (λ y. path_cmp p y ≡ Less) ps
    mid = sorted_mid (q ∷ qs) p ps s

    last : path_cmp (last_of (q ∷ qs)) p ≡ Less
    last = rec_there (λ x. path_cmp x p ≡ Less) (q ∷ qs) (last_of (q ∷ qs)) mid.0 (last_there q qs)

    behind : is_behind (q ∷ qs) p ≡ true
    behind = behind_last q qs p ∙ ap is_less last

    parent : (there (parent_of p) (q ∷ qs) ≡ true) ⊎ (there (parent_of p) (p ∷ ps) ≡ true) → there (parent_of p) (q ∷ qs) ≡ true
    parent (inl e) = e
    parent (inr e) = absurd (not_behind (parent_of p) p ps mid.1 (below_child (last_of (q ∷ qs)) p last) e)

order_behind : (q : Path) (qs ps : List Path) → IsStrictlySortedBy path_cmp ((q ∷ qs) ++ ps) → AllByRecursion (λ p. there (parent_of p) ((q ∷ qs) ++ ps) ≡ true) ps → are_in_order (q ∷ qs) ps ≡ true
order_behind q qs [] s h = refl
order_behind q qs (p ∷ ps) s h =
    let same = append_assoc (q ∷ qs) (p ∷ []) ps in
    (λ i. next_is q qs p ps s h.0 i && are_in_order ((q ∷ qs) ++ p ∷ []) ps)
    ∙ order_behind q (qs ++ p ∷ []) ps (subst (IsStrictlySortedBy path_cmp) (sym same) s) (subst (λ xs. AllByRecursion (λ r. there (parent_of r) xs ≡ true) ps) (sym same) h.1)

pub sorted_in_order : (ps : List Path) → IsStrictlySortedBy path_cmp ps → AllByRecursion (λ p. there (parent_of p) ps ≡ true) ps → there [] ps ≡ true → are_in_order [] ps ≡ true
sorted_in_order [] s h t = refl
sorted_in_order ([] ∷ ps) s h t = order_behind [] [] ps s h.1
sorted_in_order ((a ∷ p) ∷ ps) s h t = absurd (not_before_root (a ∷ p) (rec_there (λ y. path_cmp (a ∷ p) y ≡ Less) ps [] (sorted_mid [] (a ∷ p) ps s).1 t))

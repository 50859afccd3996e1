-- Paths in order, each with its parent before it: those between a path and its child lie below that path.
use Rattle.std.proofs.Common.{◌≡◌, ◌⊎◌, inl, inr, ◌-◌, Bool, true, false, List, [], ◌∷◌, ◌++◌, length, slice_get, Some, refl, sym, ap, subst, ◌∙◌, append_assoc, append-nil, arith}
use Rattle.std.specs.Prelude.{◌&&◌, ◌||◌, IsTrue}
use Rattle.std.specs.BTreeMap.Comparable.{le_lt_trans}
use Rattle.std.specs.List.{list_any}
use Rattle.std.specs.Ordering.{ordering_reverse, ordering_then, is_lt, is_le, is_eq}
use Rattle.std.specs.declared.cmp.Ordering.{Ordering}
use Rattle.std.specs.declared.cmp.Ordering.TheVariants.{Less, Equal, Greater}
use Rattle.std.proofs.lemmas.Bool.{and_parts, or_cases, or_left, or_right}
use Rattle.wave_base.specs.declared.path.Path.{Path}
use Rattle.wave_base.specs.declared.path.Step.{Step}
use Rattle.wave_base.specs.declared.shot.Shot.{Shot}
use Rattle.wave_base.specs.Paths.{step_eq, step_cmp, path_eq, path_cmp, is_above, parent_of}
use Rattle.wave_base.specs.PathLaws.{step_cmp_total, step_eq_ties, same_step, path_cmp_total, path_eq_decides, path_eq_equiv, path_eq_ties}
use Rattle.snapshot_text.specs.Shots.{is_less, is_behind, comes_next, are_in_order, paths_of}

-- ---- one path more

pub order_more : (front ps : List Path) (p : Path) → are_in_order front ps ≡ true → comes_next (front ++ ps) p ≡ true → are_in_order front (ps ++ p ∷ []) ≡ true
order_more front [] p h next = ap (λ b. b && true) (ap (λ qs. comes_next qs p) (sym (append-nil front)) ∙ next)
order_more front (q ∷ qs) p h next =
    let k = and_parts (comes_next front q) (are_in_order (front ++ q ∷ []) qs) h in
    ap (λ b. b && are_in_order (front ++ q ∷ []) (qs ++ p ∷ [])) k.0 ∙ order_more (front ++ q ∷ []) qs p k.1 (ap (λ xs. comes_next xs p) (append_assoc front (q ∷ []) qs) ∙ next)

pub order_at : (front ps : List Path) (p : Path) (qs : List Path) → are_in_order front (ps ++ p ∷ qs) ≡ true → comes_next (front ++ ps) p ≡ true
order_at front [] p qs h = ap (λ xs. comes_next xs p) (append-nil front) ∙ (and_parts (comes_next front p) (are_in_order (front ++ p ∷ []) qs) h).0
order_at front (r ∷ ps) p qs h =
    let k = and_parts (comes_next front r) (are_in_order (front ++ r ∷ []) (ps ++ p ∷ qs)) h in
    sym (ap (λ xs. comes_next xs p) (append_assoc front (r ∷ []) ps)) ∙ order_at (front ++ r ∷ []) ps p qs k.1

-- ---- steps and paths

no_less : Greater ≡ Less → ⊥
no_less e = cc

same_by_eq : (a b : Step) → step_eq a b ≡ true → a ≡ b
same_by_eq a b h = same_step a b (equal (step_cmp a b) (sym (step_eq_ties a b) ∙ h))
  where
    equal : (o : Ordering) → is_eq o ≡ true → o ≡ Equal
    equal Less e = cc
    equal Equal e = refl
    equal Greater e = cc

-- where q begins l, the rest of l
pub rest_of : (q l : Path) → is_above q l ≡ true → (r : Path) × (l ≡ q ++ r)
rest_of [] l h = (l, refl)
rest_of (a ∷ q) [] h = cc
rest_of (a ∷ q) (b ∷ l) h =
    let k = and_parts (step_eq a b) (is_above q l) h in
    let r = rest_of q l k.1 in
    (r.0, λ i. sym (same_by_eq a b k.0) i ∷ r.1 i)

-- what lies between q and a child of q lies below q
pub between : (q l : Path) (s : Step) → IsTrue (is_le (path_cmp q l)) → path_cmp l (q ++ s ∷ []) ≡ Less → is_above q l ≡ true
between [] l s h k = refl
between (a ∷ q) [] s h k = cc
between (a ∷ q) (b ∷ l) s h k =
    by_order (between q l s) (step_cmp a b) refl (step_cmp_total.antisymm b a) h k
  where
    by_order : (IsTrue (is_le (path_cmp q l)) → path_cmp l (q ++ s ∷ []) ≡ Less → is_above q l ≡ true) → (o : Ordering) → step_cmp a b ≡ o → step_cmp b a ≡ ordering_reverse (step_cmp a b) → is_le (ordering_then (step_cmp a b) (path_cmp q l)) ≡ true → ordering_then (step_cmp b a) (path_cmp l (q ++ s ∷ [])) ≡ Less
        → (step_eq a b && is_above q l) ≡ true
    by_order below_it Less e f g m = absurd (no_less (sym (ap (λ o. ordering_then o (path_cmp l (q ++ s ∷ []))) (f ∙ ap ordering_reverse e)) ∙ m))
    by_order below_it Equal e f g m =
        let below : path_cmp l (q ++ s ∷ []) ≡ Less = sym (ap (λ o. ordering_then o (path_cmp l (q ++ s ∷ []))) (f ∙ ap ordering_reverse e)) ∙ m in
        let above : is_le (path_cmp q l) ≡ true = sym (ap (λ o. is_le (ordering_then o (path_cmp q l))) e) ∙ g in
        ap (λ t. t && is_above q l) (step_eq_ties a b ∙ ap is_eq e) ∙ below_it above below
    by_order below_it Greater e f g m = cc (sym (ap (λ o. is_le (ordering_then o (path_cmp q l))) e) ∙ g)

parent_append : (q r : Path) (s : Step) → parent_of (q ++ s ∷ r) ≡ q ++ parent_of (s ∷ r)
parent_append [] r s = refl
parent_append (a ∷ []) r s = refl
parent_append (a ∷ b ∷ q) r s = ap (λ p. a ∷ p) (parent_append (b ∷ q) r s)

pub parent_is : (q : Path) (s : Step) → parent_of (q ++ s ∷ []) ≡ q
parent_is q s = parent_append q [] s ∙ append-nil q

-- ---- the paths so far

abbrev pub there : Path → List Path → Bool
there q qs = list_any (path_eq q) qs

abbrev pub last_of : List Path → Path
last_of [] = []
last_of (q ∷ []) = q
last_of (q ∷ r ∷ qs) = last_of (r ∷ qs)

pub record IsKept (qs : List Path) : Type 0 where
  pub closed : (q r : Path) → there (q ++ r) qs ≡ true → there q qs ≡ true
  pub greatest : (q : Path) → there q qs ≡ true → is_le (path_cmp q (last_of qs)) ≡ true

pub behind_last : (q : Path) (qs : List Path) (p : Path) → is_behind (q ∷ qs) p ≡ is_less (path_cmp (last_of (q ∷ qs)) p)
behind_last q [] p = refl
behind_last q (r ∷ qs) p = behind_last r qs p

last_more : (qs : List Path) (p : Path) → last_of (qs ++ p ∷ []) ≡ p
last_more [] p = refl
last_more (q ∷ []) p = refl
last_more (q ∷ r ∷ qs) p = last_more (r ∷ qs) p

pub less_is : (o : Ordering) → is_less o ≡ true → o ≡ Less
less_is Less h = refl
less_is Equal h = cc
less_is Greater h = cc

there_more : (q : Path) (qs : List Path) (p : Path) → there q (qs ++ p ∷ []) ≡ true → (there q qs ≡ true) ⊎ (q ≡ p)
there_more q [] p h = by_or (or_cases (path_eq q p) false h)
  where
    by_or : (path_eq q p ≡ true) ⊎ (false ≡ true) → (false ≡ true) ⊎ (q ≡ p)
    by_or (inl k) = inr ((path_eq_decides q p).0 k)
    by_or (inr k) = inl k
there_more q (r ∷ qs) p h = by_or (there_more q qs p) (or_cases (path_eq q r) (there q (qs ++ p ∷ [])) h)
  where
    by_rest : (there q qs ≡ true) ⊎ (q ≡ p) → ((path_eq q r || there q qs) ≡ true) ⊎ (q ≡ p)
    by_rest (inl k) = inl (or_right (path_eq q r) (there q qs) k)
    by_rest (inr k) = inr k

    by_or : (there q (qs ++ p ∷ []) ≡ true → (there q qs ≡ true) ⊎ (q ≡ p)) → (path_eq q r ≡ true) ⊎ (there q (qs ++ p ∷ []) ≡ true) → ((path_eq q r || there q qs) ≡ true) ⊎ (q ≡ p)
    by_or more (inl k) = inl (or_left (path_eq q r) (there q qs) k)
    by_or more (inr k) = by_rest (more k)

there_front : (q : Path) (qs : List Path) (p : Path) → there q qs ≡ true → there q (qs ++ p ∷ []) ≡ true
there_front q [] p h = cc
there_front q (r ∷ qs) p h = by_or (there_front q qs p) (or_cases (path_eq q r) (there q qs) h)
  where
    by_or : (there q qs ≡ true → there q (qs ++ p ∷ []) ≡ true) → (path_eq q r ≡ true) ⊎ (there q qs ≡ true) → (path_eq q r || there q (qs ++ p ∷ [])) ≡ true
    by_or more (inl k) = or_left (path_eq q r) (there q (qs ++ p ∷ [])) k
    by_or more (inr k) = or_right (path_eq q r) (there q (qs ++ p ∷ [])) (more k)

there_end : (qs : List Path) (p : Path) → there p (qs ++ p ∷ []) ≡ true
there_end [] p = or_left (path_eq p p) false (path_eq_equiv.refl p)
there_end (q ∷ qs) p = or_right (path_eq p q) (there p (qs ++ p ∷ [])) (there_end qs p)

pub last_there : (q : Path) (qs : List Path) → there (last_of (q ∷ qs)) (q ∷ qs) ≡ true
last_there q [] = or_left (path_eq q q) false (path_eq_equiv.refl q)
last_there q (r ∷ qs) = or_right (path_eq (last_of (r ∷ qs)) q) (there (last_of (r ∷ qs)) (r ∷ qs)) (last_there r qs)

le_self : (p : Path) → is_le (path_cmp p p) ≡ true
le_self p = by_equal (path_cmp p p) (sym (path_eq_ties p p) ∙ path_eq_equiv.refl p)
  where
    by_equal : (o : Ordering) → is_eq o ≡ true → is_le o ≡ true
    by_equal Less h = refl
    by_equal Equal h = refl
    by_equal Greater h = cc

pub root_kept : IsKept ([] ∷ [])
root_kept = record { closed = closed; greatest = λ q h. by_path q h }
  where
    closed : (q r : Path) → there (q ++ r) ([] ∷ []) ≡ true → there q ([] ∷ []) ≡ true
    closed [] r h = refl
    closed (a ∷ q) r h = cc

    by_path : (q : Path) → there q ([] ∷ []) ≡ true → is_le (path_cmp q []) ≡ true
    by_path [] h = refl
    by_path (a ∷ q) h = cc

pub kept_more : (q : Path) (qs : List Path) (p : Path) → IsKept (q ∷ qs) → comes_next (q ∷ qs) p ≡ true → IsKept ((q ∷ qs) ++ p ∷ [])
kept_more q qs p k next =
    let parts = and_parts (is_behind (q ∷ qs) p) (there (parent_of p) (q ∷ qs)) next in
    let below : path_cmp (last_of (q ∷ qs)) p ≡ Less = less_is (path_cmp (last_of (q ∷ qs)) p) (sym (behind_last q qs p) ∙ parts.0) in
    record {
      closed = λ x r h. closed x r parts.1 (there_more (x ++ r) (q ∷ qs) p h);
      greatest = λ x h. subst (λ l. is_le (path_cmp x l) ≡ true) (sym (last_more (q ∷ qs) p)) (greatest x below (there_more x (q ∷ qs) p h));
    }
  where
    prefix : (x r : Path) → there (parent_of p) (q ∷ qs) ≡ true → x ++ r ≡ p → there x ((q ∷ qs) ++ p ∷ []) ≡ true
    prefix x [] h e = subst (λ y. there y ((q ∷ qs) ++ p ∷ []) ≡ true) (sym (sym (append-nil x) ∙ e)) (there_end (q ∷ qs) p)
    prefix x (s ∷ r) h e = there_front x (q ∷ qs) p (k.closed x (parent_of (s ∷ r)) (subst (λ y. there y (q ∷ qs) ≡ true) (ap parent_of (sym e) ∙ parent_append x r s) h))

    closed : (x r : Path) → there (parent_of p) (q ∷ qs) ≡ true → (there (x ++ r) (q ∷ qs) ≡ true) ⊎ (x ++ r ≡ p) → there x ((q ∷ qs) ++ p ∷ []) ≡ true
    closed x r h (inl t) = there_front x (q ∷ qs) p (k.closed x r t)
    closed x r h (inr e) = prefix x r h e

    greatest : (x : Path) → path_cmp (last_of (q ∷ qs)) p ≡ Less → (there x (q ∷ qs) ≡ true) ⊎ (x ≡ p) → is_le (path_cmp x p) ≡ true
    greatest x b (inl t) = ap is_le (le_lt_trans path_cmp_total x (last_of (q ∷ qs)) p (k.greatest x t) b)
    greatest x b (inr e) = subst (λ y. is_le (path_cmp y p) ≡ true) (sym e) (le_self p)

kept_all : (q : Path) (qs ps : List Path) → IsKept (q ∷ qs) → are_in_order (q ∷ qs) ps ≡ true → IsKept ((q ∷ qs) ++ ps)
kept_all q qs [] k h = subst IsKept (sym (append-nil (q ∷ qs))) k
kept_all q qs (p ∷ ps) k h =
    let parts = and_parts (comes_next (q ∷ qs) p) (are_in_order ((q ∷ qs) ++ p ∷ []) ps) h in
    subst IsKept (append_assoc (q ∷ qs) (p ∷ []) ps) (kept_all q (qs ++ p ∷ []) ps (kept_more q qs p k parts.0) parts.1)

-- paths in order have all that lies above them among them, and the last is the greatest
pub kept : (p : Path) (ps : List Path) → are_in_order [] (p ∷ ps) ≡ true → IsKept (p ∷ ps)
kept [] ps h = kept_all [] [] ps root_kept h
kept (s ∷ p) ps h = cc

-- ---- whether a path comes next

pub next_by_parent : (q : Path) (qs : List Path) (parent : Path) (s : Step) → are_in_order [] (q ∷ qs) ≡ true
    → (is_less (path_cmp (last_of (q ∷ qs)) (parent ++ s ∷ [])) && is_above parent (last_of (q ∷ qs))) ≡ comes_next (q ∷ qs) (parent ++ s ∷ [])
next_by_parent q qs parent s h =
    by_order (path_cmp (last_of (q ∷ qs)) (parent ++ s ∷ [])) refl ∙ ap (λ t. t && there (parent_of (parent ++ s ∷ [])) (q ∷ qs)) (sym (behind_last q qs (parent ++ s ∷ [])))
  where
    k : IsKept (q ∷ qs)
    k = kept q qs h

    up : is_above parent (last_of (q ∷ qs)) ≡ true → there parent (q ∷ qs) ≡ true
    up a = (let r = rest_of parent (last_of (q ∷ qs)) a in k.closed parent r.0 (subst (λ l. there l (q ∷ qs) ≡ true) r.1 (last_there q qs)))

    both : (a b : Bool) → (a ≡ true → b ≡ true) → (b ≡ true → a ≡ true) → a ≡ b
    both true b f g = sym (f refl)
    both false true f g = g refl
    both false false f g = refl

    by_order : (o : Ordering) → path_cmp (last_of (q ∷ qs)) (parent ++ s ∷ []) ≡ o
        → (is_less o && is_above parent (last_of (q ∷ qs))) ≡ (is_less o && there (parent_of (parent ++ s ∷ [])) (q ∷ qs))
    by_order Less e =
        both (is_above parent (last_of (q ∷ qs))) (there parent (q ∷ qs)) up (λ t. between parent (last_of (q ∷ qs)) s (k.greatest parent t) e)
        ∙ ap (λ y. there y (q ∷ qs)) (sym (parent_is parent s))
    by_order Equal e = refl
    by_order Greater e = refl

pub no_root_next : (q : Path) (qs : List Path) → comes_next (q ∷ qs) [] ≡ false
no_root_next q qs = ap (λ t. t && there [] (q ∷ qs)) (behind_last q qs [] ∙ not_less (last_of (q ∷ qs)))
  where
    not_less : (l : Path) → is_less (path_cmp l []) ≡ false
    not_less [] = refl
    not_less (a ∷ l) = refl

-- ---- the last shot

pub same_less : (o : Ordering) → is_lt o ≡ is_less o
same_less Less = refl
same_less Equal = refl
same_less Greater = refl

last_path : (shots : List Shot) (s : Shot) (last : Shot) → Some last ≡ slice_get (s ∷ shots) (length shots) → last_of (paths_of (s ∷ shots)) ≡ last.path
last_path [] s last h = (let same : last ≡ s = cc in ap (λ (x : Shot). x.path) (sym same))
last_path (t ∷ ss) s last h = last_path ss t last h

at_last : (shots : List Shot) (s : Shot) (last : Shot) → Some last ≡ slice_get (s ∷ shots) (length (s ∷ shots) - 1) → last_of (paths_of (s ∷ shots)) ≡ last.path
at_last shots s last h =
    let n : length (s ∷ shots) - 1 ≡ length shots = omega arith in
    last_path shots s last (h ∙ ap (slice_get (s ∷ shots)) n)

module _ (last : Shot) (p : Path) where
  pub next_is : (before : List Shot) → Some last ≡ slice_get before (length before - 1) → (parent : Path) (s : Step) → p ≡ parent ++ s ∷ [] → are_in_order [] (paths_of before) ≡ true
      → (is_less (path_cmp last.path p) && is_above parent last.path) ≡ comes_next (paths_of before) p
  next_is [] h parent s e order = cc
  next_is (b ∷ bs) h parent s e order =
      (λ i. is_less (path_cmp (sym (at_last bs b last h) i) (e i)) && is_above parent (sym (at_last bs b last h) i))
      ∙ next_by_parent b.path (paths_of bs) parent s order ∙ ap (comes_next (paths_of (b ∷ bs))) (sym e)

  pub no_root : (before : List Shot) → Some last ≡ slice_get before (length before - 1) → p ≡ [] → false ≡ comes_next (paths_of before) p
  no_root [] h e = cc
  no_root (b ∷ bs) h e = sym (ap (comes_next (paths_of (b ∷ bs))) e ∙ no_root_next b.path (paths_of bs))

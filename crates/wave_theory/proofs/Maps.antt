-- Entries in the order of their keys: what is found after one is put or some are left out; and the children in a tree after one joins.
use Rattle.std.proofs.Common.{◌≡◌, inl, inr, Bool, true, false, ◌&&◌, ◌||◌, List, [], ◌∷◌, ◌++◌, Option, Some, None, map, filter, refl, sym, ◌∙◌, ap, ap₂, subst, arith}
use Rattle.std.specs.Prelude.{cond}
use Rattle.std.specs.List.{list_any, filter_map}
use Rattle.std.specs.List.Sorted.{IsStrictlySortedBy}
use Rattle.std.specs.List.{AllByRecursion}
use Rattle.std.specs.Map.{lookup}
use Rattle.std.specs.BTreeMap.{insert_entry, is_at}
use Rattle.std.specs.BTreeSet.{insert_key}
use Rattle.std.specs.Ordering.{match_ordering, is_eq, ordering_then}
use Rattle.std.specs.Cmp.{IsTotalOrder, eq_by_cmp_equiv}
use Rattle.std.specs.declared.cmp.Ordering.{Ordering}
use Rattle.std.specs.declared.cmp.Ordering.TheVariants.{Less, Equal, Greater}
use Rattle.wave_base.specs.declared.path.Step.{Step}
use Rattle.wave_base.specs.declared.path.Path.{Path}
use Rattle.wave_base.specs.declared.children.Child.{Child}
use Rattle.wave_base.specs.Paths.{step_eq, step_cmp, path_eq, path_cmp}
use Rattle.wave_base.specs.PathLaws.{path_eq_ties, step_eq_ties, path_cmp_total, step_cmp_total, same_path, same_step}
use Rattle.wave_base.specs.Kids.{child_at, with_child}
use Rattle.wave_base.specs.Tree.{Tree, enter, children_of, child_step}
use Rattle.wave_states.specs.States.{Hold, hold_at, steps_of}
use Rattle.wave_base.specs.Paths.{parent_of}
use Rattle.wave_theory.proofs.Paths.{parent_child}
use Rattle.wave_theory.proofs.Basics.{options, bool_cases, clash, path_cases, some_same, none_not}

choose_once : {X : Type 0} (b : Bool) (x y z : X) → cond b x z ≡ cond b x (cond b y z)
choose_once true x y z = refl
choose_once false x y z = refl

choose_apart : {X : Type 0} (a b : Bool) (x y z : X) → (a ≡ true → b ≡ true → ⊥) → cond a x (cond b y z) ≡ cond b y (cond a x z)
choose_apart true true x y z h = absurd (h refl refl)
choose_apart true false x y z h = refl
choose_apart false true x y z h = refl
choose_apart false false x y z h = refl

is_equal : (o : Ordering) → is_eq o ≡ true → o ≡ Equal
is_equal Less e = absurd (clash false e refl)
is_equal Equal e = refl
is_equal Greater e = absurd (clash false e refl)

differ : Greater ≡ Equal → ⊥
differ e = grind arith

module _ {K : Type 0} {R : K → K → Ordering} (total : IsTotalOrder R) (exact : (a b : K) → R a b ≡ Equal → a ≡ b) where
  pub at_self : (a : K) → R a a ≡ Equal
  at_self a = is_equal _ ((eq_by_cmp_equiv total).refl a)

  both_at : (q a b : K) → is_at (R q) a ≡ true → is_at (R q) b ≡ true → R a b ≡ Equal
  both_at q a b e f = subst (λ c. R a c ≡ Equal) (sym (exact q a (is_equal _ e)) ∙ exact q b (is_equal _ f)) (at_self a)

module _ {K X : Type 0} {R : K → K → Ordering} (total : IsTotalOrder R) (exact : (a b : K) → R a b ≡ Equal → a ≡ b) where
  pub lookup_insert : (es : List (K × X)) (k q : K) (v : X) → lookup (is_at (R q)) (insert_entry R es k v) ≡ cond (is_at (R q) k) (Some v) (lookup (is_at (R q)) es)
  lookup_insert [] k q v = refl
  lookup_insert (e ∷ es) k q v =
      elim (R k e.0) as (λ r. R k e.0 ≡ r → lookup (is_at (R q)) (match_ordering r ((k, v) ∷ e ∷ es) ((e.0, v) ∷ es) (e ∷ insert_entry R es k v)) ≡ cond (is_at (R q) k) (Some v) (cond (is_at (R q) e.0) (Some e.1) (lookup (is_at (R q)) es))) [
        | Less ↦ λ c. refl
        | Equal ↦ λ c. subst (λ z. cond (is_at (R q) e.0) (Some v) (lookup (is_at (R q)) es) ≡ cond (is_at (R q) z) (Some v) (cond (is_at (R q) e.0) (Some e.1) (lookup (is_at (R q)) es))) (sym (exact k e.0 c)) (choose_once (is_at (R q) e.0) (Some v) (Some e.1) (lookup (is_at (R q)) es))
        | Greater ↦ λ c. ap (λ o. cond (is_at (R q) e.0) (Some e.1) o) (lookup_insert es k q v) ∙ choose_apart (is_at (R q) e.0) (is_at (R q) k) (Some e.1) (Some v) (lookup (is_at (R q)) es) (λ a b. differ (sym c ∙ both_at total exact q k e.0 b a))
      ] refl

  pub keys_insert : (es : List (K × X)) (k : K) (v : X) → map (λ e. e.0) (insert_entry R es k v) ≡ insert_key R (map (λ e. e.0) es) k
  keys_insert [] k v = refl
  keys_insert (e ∷ es) k v =
      elim (R k e.0) as (λ r. map (λ z. z.0) (match_ordering r ((k, v) ∷ e ∷ es) ((e.0, v) ∷ es) (e ∷ insert_entry R es k v)) ≡ match_ordering r (k ∷ e.0 ∷ map (λ z. z.0) es) (e.0 ∷ map (λ z. z.0) es) (e.0 ∷ insert_key R (map (λ z. z.0) es) k)) [
        | Less ↦ refl
        | Equal ↦ refl
        | Greater ↦ ap (λ ks. e.0 ∷ ks) (keys_insert es k v)
      ]

-- held paths
at_is : (q p : Path) → is_at (path_cmp q) p ≡ path_eq q p
at_is q p = sym (path_eq_ties q p)

pub hold_put : (held : List (Path × Hold)) (p q : Path) (v : Hold) → hold_at (insert_entry path_cmp held p v) q ≡ cond (path_eq q p) (Some v) (hold_at held q)
hold_put held p q v = lookup_insert path_cmp_total same_path held p q v ∙ ap (λ b. cond b (Some v) (hold_at held q)) (at_is q p)

pub hold_filter : (f : Path → Bool) (held : List (Path × Hold)) (q : Path) → hold_at (filter (λ x. f x.0) held) q ≡ cond (f q) (hold_at held q) None
hold_filter f [] q = none_here (f q)
  where
    none_here : (b : Bool) → ◌≡◌ {A = Option Hold} None (cond b None None)
    none_here true = refl
    none_here false = refl
hold_filter f (x ∷ held) q = elim (bool_cases (is_at (path_cmp q) x.0)) [
  | inl z ↦ (let qx : q ≡ x.0 = same_path q x.0 (is_equal _ z) in elim (bool_cases (f x.0)) [
    | inl e ↦ (let fq : f q ≡ true = subst (λ r. f r ≡ true) (sym qx) e in rw (e, fq) (rw z refl))
    | inr e ↦ (let fq : f q ≡ false = subst (λ r. f r ≡ false) (sym qx) e in rw e (hold_filter f held q ∙ (rw fq refl)))
  ])
  | inr z ↦ elim (bool_cases (f x.0)) [
    | inl e ↦ rw e (rw z (hold_filter f held q))
    | inr e ↦ rw e (rw z (hold_filter f held q))
  ]
]

-- children
pub child_put : (cs : List (Step × Child)) (s q : Step) (c : Child) → child_at (with_child cs s c) q ≡ cond (step_eq q s) (Some c) (child_at cs q)
child_put cs s q c = lookup_insert step_cmp_total same_step cs s q c ∙ ap (λ b. cond b (Some c) (child_at cs q)) (sym (step_eq_ties q s))

pub steps_put : (cs : List (Step × Child)) (s : Step) (c : Child) → steps_of (with_child cs s c) ≡ insert_key step_cmp (steps_of cs) s
steps_put cs s c = keys_insert step_cmp_total same_step cs s c

-- the children of a context after a path joins the tree
child_step_is : (p q : Path) (s : Step) → child_step p q ≡ Some s → q ≡ p ++ s ∷ []
child_step_is [] [] s e = absurd (none_not e)
child_step_is [] (t ∷ []) s e = ap (λ v. v ∷ []) (some_same t s e)
child_step_is [] (t ∷ u ∷ q) s e = absurd (none_not e)
child_step_is (x ∷ p) [] s e = absurd (none_not e)
child_step_is (x ∷ p) (t ∷ q) s e = elim (bool_cases (step_eq x t)) [
  | inr z ↦ absurd (none_not (let y : None ≡ Some s = rw z at e in y))
  | inl z ↦ (let y : child_step p q ≡ Some s = rw z at e in ap₂ (λ a b. a ∷ b) (sym (same_step x t (is_equal _ (sym (step_eq_ties x t) ∙ z)))) (child_step_is p q s y))
]

child_step_of : (p : Path) (s : Step) → child_step p (p ++ s ∷ []) ≡ Some s
child_step_of [] s = refl
child_step_of (x ∷ p) s = rw (subst (λ b. b ≡ true) (sym (step_eq_ties x x)) (ap is_eq (at_self step_cmp_total same_step x))) (child_step_of p s)

child_cmp : (p : Path) (s u : Step) → path_cmp (p ++ s ∷ []) (p ++ u ∷ []) ≡ step_cmp s u
child_cmp [] s u = then_equal (step_cmp s u)
  where
    then_equal : (o : Ordering) → ordering_then o Equal ≡ o
    then_equal Less = refl
    then_equal Equal = refl
    then_equal Greater = refl
child_cmp (x ∷ p) s u = rw (at_self step_cmp_total same_step x) (child_cmp p s u)

-- the children of a context after a path joins
all_children : (p : Path) (s : Step) (ps : List Path) → AllByRecursion (λ y. path_cmp (p ++ s ∷ []) y ≡ Less) ps → AllByRecursion (λ u. step_cmp s u ≡ Less) (filter_map (child_step p) ps)
all_children p s [] h = tt
all_children p s (x ∷ ps) h = elim (options (child_step p x)) [
  | inl e ↦ rw e (all_children p s ps h.1)
  | inr e ↦ rw e.1 (sym (child_cmp p s e.0) ∙ subst (λ y. path_cmp (p ++ s ∷ []) y ≡ Less) (child_step_is p x e.0 e.1) h.0, all_children p s ps h.1)
]

first_in : (s : Step) (us : List Step) → AllByRecursion (λ u. step_cmp s u ≡ Less) us → insert_key step_cmp us s ≡ s ∷ us
first_in s [] h = refl
first_in s (u ∷ us) h = ap (λ r. match_ordering r (s ∷ u ∷ us) (u ∷ us) (u ∷ insert_key step_cmp us s)) h.0

below_all : (q x : Path) (ps : List Path) → path_cmp q x ≡ Less → AllByRecursion (λ y. path_cmp x y ≡ Less) ps → AllByRecursion (λ y. path_cmp q y ≡ Less) ps
below_all q x [] e h = tt
below_all q x (y ∷ ys) e h = (path_cmp_total.trans q x y e h.0, below_all q x ys e h.1)

children_in : (p : Path) (s : Step) (ps : List Path) → IsStrictlySortedBy path_cmp ps → filter_map (child_step p) (insert_key path_cmp ps (p ++ s ∷ [])) ≡ insert_key step_cmp (filter_map (child_step p) ps) s
unfolding IsStrictlySortedBy
children_in p s [] h = rw (child_step_of p s) refl
children_in p s (x ∷ ps) h =
    elim (path_cmp q x) as (λ r. path_cmp q x ≡ r → filter_map (child_step p) (match_ordering r (q ∷ x ∷ ps) (x ∷ ps) (x ∷ insert_key path_cmp ps q)) ≡ insert_key step_cmp (filter_map (child_step p) (x ∷ ps)) s) [
      | Less ↦ λ c. rw (child_step_of p s) (sym (first_in s (filter_map (child_step p) (x ∷ ps)) (all_children p s (x ∷ ps) (c, below_all q x ps c h.0))))
      | Equal ↦ λ c. (let cx : child_step p x ≡ Some s = subst (λ y. child_step p y ≡ Some s) (same_path q x c) (child_step_of p s) in
          rw cx (sym (ap (λ r. match_ordering r (s ∷ s ∷ filter_map (child_step p) ps) (s ∷ filter_map (child_step p) ps) (s ∷ insert_key step_cmp (filter_map (child_step p) ps) s)) (at_self step_cmp_total same_step s))))
      | Greater ↦ λ c. elim (options (child_step p x)) [
        | inl e ↦ rw e (children_in p s ps h.1)
        | inr e ↦ rw e.1 (ap (λ us. e.0 ∷ us) (children_in p s ps h.1)
            ∙ sym (ap (λ r. match_ordering r (s ∷ e.0 ∷ filter_map (child_step p) ps) (e.0 ∷ filter_map (child_step p) ps) (e.0 ∷ insert_key step_cmp (filter_map (child_step p) ps) s))
            (sym (child_cmp p s e.0) ∙ subst (λ y. path_cmp q y ≡ Greater) (child_step_is p x e.0 e.1) c)))
      ]
    ] refl
  where
    q : Path
    q = p ++ s ∷ []

pub children_enter : {F : Type 0} (t : Tree F) (p : Path) (s : Step) → IsStrictlySortedBy path_cmp t.paths → children_of (enter t (p ++ s ∷ [])) p ≡ insert_key step_cmp (children_of t p) s
children_enter t p s h = children_in p s t.paths h

not_in : (r q : Path) (ps : List Path) → child_step r q ≡ None → filter_map (child_step r) (insert_key path_cmp ps q) ≡ filter_map (child_step r) ps
not_in r q [] e = rw e refl
not_in r q (x ∷ ps) e =
    elim (path_cmp q x) as (λ v. filter_map (child_step r) (match_ordering v (q ∷ x ∷ ps) (x ∷ ps) (x ∷ insert_key path_cmp ps q)) ≡ filter_map (child_step r) (x ∷ ps)) [
      | Less ↦ rw e refl
      | Equal ↦ refl
      | Greater ↦ elim (options (child_step r x)) [
        | inl z ↦ rw z (not_in r q ps e)
        | inr z ↦ rw z.1 (ap (λ us. z.0 ∷ us) (not_in r q ps e))
      ]
    ]

last_apart : (r p : Path) (u s : Step) → r ++ u ∷ [] ≡ p ++ s ∷ [] → r ≡ p
last_apart r p u s e = sym (parent_child r u) ∙ ap parent_of e ∙ parent_child p s

-- and of all other contexts
pub children_apart : {F : Type 0} (t : Tree F) (p r : Path) (s : Step) → (r ≡ p → ⊥) → children_of (enter t (p ++ s ∷ [])) r ≡ children_of t r
children_apart t p r s n = not_in r (p ++ s ∷ []) t.paths (elim (options (child_step r (p ++ s ∷ []))) [
  | inl e ↦ e
  | inr e ↦ absurd (n (sym (last_apart p r s e.0 (child_step_is r (p ++ s ∷ []) e.0 e.1))))
])

-- entering the root gives nobody a child
pub children_root : {F : Type 0} (t : Tree F) (r : Path) → children_of (enter t []) r ≡ children_of t r
children_root t r = not_in r [] t.paths (by r)
  where
    by : (r : Path) → child_step r [] ≡ None
    by [] = refl
    by (x ∷ r) = refl

-- a child is there exactly where its step is among the children
child_eq : (p : Path) (s u : Step) → path_eq (p ++ s ∷ []) (p ++ u ∷ []) ≡ step_eq s u
child_eq [] s u = and_true (step_eq s u)
  where
    and_true : (a : Bool) → (a && true) ≡ a
    and_true true = refl
    and_true false = refl
child_eq (x ∷ p) s u = ap (λ b. b && path_eq (p ++ s ∷ []) (p ++ u ∷ [])) (step_eq_ties x x ∙ ap is_eq (at_self step_cmp_total same_step x)) ∙ child_eq p s u

pub any_child : (p : Path) (s : Step) (ps : List Path) → list_any (path_eq (p ++ s ∷ [])) ps ≡ list_any (step_eq s) (filter_map (child_step p) ps)
any_child p s [] = refl
any_child p s (x ∷ ps) = elim (options (child_step p x)) [
  | inr e ↦ rw e.1 (ap (λ b. b || list_any (path_eq (p ++ s ∷ [])) ps) (ap (path_eq (p ++ s ∷ [])) (child_step_is p x e.0 e.1) ∙ child_eq p s e.0) ∙ ap (λ b. step_eq s e.0 || b) (any_child p s ps))
  | inl e ↦ rw e (ap (λ b. b || list_any (path_eq (p ++ s ∷ [])) ps) (not_it e) ∙ any_child p s ps)
]
  where
    not_it : child_step p x ≡ None → path_eq (p ++ s ∷ []) x ≡ false
    not_it e = elim (path_cases (p ++ s ∷ []) x) [ inr d ↦ d | inl d ↦ absurd (none_not (sym e ∙ ap (child_step p) (sym d) ∙ child_step_of p s)) ]

pub none_any : (us : List Step) → ((s : Step) → list_any (step_eq s) us ≡ false) → us ≡ []
none_any [] h = refl
none_any (u ∷ us) h = absurd (clash true refl (sym (ap (λ b. b || list_any (step_eq u) us) (step_eq_ties u u ∙ ap is_eq (at_self step_cmp_total same_step u))) ∙ h u))

-- children that are listed by a function of their steps
pub child_listed : (f : Step → Child) (us : List Step) (s : Step) → child_at (map (λ u. (u, f u)) us) s ≡ cond (list_any (step_eq s) us) (Some (f s)) None
child_listed f [] s = refl
child_listed f (u ∷ us) s = elim (bool_cases (step_eq s u)) [
  | inl e ↦ (let z : s ≡ u = same_step s u (is_equal _ (sym (step_eq_ties s u) ∙ e)) in
      ap (λ b. cond b (Some (f u)) (child_at (map (λ v. (v, f v)) us) s)) (sym (step_eq_ties s u) ∙ e) ∙ ap (λ v. Some (f v)) (sym z) ∙ sym (ap (λ b. cond (b || list_any (step_eq s) us) (Some (f s)) None) e))
  | inr e ↦ ap (λ b. cond b (Some (f u)) (child_at (map (λ v. (v, f v)) us) s)) (sym (step_eq_ties s u) ∙ e) ∙ child_listed f us s ∙ sym (ap (λ b. cond (b || list_any (step_eq s) us) (Some (f s)) None) e)
]

pub steps_listed : (f : Step → Child) (us : List Step) → steps_of (map (λ u. (u, f u)) us) ≡ us
steps_listed f [] = refl
steps_listed f (u ∷ us) = ap (λ v. u ∷ v) (steps_listed f us)

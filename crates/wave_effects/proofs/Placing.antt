-- The contexts of a Start in path order: each has its children behind it, in the order of their steps, and no other place.
use Rattle.std.proofs.Common.{◌≡◌, ◌∙◌, ℕ, zero, suc, ◌+◌, ◌&&◌, add-one, arith, Bool, true, false, List, [], ◌∷◌, ◌++◌, length, map, Option, Some, None, refl, sym, ap, ap₂, subst, true≢false}
use Rattle.std.proofs.lemmas.List.{append-nil, map-append}
use Rattle.std.proofs.lemmas.List.Elements.{filter_map-append}
use Rattle.std.specs.Prelude.{drop, filter_map, if◌then◌else◌, slice_get, take}
use Rattle.std.specs.BTreeMap.{insert_entry}
use Rattle.std.specs.List.{AllByRecursion}
use Rattle.std.specs.List.Sorted.{IsStrictlySortedBy}
use Rattle.std.specs.Map.{keys_of}
use Rattle.std.specs.Ordering.{is_eq, match_ordering, ordering_reverse, ordering_then}
use Rattle.std.specs.declared.cmp.Ordering.{Ordering}
use Rattle.std.specs.declared.cmp.Ordering.TheVariants.{Less, Equal, Greater}
use Rattle.wave_base.specs.declared.children.Child.{Child}
use Rattle.wave_base.specs.declared.finished.Place.{Place}
use Rattle.wave_base.specs.declared.path.Path.{Path}
use Rattle.wave_base.specs.declared.path.Step.{Step}
use Rattle.wave_base.specs.Paths.{is_above, path_cmp, path_eq, step_cmp, step_eq}
use Rattle.wave_base.specs.PathLaws.{path_eq_equiv, path_eq_ties, same_step, step_cmp_total, step_eq_ties, is_above_append}
use Rattle.wave_base.specs.Kids.{with_child}
use Rattle.wave_base.specs.Starts.{shown_host}
use Rattle.wave_base.specs.Tree.{child_step}
use Rattle.wave_states.proofs.Children.{kids_sorted}
use Rattle.wave_theory.proofs.Basics.{none_not, some_same}
use Rattle.wave_theory.proofs.Paths.{step_is, step_self}
use Rattle.wave_effects.specs.inner.Beginnings.{kid_of}

abbrev pub path_of : Place → Path
path_of x = x.path

-- ---- steps and paths

equal_is : (o : Ordering) → is_eq o ≡ true → o ≡ Equal
equal_is Equal e = refl
equal_is Less e = absurd (true≢false (sym e))
equal_is Greater e = absurd (true≢false (sym e))

step_ties : (s : Step) → step_cmp s s ≡ Equal
step_ties s = equal_is (step_cmp s s) (sym (step_eq_ties s s) ∙ step_self s)

step_greater : (a b : Step) → step_cmp a b ≡ Less → step_cmp b a ≡ Greater
step_greater a b e = step_cmp_total.antisymm b a ∙ ap ordering_reverse e

pub child_is : (p q : Path) (s : Step) → child_step p q ≡ Some s → q ≡ p ++ s ∷ []
child_is [] [] s e = absurd (none_not e)
child_is [] (t ∷ []) s e = ap (λ x. x ∷ []) (some_same t s e)
child_is [] (t ∷ u ∷ q) s e = absurd (none_not e)
child_is (x ∷ p) [] s e = absurd (none_not e)
child_is (x ∷ p) (t ∷ q) s e = by (step_eq x t) refl e (child_is p q s)
  where
    by : (b : Bool) → step_eq x t ≡ b → (if b then child_step p q else None) ≡ Some s → (child_step p q ≡ Some s → q ≡ p ++ s ∷ []) → t ∷ q ≡ (x ∷ p) ++ s ∷ []
    by true z e f = ap₂ (λ a b. a ∷ b) (sym (step_is x t z)) (f e)
    by false z e f = absurd (none_not e)

-- below a path its children have one step more
pub child_here : (p q : Path) (s : Step) → is_above p q ≡ true → length q ≡ length p + 1 → slice_get q (length p) ≡ Some s → child_step p q ≡ Some s
child_here [] [] s e n f = absurd (none_not f)
child_here [] (t ∷ []) s e n f = f
child_here [] (t ∷ u ∷ q) s e n f = absurd (omega (arith, n))
child_here (x ∷ p) [] s e n f = absurd (true≢false (sym e))
child_here (x ∷ p) (t ∷ q) s e n f = by (step_eq x t) e (child_here p q s)
  where
    by : (b : Bool) → (b && is_above p q) ≡ true → (is_above p q ≡ true → length q ≡ length p + 1 → slice_get q (length p) ≡ Some s → child_step p q ≡ Some s) → (if b then child_step p q else None) ≡ Some s
    by true e g = g e (omega (arith, n)) f
    by false e g = absurd (true≢false (sym e))

pub child_not : (p q : Path) → (length q ≡ length p + 1 → ⊥) → child_step p q ≡ None
child_not [] [] n = refl
child_not [] (t ∷ []) n = absurd (n (omega arith))
child_not [] (t ∷ u ∷ q) n = refl
child_not (x ∷ p) [] n = refl
child_not (x ∷ p) (t ∷ q) n = by (step_eq x t) (child_not p q (λ e. n (omega (arith, e))))
  where
    by : (b : Bool) → child_step p q ≡ None → (if b then child_step p q else None) ≡ None
    by true e = e
    by false e = refl

-- a child comes behind its parent
behind : (p : Path) (s : Step) → path_cmp (p ++ s ∷ []) p ≡ Greater
behind [] s = refl
behind (x ∷ p) s = ap (λ o. ordering_then o (path_cmp (p ++ s ∷ []) p)) (step_ties x) ∙ behind p s

no_less : (o : Ordering) → o ≡ Greater → o ≡ Less → ⊥
no_less o e f = cc

no_equal : (o : Ordering) → o ≡ Greater → o ≡ Equal → ⊥
no_equal o e f = cc

none_if : {X : Type 0} (o : Option X) → ((x : X) → o ≡ Some x → ⊥) → o ≡ None
none_if None h = refl
none_if (Some x) h = absurd (h x refl)

-- what comes before a path, or is the path, is no child of it
pub none_before : (p q : Path) → path_cmp q p ≡ Less → child_step p q ≡ None
none_before p q l = none_if (child_step p q) (λ s e. no_less (path_cmp q p) (ap (λ r. path_cmp r p) (child_is p q s e) ∙ behind p s) l)

path_ties : (p : Path) → path_cmp p p ≡ Equal
path_ties p = equal_is (path_cmp p p) (sym (path_eq_ties p p) ∙ path_eq_equiv.refl p)

pub none_itself : (p : Path) → child_step p p ≡ None
none_itself p = none_if (child_step p p) (λ s e. no_equal (path_cmp p p) (ap (λ r. path_cmp r p) (child_is p p s e) ∙ behind p s) (path_ties p))

-- behind what is not below a path, and comes after it, nothing is below it
pub past : (p q r : Path) → path_cmp p q ≡ Less → path_cmp q r ≡ Less → is_above p q ≡ false → is_above p r ≡ false
past [] q r l m n = absurd (true≢false n)
past (s ∷ p) [] r l m n = absurd (no_less (path_cmp (s ∷ p) []) refl l)
past (s ∷ p) (t ∷ q) [] l m n = refl
past (s ∷ p) (t ∷ q) (u ∷ r) l m n = by (past p q r) (step_eq s u) refl
  where
    -- the first steps of the first and the last are the same
    tied : (path_cmp p q ≡ Less → path_cmp q r ≡ Less → is_above p q ≡ false → is_above p r ≡ false) → (o o' : Ordering) → step_cmp s t ≡ o → step_cmp t u ≡ o' → s ≡ u → ordering_then o (path_cmp p q) ≡ Less → ordering_then o' (path_cmp q r) ≡ Less → is_above p r ≡ false
    tied ih Less Less e f same l m = absurd (no_less (step_cmp t s) (step_greater s t e) (subst (λ x. step_cmp t x ≡ Less) (sym same) f))
    tied ih Less Equal e f same l m = absurd (no_equal (step_cmp t s) (step_greater s t e) (subst (λ x. step_cmp t x ≡ Equal) (sym same) f))
    tied ih Less Greater e f same l m = absurd (no_less Greater refl m)
    tied ih Equal Less e f same l m = absurd (no_less_equal (same_step s t e) f same)
      where
        no_less_equal : s ≡ t → step_cmp t u ≡ Less → s ≡ u → ⊥
        no_less_equal a b c = less_not (step_cmp t t) (subst (λ x. step_cmp t x ≡ Less) (sym c ∙ a) b) (step_ties t)
          where
            less_not : (o : Ordering) → o ≡ Less → o ≡ Equal → ⊥
            less_not o e f = cc
    tied ih Equal Equal e f same l m = ih l m (below_false (step_eq s t) (sym (sym (ap (λ x. step_eq s x) (sym (same_step s t e)) ∙ step_self s))) n)
      where
        below_false : (b : Bool) → b ≡ true → (b && is_above p q) ≡ false → is_above p q ≡ false
        below_false true e h = h
        below_false false e h = absurd (true≢false (sym e))
    tied ih Equal Greater e f same l m = absurd (no_less Greater refl m)
    tied ih Greater o' e f same l m = absurd (no_less Greater refl l)

    by : (path_cmp p q ≡ Less → path_cmp q r ≡ Less → is_above p q ≡ false → is_above p r ≡ false) → (b : Bool) → step_eq s u ≡ b → (b && is_above p r) ≡ false
    by ih true z = tied ih (step_cmp s t) (step_cmp t u) refl refl (step_is s u z) l m
    by ih false z = refl

-- ---- lists of places

pub none_below : (p q : Path) → is_above p q ≡ false → child_step p q ≡ None
none_below p q n = none_if (child_step p q) (λ s e. true≢false (sym (ap (is_above p) (child_is p q s e) ∙ is_above_append p (s ∷ [])) ∙ n))

-- so the search for children ends at the first that is not below
pub none_left : (p : Path) (x : Place) (xs : List Place) → path_cmp p x.path ≡ Less → is_above p x.path ≡ false → IsStrictlySortedBy path_cmp (map path_of (x ∷ xs)) → filter_map (kid_of p) (x ∷ xs) ≡ []
unfolding IsStrictlySortedBy
none_left p x xs l n h = first (child_step p x.path) (none_below p x.path n) ∙ rest xs h.0
  where
    first : (o : Option Step) → o ≡ None → filter_map (kid_of p) (x ∷ xs) ≡ filter_map (kid_of p) xs
    first o e = rw (none_below p x.path n) refl

    rest : (ys : List Place) → AllByRecursion (λ y. path_cmp x.path y ≡ Less) (map path_of ys) → filter_map (kid_of p) ys ≡ []
    rest [] k = refl
    rest (y ∷ ys) k = rw (none_below p y.path (past p x.path y.path l k.0 n)) (rest ys k.1)

-- the keys of the children
pub kid_keys : (p : Path) (xs : List Place) → keys_of (filter_map (kid_of p) xs) ≡ filter_map (child_step p) (map path_of xs)
kid_keys p [] = refl
kid_keys p (x ∷ xs) = by (child_step p x.path) refl (kid_keys p xs)
  where
    by : (o : Option Step) → child_step p x.path ≡ o → keys_of (filter_map (kid_of p) xs) ≡ filter_map (child_step p) (map path_of xs) → keys_of (filter_map (kid_of p) (x ∷ xs)) ≡ filter_map (child_step p) (map path_of (x ∷ xs))
    by None e k = rw e k
    by (Some s) e k = rw e (ap (λ ks. s ∷ ks) k)

-- a step behind all others joins at the end
pub insert_last : (es : List (Step × Child)) (k : Step) (v : Child) → AllByRecursion (λ u. step_cmp u k ≡ Less) (keys_of es) → insert_entry step_cmp es k v ≡ es ++ (k, v) ∷ []
insert_last [] k v h = refl
insert_last (e ∷ es) k v h = ap (λ o. match_ordering o ((k, v) ∷ e ∷ es) ((e.0, v) ∷ es) (e ∷ insert_entry step_cmp es k v)) (step_greater e.0 k h.0) ∙ ap (λ xs. e ∷ xs) (insert_last es k v h.1)

pub all_less : (front : List Step) (s : Step) → IsStrictlySortedBy step_cmp (front ++ s ∷ []) → AllByRecursion (λ u. step_cmp u s ≡ Less) front
unfolding IsStrictlySortedBy
all_less [] s h = tt
all_less (t ∷ ts) s h = (of_it ts h.0, all_less ts s h.1)
  where
    of_it : (us : List Step) → AllByRecursion (λ u. step_cmp t u ≡ Less) (us ++ s ∷ []) → step_cmp t s ≡ Less
    of_it [] k = k.0
    of_it (u ∷ us) k = of_it us k.1

-- the host that a list of places shows for one of them
apart_less : (o : Ordering) → o ≡ Less → is_eq o ≡ false
apart_less o e = ap is_eq e

at_less : (p : Path) (xs : List Place) (i : ℕ) (x : Place) → AllByRecursion (λ y. path_cmp p y ≡ Less) (map path_of xs) → slice_get xs i ≡ Some x → path_cmp p x.path ≡ Less
at_less p [] zero x h e = absurd (none_not e)
at_less p [] (suc i) x h e = absurd (none_not e)
at_less p (y ∷ ys) zero x h e = ap (λ (z : Place). path_cmp p z.path) (sym (some_same y x e)) ∙ h.0
at_less p (y ∷ ys) (suc i) x h e = at_less p ys i x h.1 e

pub shown_at : (xs : List Place) (i : ℕ) (x : Place) → IsStrictlySortedBy path_cmp (map path_of xs) → slice_get xs i ≡ Some x → shown_host xs x.path ≡ x.host.0
unfolding IsStrictlySortedBy
shown_at [] zero x h e = absurd (none_not e)
shown_at [] (suc i) x h e = absurd (none_not e)
shown_at (y ∷ ys) zero x h e = subst (λ (z : Place). (if path_eq z.path x.path then z.host.0 else shown_host ys x.path) ≡ x.host.0) (sym (some_same y x e)) (ap (λ b. if b then x.host.0 else shown_host ys x.path) (path_eq_equiv.refl x.path))
shown_at (y ∷ ys) (suc i) x h e = ap (λ b. if b then y.host.0 else shown_host ys x.path) (path_eq_ties y.path x.path ∙ apart_less (path_cmp y.path x.path) (at_less y.path ys i x h.0 e)) ∙ shown_at ys i x h.1 e

-- the children of the i-th context are among those behind it
pub skipped : (xs : List Place) (i : ℕ) (x : Place) → IsStrictlySortedBy path_cmp (map path_of xs) → slice_get xs i ≡ Some x → filter_map (child_step x.path) (map path_of xs) ≡ filter_map (child_step x.path) (map path_of (drop (suc i) xs))
unfolding IsStrictlySortedBy
skipped [] zero x h e = absurd (none_not e)
skipped [] (suc i) x h e = absurd (none_not e)
skipped (y ∷ ys) zero x h e = rw (ap (λ (z : Place). child_step x.path z.path) (some_same y x e) ∙ none_itself x.path) refl
skipped (y ∷ ys) (suc i) x h e = rw (none_before x.path y.path (at_less y.path ys i x h.0 e)) (skipped ys i x h.1 e)

-- as children with the hosts that a function has for them
pub kids_are : (p : Path) (f : Path → ℕ) (xs : List Place) → AllByRecursion (λ (y : Place). f y.path ≡ y.host.0) xs
    → filter_map (kid_of p) xs ≡ map (λ s. (s, record { given = 0; birth = record { 0 = f (p ++ s ∷ []) } })) (filter_map (child_step p) (map path_of xs))
kids_are p f [] h = refl
kids_are p f (x ∷ xs) h = by (child_step p x.path) refl (kids_are p f xs h.1)
  where
    by : (o : Option Step) → child_step p x.path ≡ o → filter_map (kid_of p) xs ≡ map (λ s. (s, record { given = 0; birth = record { 0 = f (p ++ s ∷ []) } })) (filter_map (child_step p) (map path_of xs))
        → filter_map (kid_of p) (x ∷ xs) ≡ map (λ s. (s, record { given = 0; birth = record { 0 = f (p ++ s ∷ []) } })) (filter_map (child_step p) (map path_of (x ∷ xs)))
    by None e k = rw e k
    by (Some s) e k = rw e (ap₂ (λ (n : ℕ) ys. (s, record { given = 0; birth = record { 0 = n } }) ∷ ys) (sym h.0 ∙ ap f (child_is p x.path s e)) k)

-- ---- parts of lists in order

pub sorted_drop : (xs : List Place) (n : ℕ) → IsStrictlySortedBy path_cmp (map path_of xs) → IsStrictlySortedBy path_cmp (map path_of (drop n xs))
unfolding IsStrictlySortedBy
sorted_drop [] zero h = h
sorted_drop [] (suc n) h = h
sorted_drop (x ∷ xs) zero h = h
sorted_drop (x ∷ xs) (suc n) h = sorted_drop xs n h.1

all_take : (P : Path → Type 0) (xs : List Place) (n : ℕ) → AllByRecursion P (map path_of xs) → AllByRecursion P (map path_of (take n xs))
all_take P [] zero h = tt
all_take P [] (suc n) h = tt
all_take P (x ∷ xs) zero h = tt
all_take P (x ∷ xs) (suc n) h = (h.0, all_take P xs n h.1)

pub sorted_take : (xs : List Place) (n : ℕ) → IsStrictlySortedBy path_cmp (map path_of xs) → IsStrictlySortedBy path_cmp (map path_of (take n xs))
unfolding IsStrictlySortedBy
sorted_take [] zero h = tt
sorted_take [] (suc n) h = tt
sorted_take (x ∷ xs) zero h = tt
sorted_take (x ∷ xs) (suc n) h = (all_take (λ y. path_cmp x.path y ≡ Less) xs n h.0, sorted_take xs n h.1)

-- what comes behind the i-th
pub behind_all : (xs : List Place) (i : ℕ) (x : Place) → IsStrictlySortedBy path_cmp (map path_of xs) → slice_get xs i ≡ Some x → AllByRecursion (λ (y : Place). path_cmp x.path y.path ≡ Less) (drop (suc i) xs)
unfolding IsStrictlySortedBy
behind_all [] zero x h e = absurd (none_not e)
behind_all [] (suc i) x h e = absurd (none_not e)
behind_all (y ∷ ys) zero x h e = subst (λ (z : Place). AllByRecursion (λ (y : Place). path_cmp z.path y.path ≡ Less) ys) (some_same y x e) (over ys h.0)
  where
    over : (zs : List Place) → AllByRecursion (λ q. path_cmp y.path q ≡ Less) (map path_of zs) → AllByRecursion (λ (z : Place). path_cmp y.path z.path ≡ Less) zs
    over [] k = tt
    over (z ∷ zs) k = (k.0, over zs k.1)
behind_all (y ∷ ys) (suc i) x h e = behind_all ys i x h.1 e

pub take_next : {X : Type 0} (xs : List X) (i : ℕ) (x : X) → slice_get xs i ≡ Some x → take (i + 1) xs ≡ take i xs ++ x ∷ []
take_next [] zero x e = absurd (none_not e)
take_next [] (suc i) x e = absurd (none_not e)
take_next (y ∷ ys) zero x e = ap (λ z. z ∷ []) (some_same y x e)
take_next (y ∷ ys) (suc i) x e = ap (λ n. take n (y ∷ ys)) (add-one (suc i)) ∙ ap (λ n. y ∷ take n ys) (sym (add-one i)) ∙ ap (λ zs. y ∷ zs) (take_next ys i x e)

-- the children found when the search ends are all
pub cut : (p : Path) (xs : List Place) (i : ℕ) (x : Place) → AllByRecursion (λ (y : Place). path_cmp p y.path ≡ Less) xs → IsStrictlySortedBy path_cmp (map path_of xs) → slice_get xs i ≡ Some x → is_above p x.path ≡ false
    → filter_map (kid_of p) (take i xs) ≡ filter_map (kid_of p) xs
unfolding IsStrictlySortedBy
cut p [] zero x l h e n = absurd (none_not e)
cut p [] (suc i) x l h e n = absurd (none_not e)
cut p (y ∷ ys) zero x l h e n = sym (none_left p y ys l.0 (ap (λ (z : Place). is_above p z.path) (some_same y x e) ∙ n) h)
cut p (y ∷ ys) (suc i) x l h e n = by (child_step p y.path) refl (cut p ys i x l.1 h.1 e n)
  where
    by : (o : Option Step) → child_step p y.path ≡ o → filter_map (kid_of p) (take i ys) ≡ filter_map (kid_of p) ys → filter_map (kid_of p) (take (suc i) (y ∷ ys)) ≡ filter_map (kid_of p) (y ∷ ys)
    by None f k = rw f k
    by (Some s) f k = rw f (ap (λ zs. (s, record { given = 0; birth = y.host }) ∷ zs) k)

one_none : (p : Path) (x : Place) → child_step p x.path ≡ None → filter_map (kid_of p) (x ∷ []) ≡ []
one_none p x e = rw e refl

one_some : (p : Path) (x : Place) (s : Step) → child_step p x.path ≡ Some s → filter_map (kid_of p) (x ∷ []) ≡ (s, record { given = 0; birth = x.host }) ∷ []
one_some p x s e = rw e refl

pub kid_none : (p : Path) (xs : List Place) (i : ℕ) (x : Place) → slice_get xs i ≡ Some x → child_step p x.path ≡ None → filter_map (kid_of p) (take i xs) ≡ filter_map (kid_of p) (take (i + 1) xs)
kid_none p xs i x e n = sym (ap (filter_map (kid_of p)) (take_next xs i x e) ∙ filter_map-append (kid_of p) (take i xs) (x ∷ []) ∙ ap (λ zs. filter_map (kid_of p) (take i xs) ++ zs) (one_none p x n) ∙ append-nil (filter_map (kid_of p) (take i xs)))

pub kid_some : (p : Path) (xs : List Place) (i : ℕ) (x : Place) (s : Step) → IsStrictlySortedBy path_cmp (map path_of xs) → slice_get xs i ≡ Some x → child_step p x.path ≡ Some s
    → with_child (filter_map (kid_of p) (take i xs)) s (record { given = 0; birth = x.host }) ≡ filter_map (kid_of p) (take (i + 1) xs)
kid_some p xs i x s h e k =
    let kid : Step × Child = (s, record { given = 0; birth = x.host }) in
    let front = filter_map (kid_of p) (take i xs) in
    let all : filter_map (kid_of p) (take (i + 1) xs) ≡ front ++ kid ∷ [] = ap (filter_map (kid_of p)) (take_next xs i x e) ∙ filter_map-append (kid_of p) (take i xs) (x ∷ []) ∙ ap (λ zs. front ++ zs) (one_some p x s k) in
    let keys : filter_map (child_step p) (map path_of (take (i + 1) xs)) ≡ keys_of front ++ s ∷ [] = sym (kid_keys p (take (i + 1) xs)) ∙ ap keys_of all ∙ map-append (λ (z : Step × Child). z.0) front (kid ∷ []) in
    let sorted : IsStrictlySortedBy step_cmp (keys_of front ++ s ∷ []) = subst (IsStrictlySortedBy step_cmp) keys (kids_sorted p (map path_of (take (i + 1) xs)) (sorted_take xs (i + 1) h)) in
    insert_last front s (record { given = 0; birth = x.host }) (all_less (keys_of front) s sorted) ∙ sym all

-- The entries of a map of records in path order, and what a look-up in the map says of them.
use Rattle.std.proofs.Common.{◌≡◌, ◌+◌, Bool, true, false, cond, ◌&&◌, ◌||◌, List, [], ◌∷◌, map, Option, Some, None, is_some, get_or, refl, sym, ap, subst, ◌∙◌, arith}
use mathlib.Core.Bool.{true≢false}
use lib.Dec.{T}
use Rattle.std.proofs.lemmas.List.Sorted.{list_any-IsPermutation}
use Rattle.std.proofs.lemmas.Map.Keys.{IsDistinct-IsPermutation, apart_from_distinct, sorted_from_all_adjacent}
use Rattle.std.specs.BTreeSet.{insert_key}
use Rattle.std.specs.FinMap as table
use Rattle.std.specs.FinMap.Entries as listed
use Rattle.std.specs.List.{list_any, AllByRecursion, IsDistinct}
use Rattle.std.specs.List.Sorted.{IsPermutation, IsSorted, IsStrictlySortedBy}
use Rattle.std.specs.Map.{lookup, keys_of}
use Rattle.std.specs.Ordering.{is_eq, is_lt, match_ordering, ordering_reverse}
use Rattle.std.specs.declared.cmp.Ordering.{Ordering}
use Rattle.std.specs.declared.cmp.Ordering.TheVariants.{Less, Equal, Greater}
use Rattle.wave_base.specs.declared.path.Path.{Path}
use Rattle.wave_base.specs.declared.record.Record.{Record}
use Rattle.wave_base.specs.Paths.{path_eq, path_cmp}
use Rattle.wave_base.specs.PathLaws.{path_cmp_total, path_eq_ties, path_eq_equiv, same_path}
use Rattle.context_tree.specs.Contexts.{in_order}

abbrev pub Entries : Type 0
Entries = List (Path × Record)

-- what is found in the map is found in its entries in order
module _ {X : Type 0} where
  find_is_lookup : (q : Path) (es : List (Path × X)) → table.find path_cmp q es ≡ lookup (path_eq q) es
  find_is_lookup q [] = refl
  find_is_lookup q (e ∷ es) = ap (λ b. cond b (Some e.1) (table.find path_cmp q es)) (sym (path_eq_ties q e.0)) ∙ ap (cond (path_eq q e.0) (Some e.1)) (find_is_lookup q es)

  get_is_lookup : (q : Path) (es : List (Path × X)) → table.get (table.from_entries {R = path_cmp} es) q ≡ lookup (path_eq q) es
  get_is_lookup q es = table.get-from_entries path_cmp_total es q ∙ find_is_lookup q es

pub lookup_ordered : (q : Path) (es : Entries) → lookup (path_eq q) (in_order es) ≡ lookup (path_eq q) es
lookup_ordered q es =
    sym (find_is_lookup q (in_order es)) ∙ sym (table.get-entries (table.from_entries {R = path_cmp} es) q) ∙ get_is_lookup q es

-- a record put at a path comes to its place, in place of one that is there
pub ordered_update : (es fs : Entries) (k : Path) (v : Record) → ((q : Path) → lookup (path_eq q) fs ≡ cond (path_eq k q) (Some v) (lookup (path_eq q) es))
    → in_order fs ≡ table.put path_cmp k v (in_order es)
ordered_update es fs k v h =
    ap table.entries (table.same_map path_cmp_total same_path (table.from_entries fs) (table.insert (table.from_entries es) k v) both) ∙ table.entries-insert path_cmp_total (table.from_entries es) k v
  where
    both : (q : Path) → table.get (table.from_entries {R = path_cmp} fs) q ≡ table.get (table.insert (table.from_entries {R = path_cmp} es) k v) q
    both q =
        get_is_lookup q fs ∙ h q
        ∙ (λ i. cond ((path_eq_equiv.symm k q ∙ path_eq_ties q k) i) (Some v) (sym (get_is_lookup q es) i))
        ∙ sym (table.get-insert path_cmp_total (table.from_entries es) k v q)

pub keys_put : (k : Path) (v : Record) (es : Entries) → keys_of (table.put path_cmp k v es) ≡ insert_key path_cmp (keys_of es) k
keys_put k v [] = refl
keys_put k v (e ∷ es) =
    elim (path_cmp k e.0) as (λ o. keys_of (match_ordering o ((k, v) ∷ e ∷ es) ((e.0, v) ∷ es) (e ∷ table.put path_cmp k v es)) ≡ match_ordering o (k ∷ e.0 ∷ keys_of es) (e.0 ∷ keys_of es) (e.0 ∷ insert_key path_cmp (keys_of es) k)) [
      | Less ↦ refl
      | Equal ↦ refl
      | Greater ↦ ap (λ ks. e.0 ∷ ks) (keys_put k v es)
    ]

-- that keys are in order, as a test and as a fact
is_less : (o : Ordering) → T (is_lt o) → o ≡ Less
is_less Less h = refl
is_less Equal h = absurd h
is_less Greater h = absurd h

both : (a b : Bool) → T a → T b → T (a && b)
both true b p q = q
both false b p q = p

left : (a b : Bool) → T (a && b) → T a
left true b h = tt
left false b h = h

right : (a b : Bool) → T (a && b) → T b
right true b h = h
right false b h = absurd h

module _ {X : Type 0} where
  all_below : (k : Path) (es : List (Path × X)) → T (listed.below_all path_cmp k es) → AllByRecursion (λ q. path_cmp k q ≡ Less) (keys_of es)
  all_below k [] h = tt
  all_below k (e ∷ es) h = (is_less (path_cmp k e.0) (left _ _ h), all_below k es (right _ _ h))

  below_all : (k : Path) (es : List (Path × X)) → AllByRecursion (λ q. path_cmp k q ≡ Less) (keys_of es) → T (listed.below_all path_cmp k es)
  below_all k [] h = tt
  below_all k (e ∷ es) h = both _ _ (subst (λ o. T (is_lt o)) (sym h.0) tt) (below_all k es h.1)

  rises : (es : List (Path × X)) → T (table.is_sorted path_cmp es) → IsStrictlySortedBy path_cmp (keys_of es)
  unfolding IsStrictlySortedBy
  rises [] h = tt
  rises (e ∷ es) h = (all_below e.0 es (left _ _ h), rises es (right _ _ h))

  passes : (es : List (Path × X)) → IsStrictlySortedBy path_cmp (keys_of es) → T (table.is_sorted path_cmp es)
  unfolding IsStrictlySortedBy
  passes [] h = tt
  passes (e ∷ es) h = both _ _ (below_all e.0 es h.0) (passes es h.1)

pub ordered_rises : (es : Entries) → IsStrictlySortedBy path_cmp (keys_of (in_order es))
ordered_rises es = rises (in_order es) (table.entries_sorted (table.from_entries {R = path_cmp} es))

-- entries that stand in order stay where they are
pub ordered_already : (es : Entries) → IsStrictlySortedBy path_cmp (keys_of es) → in_order es ≡ es
ordered_already es h =
    ap table.entries (table.same_map path_cmp_total same_path (table.from_entries es) (table.from_sorted es) (λ q. table.get-from_entries path_cmp_total es q ∙ sym (table.get-from_sorted path_cmp es q (passes es h))))
    ∙ table.entries-from_sorted path_cmp es (passes es h)

-- paths in order are known by which they are
abbrev marked : List Path → List (Path × Unit {0})
marked ps = map (λ p. (p, tt)) ps

abbrev mark : Bool → Option (Unit {0})
mark b = cond b (Some tt) None

marks : (b c : Bool) → cond b (Some tt) (mark c) ≡ mark (b || c)
marks true c = refl
marks false c = refl

keys_marked : (ps : List Path) → keys_of (marked ps) ≡ ps
keys_marked [] = refl
keys_marked (p ∷ ps) = ap (λ qs. p ∷ qs) (keys_marked ps)

find_marked : (q : Path) (ps : List Path) → table.find path_cmp q (marked ps) ≡ mark (list_any (path_eq q) ps)
find_marked q [] = refl
find_marked q (p ∷ ps) = (λ i. cond (sym (path_eq_ties q p) i) (Some tt) (find_marked q ps i)) ∙ marks (path_eq q p) (list_any (path_eq q) ps)

same_sorted : (ps qs : List Path) → IsStrictlySortedBy path_cmp ps → IsStrictlySortedBy path_cmp qs → ((q : Path) → list_any (path_eq q) ps ≡ list_any (path_eq q) qs) → ps ≡ qs
same_sorted ps qs h k alike =
    let g = passes (marked ps) (subst (IsStrictlySortedBy path_cmp) (sym (keys_marked ps)) h) in
    let f = passes (marked qs) (subst (IsStrictlySortedBy path_cmp) (sym (keys_marked qs)) k) in
    let same = table.same_map path_cmp_total same_path (table.from_sorted (marked ps)) (table.from_sorted (marked qs)) (λ q. table.get-from_sorted path_cmp (marked ps) q g ∙ find_marked q ps ∙ ap mark (alike q) ∙ sym (find_marked q qs) ∙ sym (table.get-from_sorted path_cmp (marked qs) q f)) in
    sym (keys_marked ps) ∙ ap keys_of (sym (table.entries-from_sorted path_cmp (marked ps) g) ∙ ap table.entries same ∙ table.entries-from_sorted path_cmp (marked qs) f) ∙ keys_marked qs

-- a key is among the keys exactly where it is found
pub any_found : (p : Path) (es : Entries) → list_any (path_eq p) (keys_of es) ≡ is_some (lookup (path_eq p) es)
any_found p [] = refl
any_found p (e ∷ es) = ap (λ b. path_eq p e.0 || b) (any_found p es) ∙ by_test (path_eq p e.0) (lookup (path_eq p) es)
  where
    by_test : (b : Bool) (o : Option Record) → (b || is_some o) ≡ is_some (cond b (Some e.1) o)
    by_test true o = refl
    by_test false o = refl

-- paths that don't fall and differ rise
rise : (o : Ordering) → is_lt (ordering_reverse o) ≡ false → is_eq o ≡ false → o ≡ Less
rise Less h e = refl
rise Equal h e = absurd (true≢false e)
rise Greater h e = absurd (true≢false h)

pub sorted_rise : (ps : List Path) → IsSorted path_cmp ps → IsDistinct path_eq ps → IsStrictlySortedBy path_cmp ps
sorted_rise ps h d =
    sorted_from_all_adjacent path_cmp_total ps [] (λ k l.
    rise (path_cmp (get_or ps k []) (get_or ps (k + 1) []))
    (ap is_lt (sym (path_cmp_total.antisymm (get_or ps (k + 1) []) (get_or ps k []))) ∙ h k [] (omega arith) l)
    (sym (path_eq_ties (get_or ps k []) (get_or ps (k + 1) [])) ∙ apart_from_distinct path_eq ps k (k + 1) [] d (omega arith) l))

-- the sorted keys are those of the entries in order
pub sorted_keys : (es : Entries) (ps : List Path) → IsDistinct path_eq (keys_of es) → IsPermutation (keys_of es) ps → IsSorted path_cmp ps → ps ≡ keys_of (in_order es)
sorted_keys es ps d moved h =
    same_sorted ps (keys_of (in_order es)) (sorted_rise ps h (IsDistinct-IsPermutation path_eq path_eq_equiv.symm (keys_of es) ps moved d)) (ordered_rises es)
    (λ q. sym (list_any-IsPermutation (path_eq q) (keys_of es) ps moved) ∙ any_found q es ∙ ap is_some (sym (lookup_ordered q es)) ∙ sym (any_found q (in_order es)))

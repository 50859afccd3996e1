-- The places that a run begins with, put into the map in path order; and those that it ends with.
use Rattle.std.proofs.Common.{◌≡◌, ◌+◌, ◌<◌, ℕ, suc, Bool, true, false, cond, if◌then◌else◌, List, [], ◌∷◌, ◌++◌, length, map, take, drop, get_or, Some, unwrap_or, is_some, true≢false, refl, sym, ap, subst, ◌∙◌, arith, drop-cons, take-append-drop, add-zero}
use Rattle.std.proofs.lemmas.List.{take_more, map-append}
use Rattle.std.specs.BTreeMap.{is_at, insert_entry}
use Rattle.std.specs.List.{AllByRecursion}
use Rattle.std.specs.List.Sorted.{IsStrictlySortedBy}
use Rattle.std.specs.Map.{keys_of}
use Rattle.std.specs.Ordering.{ordering_reverse, match_ordering, is_eq}
use Rattle.std.specs.declared.cmp.Ordering.{Ordering}
use Rattle.std.specs.declared.cmp.Ordering.TheVariants.{Less}
use Rattle.wave_base.specs.declared.finished.Place.{Place}
use Rattle.wave_base.specs.declared.numbers.Host.{Host}
use Rattle.wave_base.specs.declared.numbers.Ticket.{Ticket}
use Rattle.wave_base.specs.declared.path.Path.{Path}
use Rattle.wave_base.specs.declared.start.Start.{Start}
use Rattle.wave_base.specs.Paths.{path_eq, path_cmp}
use Rattle.wave_base.specs.PathLaws.{path_cmp_total, path_eq_ties, path_eq_equiv}
use Rattle.wave_base.specs.Places.{load_of}
use Rattle.wave_base.specs.declared.shape.Shape.{Shape}
use Rattle.wave_base.specs.Starts.{IsStart, shown_host, start_places}
use Rattle.wave_base.specs.Tree.{Tree, shots}
use Rattle.context_tree.specs.Contexts.{Contexts}
use Rattle.script_fold.specs.declared.visits.Visits.{Visits}
use Rattle.script_fold.specs.Runs.{place_of}
use Rattle.script_fold.specs.inner.Standing.{IsBegun}
use Rattle.script_fold.specs.inner.Visiting.{AreInOrder, IsSeen, IsVisited, value_at, host_at, load_at, loads_in, place_in}
use Rattle.script_fold.proofs.VisitLemmas.{at_path, there_is}

abbrev pub kept_at : Place → Path × Host
kept_at x = (x.path, x.host)

at_end : {K : Type 0} (P : K → Type 0) (t : List K) (e : K) (u : List K) → AllByRecursion P (t ++ e ∷ u) → P e
at_end P [] e u h = h.0
at_end P (x ∷ t) e u h = at_end P t e u h.1

all_before : {K : Type 0} (R : K → K → Ordering) (t : List K) (e : K) (u : List K) → IsStrictlySortedBy R (t ++ e ∷ u) → AllByRecursion (λ q. R q e ≡ Less) t
unfolding IsStrictlySortedBy
all_before R [] e u h = tt
all_before R (x ∷ t) e u h = (at_end (λ y. R x y ≡ Less) t e u h.0, all_before R t e u h.1)

insert_last : (es : List (Path × Host)) (p : Path) (v : Host) → AllByRecursion (λ q. path_cmp q p ≡ Less) (keys_of es) → insert_entry path_cmp es p v ≡ es ++ (p, v) ∷ []
insert_last [] p v h = refl
insert_last (e ∷ es) p v h =
    let above = path_cmp_total.antisymm p e.0 ∙ ap ordering_reverse h.0 in
    ap (λ o. match_ordering o ((p, v) ∷ e ∷ es) ((e.0, v) ∷ es) (e ∷ insert_entry path_cmp es p v)) above ∙ ap (λ es. e ∷ es) (insert_last es p v h.1)

keys_kept : (places : List Place) → keys_of (map kept_at places) ≡ map (λ x. x.path) places
keys_kept [] = refl
keys_kept (x ∷ places) = ap (λ ks. x.path ∷ ks) (keys_kept places)

-- one place more
next_place : (places front : List Place) (x : Place) (back : List Place) (es : List (Path × Host)) → places ≡ front ++ x ∷ back → IsStrictlySortedBy path_cmp (map (λ x. x.path) places) → es ≡ map kept_at front
    → insert_entry path_cmp es x.path (kept_at x).1 ≡ map kept_at (front ++ x ∷ [])
next_place places front x back es split ordered so_far =
    let sorted = subst (IsStrictlySortedBy path_cmp) (map-append (λ (x : Place). x.path) front (x ∷ back)) (subst (λ (ps : List Place). IsStrictlySortedBy path_cmp (map (λ x. x.path) ps)) split ordered) in
    let before = all_before path_cmp (map (λ x. x.path) front) x.path (map (λ x. x.path) back) sorted in
    let keys : keys_of es ≡ map (λ x. x.path) front = ap keys_of so_far ∙ keys_kept front in
    insert_last es x.path (kept_at x).1 (subst (AllByRecursion (λ q. path_cmp q x.path ≡ Less)) (sym keys) before)
    ∙ ap (λ es. es ++ kept_at x ∷ []) so_far ∙ sym (map-append kept_at front (x ∷ []))

pub places_more : (places : List Place) (i : ℕ) (x : Place) (es : List (Path × Host)) → i < length places → x ≡ get_or places i x → IsStrictlySortedBy path_cmp (map (λ x. x.path) places) → es ≡ map kept_at (take i places)
    → insert_entry path_cmp es x.path (kept_at x).1 ≡ map kept_at (take (i + 1) places)
places_more places i x es l is ordered so_far =
    let split : places ≡ take i places ++ x ∷ drop (suc i) places = sym (take-append-drop i places) ∙ ap (λ back. take i places ++ back) (drop-cons places i x l ∙ ap (λ y. y ∷ drop (suc i) places) (sym is)) in
    next_place places (take i places) x (drop (suc i) places) es split ordered so_far
    ∙ ap (map kept_at) (ap (λ y. take i places ++ y ∷ []) is ∙ sym (take_more places i x l))

pub places_again : (places : List Place) → map place_in (map kept_at places) ≡ places
places_again [] = refl
places_again (x ∷ places) = ap (λ xs. x ∷ xs) (places_again places)

-- the hosts that are kept are those of the places
host_shown : (es : List (Path × Host)) (p : Path) → (host_at es p).0 ≡ shown_host (map place_in es) p
host_shown [] p = refl
host_shown (e ∷ es) p = ap (λ b. (unwrap_or (cond b (Some e.1) (value_at es p)) (record { 0 = 0 })).0) (at_path p e.0) ∙ by_test (path_eq e.0 p) (host_shown es p)
  where
    by_test : (b : Bool) → (host_at es p).0 ≡ shown_host (map place_in es) p → (unwrap_or (cond b (Some e.1) (value_at es p)) (record { 0 = 0 })).0 ≡ (if b then e.1.0 else shown_host (map place_in es) p)
    by_test true h = refl
    by_test false h = h

paths_in : (es : List (Path × Host)) → keys_of es ≡ map (λ x. x.path) (map place_in es)
paths_in [] = refl
paths_in (e ∷ es) = ap (λ ks. e.0 ∷ ks) (paths_in es)

-- a Start's places stand in path order
pub start_sorted : (shape : Shape) (count : ℕ) (start : Start) → IsStart shape count start → IsStrictlySortedBy path_cmp (map (λ x. x.path) start.places)
start_sorted shape count start b = subst (IsStrictlySortedBy path_cmp) (sym b.places) b.tree.ordered

pub begun_visited : (start : Start) (contexts : Contexts) (v : Visits) (next : Ticket) → IsStrictlySortedBy path_cmp (map (λ x. x.path) start.places) → IsBegun start contexts v next → IsVisited (start_places start) [] [] v
begun_visited start contexts v next ordered b = record {
  paths = paths_in v.hosts.entries ∙ ap (map (λ (x : Place). x.path)) b.places;
  sorted = ordered;
  host = λ p. host_shown v.hosts.entries p ∙ ap (λ xs. shown_host xs p) b.places;
  seen = λ p. subst (λ ls. IsSeen 0 0 false (load_at ls p)) (sym b.loads) (record { count = refl; mark = refl; last = omega arith; few = omega arith });
  within = λ p s. absurd (true≢false (sym s ∙ ap (λ ls. is_some (value_at ls p)) b.loads));
  entered = λ p s. absurd (true≢false (sym s ∙ ap (λ ls. is_some (value_at ls p)) b.loads));
}

-- ---- what is kept in order is what look-ups give

pub sorted_visits : (v : Visits) (places : List Place) → map place_in v.hosts.entries ≡ places → IsStrictlySortedBy path_cmp (map (λ x. x.path) places) → IsStrictlySortedBy path_cmp (keys_of v.hosts.entries)
sorted_visits v places e h = subst (IsStrictlySortedBy path_cmp) (sym (paths_in v.hosts.entries ∙ ap (map (λ (x : Place). x.path)) e)) h

map_along : {A B : Type 0} (f g : A → B) (xs : List A) → AllByRecursion (λ x. f x ≡ g x) xs → map f xs ≡ map g xs
map_along f g [] h = refl
map_along f g (x ∷ xs) h = λ i. h.0 i ∷ map_along f g xs h.1 i

module _ {V : Type 0} (d : V) where
  -- an entry by its look-up
  abbrev pub own : List (Path × V) → Path → Path × V
  own es k = (k, unwrap_or (value_at es k) d)

  own_later : (e : Path × V) (es : List (Path × V)) (ks : List Path) → AllByRecursion (λ k. path_cmp e.0 k ≡ Less) ks → AllByRecursion (λ k. own es k ≡ own (e ∷ es) k) ks
  own_later e es [] h = tt
  own_later e es (k ∷ ks) h =
      let other : is_at (path_cmp k) e.0 ≡ false = at_path k e.0 ∙ path_eq_ties e.0 k ∙ ap is_eq h.0 in
      (ap (λ b. (k, unwrap_or (cond b (Some e.1) (value_at es k)) d)) (sym other), own_later e es ks h.1)

  pub owned : (es : List (Path × V)) → IsStrictlySortedBy path_cmp (keys_of es) → es ≡ map (own es) (keys_of es)
  unfolding IsStrictlySortedBy
  owned [] h = refl
  owned (e ∷ es) h =
      let here : is_at (path_cmp e.0) e.0 ≡ true = at_path e.0 e.0 ∙ path_eq_equiv.refl e.0 in
      λ i. (e.0, unwrap_or (cond (sym here i) (Some e.1) (value_at es e.0)) d) ∷ (owned es h.1 ∙ map_along (own es) (own (e ∷ es)) (keys_of es) (own_later e es (keys_of es) h.0)) i

pub map_twice : {A B C : Type 0} (f : B → C) (g : A → B) (xs : List A) → map f (map g xs) ≡ map (λ x. f (g x)) xs
map_twice f g [] = refl
map_twice f g (x ∷ xs) = ap (λ ys. f (g x) ∷ ys) (map_twice f g xs)

abbrev pub no_host : Host
no_host = record { 0 = 0 }

module _ (hosts : Tree ℕ) (entered : List (List Path)) (v : Visits) (h : IsVisited hosts entered [] v) where
  pub visits_sorted : IsStrictlySortedBy path_cmp (keys_of v.hosts.entries)
  visits_sorted = subst (IsStrictlySortedBy path_cmp) (sym h.paths) h.sorted

  pub in_order : AreInOrder v
  in_order = record { sorted = visits_sorted; within = λ p s. there_is hosts v.hosts.entries p h.paths ∙ h.within p s; entered = h.entered }

  pub places_shown : map place_in v.hosts.entries ≡ map place_of (shots hosts)
  places_shown =
      ap (map place_in) (owned no_host v.hosts.entries visits_sorted ∙ ap (map (own no_host v.hosts.entries)) h.paths) ∙ map_twice place_in (own no_host v.hosts.entries) hosts.paths
      ∙ (λ i. map (λ k. record { path = k; host = record { 0 = h.host k i } }) hosts.paths)
      ∙ sym (map_twice place_of (λ p. (p, hosts.fields p)) hosts.paths)

  pub loads_shown : loads_in v ≡ map (load_of entered) hosts.paths
  loads_shown = sym (map_twice (λ k. (load_at v.loads.entries k).count) (λ (e : Path × Host). e.0) v.hosts.entries) ∙ ap (map (λ k. (load_at v.loads.entries k).count)) h.paths ∙ (λ i. map (λ k. loads_at k i) hosts.paths)
    where
      loads_at : (k : Path) → (load_at v.loads.entries k).count ≡ load_of entered k
      loads_at k = (h.seen k).count ∙ add-zero (load_of entered k)

-- Contexts put into the map in path order stand in it in that order.
use Rattle.std.proofs.Common.{◌≡◌, if◌then◌else◌, ℕ, ◌+◌, ◌<◌, ◌≤◌, zero, suc, Bool, true, false, ◌||◌, List, [], ◌∷◌, ◌++◌, length, map, take, drop, get_or, refl, sym, ap, subst, ◌∙◌, arith}
use Rattle.std.proofs.lemmas.List.{map-append, take_more, take_all, take-append-drop}
use Rattle.std.proofs.Math.Seq.{drop-cons}
use Rattle.indexmap.specs.IndexMap.{insert_entry}
use Rattle.std.specs.List.{AllByRecursion, list_any}
use Rattle.std.specs.List.Sorted.{IsStrictlySortedBy}
use Rattle.std.specs.Map.{keys_of}
use Rattle.std.specs.Ordering.{is_eq}
use Rattle.std.specs.declared.cmp.Ordering.{Ordering}
use Rattle.std.specs.declared.cmp.Ordering.TheVariants.{Less}
use Rattle.wave_base.specs.declared.path.Path.{Path}
use Rattle.wave_base.specs.declared.record.Record.{Record}
use Rattle.wave_base.specs.declared.shape.Shape.{Shape}
use Rattle.wave_base.specs.declared.shot.Shot.{Shot}
use Rattle.wave_base.specs.declared.value.Value.{Value}
use Rattle.wave_base.specs.Paths.{path_eq, path_cmp}
use Rattle.wave_base.specs.PathLaws.{path_eq_ties, path_eq_equiv}
use Rattle.wave_base.specs.Shapes.{fields_of_class, initial_fields}
use Rattle.wave_base.specs.Starts.{shown_fields}
use Rattle.wave_base.specs.Tree.{shots}
use Rattle.wave_base.specs.Trees.{first_tree}
use Rattle.context_tree.specs.Contexts.{Contexts, shot_at, contexts_of, as_pair, tree_of, IsOrdered}
use Rattle.context_tree.proofs.KeptLemmas.{paths_are_keys, paths_rise}
use Rattle.context_tree.proofs.Ordered.{Entries, ordered_already}

at_end : {K : Type 0} (P : K → Type 0) (t : List K) (e : K) (u : List K) → AllByRecursion P (t ++ e ∷ u) → P e
at_end P [] e u h = h.0
at_end P (x ∷ t) e u h = at_end P t e u h.1

all_before : {K : Type 0} (R : K → K → Ordering) (t : List K) (e : K) (u : List K) → IsStrictlySortedBy R (t ++ e ∷ u) → AllByRecursion (λ q. R q e ≡ Less) t
unfolding IsStrictlySortedBy
all_before R [] e u h = tt
all_before R (x ∷ t) e u h = (at_end (λ y. R x y ≡ Less) t e u h.0, all_before R t e u h.1)

-- a path above all that are there is none of them
insert_last : (es : Entries) (p : Path) (r : Record) → AllByRecursion (λ q. path_cmp q p ≡ Less) (keys_of es) → insert_entry path_eq es p r ≡ es ++ (p, r) ∷ []
insert_last [] p r h = refl
insert_last (e ∷ es) p r h =
    let other : path_eq p e.0 ≡ false = path_eq_equiv.symm p e.0 ∙ path_eq_ties e.0 p ∙ ap is_eq h.0 in
    ap (λ b. if b then (e.0, r) ∷ es else e ∷ insert_entry path_eq es p r) other ∙ ap (λ es. e ∷ es) (insert_last es p r h.1)

-- one context more
next_shot : (shots front : List Shot) (s : Shot) (back : List Shot) (es : Entries) (r : Record) → shots ≡ front ++ s ∷ back → IsOrdered shots → map shot_at es ≡ front → r.fields ≡ s.fields → map shot_at (insert_entry path_eq es s.path r) ≡ front ++ s ∷ []
next_shot shots front s back es r split ordered so_far same =
    let sorted = subst (IsStrictlySortedBy path_cmp) (map-append (λ s. s.path) front (s ∷ back)) (subst IsOrdered split ordered) in
    let before = all_before path_cmp (map (λ s. s.path) front) s.path (map (λ s. s.path) back) sorted in
    let keys = sym (paths_are_keys es) ∙ ap (map (λ s. s.path)) so_far in
    ap (map shot_at) (insert_last es s.path r (subst (AllByRecursion (λ q. path_cmp q s.path ≡ Less)) (sym keys) before))
    ∙ map-append shot_at es ((s.path, r) ∷ [])
    ∙ (λ i. so_far i ++ record { path = s.path; fields = same i } ∷ [])

pub shots_more : (shots : List Shot) (i : ℕ) (s : Shot) (es : Entries) (r : Record) → i < length shots → s ≡ get_or shots i s → IsOrdered shots → map shot_at es ≡ take i shots → r.fields ≡ s.fields → map shot_at (insert_entry path_eq es s.path r) ≡ take (i + 1) shots
shots_more shots i s es r l is ordered so_far same =
    let split = sym (take-append-drop i shots) ∙ ap (λ back. take i shots ++ back) (drop-cons shots i s l ∙ ap (λ x. x ∷ drop (suc i) shots) (sym is)) in
    next_shot shots (take i shots) s (drop (suc i) shots) es r split ordered so_far same
    ∙ ap (λ x. take i shots ++ x ∷ []) is ∙ sym (take_more shots i s l)

-- entries that joined in path order are kept as they stand
module _ (es : Entries) (shots : List Shot) (same : map shot_at es ≡ shots) (ordered : IsOrdered shots) where
  keys_are : keys_of es ≡ map (λ s. s.path) shots
  keys_are = sym (paths_are_keys es) ∙ ap (map (λ s. s.path)) same

  pub kept_as_they_stand : contexts_of es ≡ record { shots = shots; joined = map (λ s. s.path) shots }
  kept_as_they_stand =
      let already = ordered_already es (subst (IsStrictlySortedBy path_cmp) (sym keys_are) ordered) in
      λ i. record { shots = (ap (map shot_at) already ∙ same) i; joined = keys_are i }

-- the root alone
one_path : IsOrdered (record { path = []; fields = [] } ∷ [])
unfolding IsStrictlySortedBy
one_path = (tt, tt)

pub first_kept : (shape : Shape) (es : Entries) (r : Record) → es ≡ ([], r) ∷ [] → r.fields ≡ fields_of_class shape 0 → tree_of shape (contexts_of es) ≡ first_tree shape
first_kept shape es r e initial =
    ap (λ es. tree_of shape (contexts_of es)) e ∙ ap (tree_of shape) (kept_as_they_stand (([], r) ∷ []) (record { path = []; fields = r.fields } ∷ []) refl one_path) ∙ (λ i. record { paths = [] ∷ []; fields = λ q. shown q i })
  where
    shown : (q : Path) → (if path_eq [] q then r.fields else initial_fields shape q) ≡ initial_fields shape q
    shown [] = initial
    shown (s ∷ q) = refl

pub ordered_kept : (es : Entries) (t : Contexts) → contexts_of es ≡ t → IsOrdered t.shots
ordered_kept es t view = subst (λ (t : Contexts). IsOrdered t.shots) view (paths_rise es)

abbrev pub paired : {A B : Type 0} → (A → B) → A → A × B
paired f x = (x, f x)

map_along : {A B : Type 0} (f g : A → B) (xs : List A) → AllByRecursion (λ x. f x ≡ g x) xs → map (paired f) xs ≡ map (paired g) xs
map_along f g [] h = refl
map_along f g (x ∷ xs) h = λ i. (x, h.0 i) ∷ map_along f g xs h.1 i

-- a context before others shows nothing at their paths
module _ (shape : Shape) (s : Shot) (shots : List Shot) where
  shown_later : (p : Path) → path_cmp s.path p ≡ Less → shown_fields shape (s ∷ shots) p ≡ shown_fields shape shots p
  shown_later p h = ap (λ b. if b then s.fields else shown_fields shape shots p) (path_eq_ties s.path p ∙ ap is_eq h)

  all_later : (ps : List Path) → AllByRecursion (λ p. path_cmp s.path p ≡ Less) ps → AllByRecursion (λ p. shown_fields shape (s ∷ shots) p ≡ shown_fields shape shots p) ps
  all_later [] h = tt
  all_later (p ∷ ps) h = (shown_later p h.0, all_later ps h.1)

-- what a tree shows at its paths, in path order, is what is kept
pub shown_in_order : (shape : Shape) (shots : List Shot) → IsOrdered shots → map as_pair shots ≡ map (paired (shown_fields shape shots)) (map (λ s. s.path) shots)
unfolding IsStrictlySortedBy
shown_in_order shape [] h = refl
shown_in_order shape (s ∷ shots) h =
    let here : shown_fields shape (s ∷ shots) s.path ≡ s.fields = ap (λ b. if b then s.fields else shown_fields shape shots s.path) (path_eq_equiv.refl s.path) in
    λ i. (s.path, sym here i) ∷ (shown_in_order shape shots h.1 ∙ sym (map_along (shown_fields shape (s ∷ shots)) (shown_fields shape shots) (map (λ s. s.path) shots) (all_later shape s shots (map (λ s. s.path) shots) h.0))) i

pub pairs_tell : (xs ys : List Shot) → map as_pair xs ≡ map as_pair ys → xs ≡ ys
pairs_tell [] [] e = refl
pairs_tell [] (y ∷ ys) e = cc
pairs_tell (x ∷ xs) [] e = cc
pairs_tell (x ∷ xs) (y ∷ ys) e =
    let first : as_pair x ≡ as_pair y = cc in
    let others : map as_pair xs ≡ map as_pair ys = cc in
    let same : x ≡ y = λ i. record { path = (first i).0; fields = (first i).1 } in
    λ i. same i ∷ pairs_tell xs ys others i

module _ (shape : Shape) (t u : Contexts) (h : IsOrdered t.shots) (k : IsOrdered u.shots) (e : tree_of shape t ≡ tree_of shape u) where
  pub tree_tells_shots : t.shots ≡ u.shots
  tree_tells_shots = pairs_tell t.shots u.shots (shown_in_order shape t.shots h ∙ ap shots e ∙ sym (shown_in_order shape u.shots k))

  pub tree_tells : t.joined ≡ u.joined → t ≡ u
  tree_tells joined i = record { shots = tree_tells_shots i; joined = joined i }

-- contexts found at their paths, one after the other
module _ (f : Path → List Value) (ps qs : List Path) (same : ps ≡ qs) (i : ℕ) where
  pub shown_more : (p : Path) (shots : List Shot) (s : Shot) → i < length ps → p ≡ get_or ps i p → map as_pair shots ≡ map (paired f) (take i qs) → s.path ≡ p → s.fields ≡ f p → map as_pair (shots ++ s ∷ []) ≡ map (paired f) (take (i + 1) qs)
  shown_more p shots s l is so_far path fields =
      let more = take_more ps i p l ∙ ap (λ x. take i ps ++ x ∷ []) (sym is) in
      map-append as_pair shots (s ∷ [])
      ∙ (λ j. (so_far ∙ ap (λ ps. map (paired f) (take i ps)) (sym same)) j ++ (path j, fields j) ∷ [])
      ∙ sym (map-append (paired f) (take i ps) (p ∷ []))
      ∙ ap (map (paired f)) (sym more ∙ ap (take (i + 1)) same)

  pub shown_all : (shots : List Shot) → length ps ≤ i → map as_pair shots ≡ map (paired f) (take i qs) → map as_pair shots ≡ map (paired f) qs
  shown_all shots l e = e ∙ ap (map (paired f)) (take_all i qs (subst (λ ps. length ps ≤ i) same l))

pub any_at : (ps : List Path) (i : ℕ) (p : Path) → i < length ps → p ≡ get_or ps i p → list_any (path_eq p) ps ≡ true
any_at [] i p l is = absurd (omega arith)
any_at (x ∷ ps) zero p l is = ap (λ b. b || list_any (path_eq p) ps) (ap (path_eq p) (sym is) ∙ path_eq_equiv.refl p)
any_at (x ∷ ps) (suc i) p l is = ap (λ b. path_eq p x || b) (any_at ps i p (omega arith) is) ∙ or_true (path_eq p x)
  where
    or_true : (b : Bool) → (b || true) ≡ true
    or_true true = refl
    or_true false = refl

pub two_ordered : (xs : List Shot) (a b : Shot) → xs ≡ a ∷ b ∷ [] → path_cmp a.path b.path ≡ Less → IsOrdered xs
unfolding IsStrictlySortedBy
two_ordered xs a b e h = subst IsOrdered (sym e) ((h, tt), (tt, tt))

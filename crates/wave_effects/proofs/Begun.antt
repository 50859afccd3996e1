-- The contexts of a Start, one after the other: what the i-th begins with, and what is placed with it.
use Rattle.std.proofs.Common.{◌≡◌, ◌∙◌, ◌+◌, ◌-◌, ◌&&◌, ◌||◌, ℕ, zero, suc, Bool, true, false, not, List, [], ◌∷◌, ◌++◌, length, map, Some, None, refl, sym, ap, ap₂, subst, cond, true≢false, arith}
use Rattle.std.specs.FinMap as table
use Rattle.std.specs.FinSet as set
use Rattle.std.specs.Prelude.{drop, filter_map, if◌then◌else◌, nat_eq, option_map, slice_get, take}
use Rattle.std.specs.List.{list_any, AllByRecursion}
use Rattle.std.specs.List.Sorted.{IsStrictlySortedBy}
use Rattle.std.specs.Ordering.{is_eq, nat_cmp}
use Rattle.std.specs.declared.cmp.Ordering.{Ordering}
use Rattle.std.specs.declared.cmp.Ordering.TheVariants.{Less}
use Rattle.std.proofs.lemmas.List.{map-append}
use Rattle.wave_base.specs.declared.finished.Place.{Place}
use Rattle.wave_base.specs.declared.path.Path.{Path}
use Rattle.wave_base.specs.declared.record.Record.{Record}
use Rattle.wave_base.specs.declared.shape.Shape.{Shape}
use Rattle.wave_base.specs.declared.shot.Shot.{Shot}
use Rattle.wave_base.specs.declared.start.Start.{Start}
use Rattle.wave_base.specs.Paths.{path_cmp, path_eq}
use Rattle.wave_base.specs.PathLaws.{path_eq_equiv, path_eq_ties}
use Rattle.wave_base.specs.Starts.{IsStart, shown_fields, shown_host, start_tree}
use Rattle.wave_base.specs.Tree.{child_step, children_of, there}
use Rattle.context_queue.specs.declared.entry.Entry.{Entry}
use Rattle.context_queue.specs.Entries.{StandsFor, claim_of, record_of}
use Rattle.wave_states.specs.Begins.{begin_of, child_at_start, column_at_start, entry_at_start, is_root}
use Rattle.wave_states.specs.States.{set as put, Column}
use Rattle.wave_theory.proofs.Basics.{none_not, path_is, some_same}
use Rattle.wave_theory.proofs.Paths.{has_append, or_left, or_right, path_swap}
use Rattle.code_actor.specs.CodeActors.{Fields}
use Rattle.wave_effects.specs.inner.Beginnings.{first_column, kid_of, no_column, placed_column}
use Rattle.wave_effects.proofs.StoreParts.{TheEntry}
use Rattle.wave_effects.proofs.Placing.{kids_are, path_of, shown_at, skipped, take_next}

abbrev path_shot : Shot → Path
path_shot x = x.path

-- the shot of the i-th context is there, and shows its fields
apart_less : (o : Ordering) → o ≡ Less → is_eq o ≡ false
apart_less o e = ap is_eq e

at_less : (p : Path) (xs : List Shot) (i : ℕ) (x : Shot) → AllByRecursion (λ y. path_cmp p y ≡ Less) (map path_shot xs) → slice_get xs i ≡ Some x → path_cmp p x.path ≡ Less
at_less p [] zero x h e = absurd (none_not e)
at_less p [] (suc i) x h e = absurd (none_not e)
at_less p (y ∷ ys) zero x h e = ap (λ (z : Shot). path_cmp p z.path) (sym (some_same y x e)) ∙ h.0
at_less p (y ∷ ys) (suc i) x h e = at_less p ys i x h.1 e

shot_at : (shape : Shape) (xs : List Shot) (i : ℕ) (x : Shot) → IsStrictlySortedBy path_cmp (map path_shot xs) → slice_get xs i ≡ Some x → shown_fields shape xs x.path ≡ x.fields
unfolding IsStrictlySortedBy
shot_at shape [] zero x h e = absurd (none_not e)
shot_at shape [] (suc i) x h e = absurd (none_not e)
shot_at shape (y ∷ ys) zero x h e = subst (λ (z : Shot). (if path_eq z.path x.path then z.fields else shown_fields shape ys x.path) ≡ x.fields) (sym (some_same y x e)) (ap (λ b. if b then x.fields else shown_fields shape ys x.path) (path_eq_equiv.refl x.path))
shot_at shape (y ∷ ys) (suc i) x h e = ap (λ b. if b then y.fields else shown_fields shape ys x.path) (path_eq_ties y.path x.path ∙ apart_less (path_cmp y.path x.path) (at_less y.path ys i x h.0 e)) ∙ shot_at shape ys i x h.1 e

-- two lists with the same paths have them at the same places
same_at : (xs : List Place) (ys : List Shot) (i : ℕ) (x : Place) (y : Shot) → map path_of xs ≡ map path_shot ys → slice_get xs i ≡ Some x → slice_get ys i ≡ Some y → x.path ≡ y.path
same_at [] ys zero x y h e f = absurd (none_not e)
same_at [] ys (suc i) x y h e f = absurd (none_not e)
same_at (a ∷ xs) [] zero x y h e f = absurd (none_not f)
same_at (a ∷ xs) [] (suc i) x y h e f = absurd (none_not f)
same_at (a ∷ xs) (b ∷ ys) zero x y h e f = ap path_of (sym (some_same a x e)) ∙ heads a.path b.path (map path_of xs) (map path_shot ys) h ∙ ap path_shot (some_same b y f)
  where
    heads : (p q : Path) (ps qs : List Path) → p ∷ ps ≡ q ∷ qs → p ≡ q
    heads p q ps qs e = cc
same_at (a ∷ xs) (b ∷ ys) (suc i) x y h e f = same_at xs ys i x y (tails a.path b.path (map path_of xs) (map path_shot ys) h) e f
  where
    tails : (p q : Path) (ps qs : List Path) → p ∷ ps ≡ q ∷ qs → ps ≡ qs
    tails p q ps qs e = cc

-- all of them are shown where they are
all_shown : (all xs : List Place) (front : List Place) → all ≡ front ++ xs → IsStrictlySortedBy path_cmp (map path_of all) → AllByRecursion (λ (y : Place). shown_host all y.path ≡ y.host.0) xs
all_shown all [] front e h = tt
all_shown all (x ∷ xs) front e h = (shown_at all (length front) x h (ap (λ zs. slice_get zs (length front)) e ∙ first_of front), all_shown all xs (front ++ x ∷ []) (e ∙ again front) h)
  where
    first_of : (zs : List Place) → slice_get (zs ++ x ∷ xs) (length zs) ≡ Some x
    first_of [] = refl
    first_of (z ∷ zs) = first_of zs

    again : (zs : List Place) → zs ++ x ∷ xs ≡ (zs ++ x ∷ []) ++ xs
    again [] = refl
    again (z ∷ zs) = ap (λ ys. z ∷ ys) (again zs)

all_drop : (P : Place → Type 0) (xs : List Place) (n : ℕ) → AllByRecursion P xs → AllByRecursion P (drop n xs)
all_drop P [] zero h = tt
all_drop P [] (suc n) h = tt
all_drop P (x ∷ xs) zero h = h
all_drop P (x ∷ xs) (suc n) h = all_drop P xs n h.1

there_at : (xs : List Place) (i : ℕ) (x : Place) → slice_get xs i ≡ Some x → list_any (path_eq x.path) (map path_of xs) ≡ true
there_at [] zero x e = absurd (none_not e)
there_at [] (suc i) x e = absurd (none_not e)
there_at (y ∷ ys) zero x e = or_left (path_eq x.path y.path) (list_any (path_eq x.path) (map path_of ys)) (ap (λ (z : Place). path_eq x.path z.path) (some_same y x e) ∙ path_eq_equiv.refl x.path)
there_at (y ∷ ys) (suc i) x e = or_right (path_eq x.path y.path) (list_any (path_eq x.path) (map path_of ys)) (there_at ys i x e)

place_less : (p : Path) (xs : List Place) (i : ℕ) (x : Place) → AllByRecursion (λ y. path_cmp p y ≡ Less) (map path_of xs) → slice_get xs i ≡ Some x → path_cmp p x.path ≡ Less
place_less p [] zero x h e = absurd (none_not e)
place_less p [] (suc i) x h e = absurd (none_not e)
place_less p (y ∷ ys) zero x h e = ap (λ (z : Place). path_cmp p z.path) (sym (some_same y x e)) ∙ h.0
place_less p (y ∷ ys) (suc i) x h e = place_less p ys i x h.1 e

absent_before : (xs : List Place) (i : ℕ) (x : Place) → IsStrictlySortedBy path_cmp (map path_of xs) → slice_get xs i ≡ Some x → list_any (path_eq x.path) (map path_of (take i xs)) ≡ false
unfolding IsStrictlySortedBy
absent_before [] zero x h e = absurd (none_not e)
absent_before [] (suc i) x h e = absurd (none_not e)
absent_before (y ∷ ys) zero x h e = refl
absent_before (y ∷ ys) (suc i) x h e = ap₂ (λ a b. a || b) (path_swap x.path y.path ∙ path_eq_ties y.path x.path ∙ apart_less (path_cmp y.path x.path) (place_less y.path ys i x h.0 e)) (absent_before ys i x h.1 e)

-- a column by whether it is there, and at which host
abbrev column_with : TheEntry → Path → Bool → ℕ → Column Fields
column_with en p b n = record {
  store = if b then put nat_eq (λ h. None) n (Some en) else (λ h. None);
  gone = if is_root p && not (nat_eq n 0) then put nat_eq (λ h. None) 0 (Some (record { to = n; number = 1 })) else (λ h. None);
}

-- by whether it is there, and whether it is the root
abbrev absent_with : TheEntry → ℕ → Bool → Bool → Column Fields
absent_with en n b r = record {
  store = if b then put nat_eq (λ h. None) n (Some en) else (λ h. None);
  gone = if r && not (nat_eq n 0) then put nat_eq (λ h. None) 0 (Some (record { to = n; number = 1 })) else (λ h. None);
}

module _ (shape : Shape) (hosts : ℕ) (start : Start) (begins : IsStart shape hosts start) where
  pub sorted : IsStrictlySortedBy path_cmp (map path_of start.places)
  sorted = subst (IsStrictlySortedBy path_cmp) (sym begins.places) begins.tree.ordered

  module _ (i : ℕ) (x : Place) (at : slice_get start.places i ≡ Some x) where
    pub host_is : shown_host start.places x.path ≡ x.host.0
    host_is = shown_at start.places i x sorted at

    fields_are : (shot : Shot) → slice_get start.shots i ≡ Some shot → shown_fields shape start.shots x.path ≡ shot.fields
    fields_are shot e = ap (shown_fields shape start.shots) (same_at start.places start.shots i x shot begins.places at e) ∙ shot_at shape start.shots i shot begins.tree.ordered e

    kids_there : filter_map (kid_of x.path) (drop (suc i) start.places) ≡ map (child_at_start (begin_of shape start) x.path) (children_of (start_tree shape start) x.path)
    kids_there =
        kids_are x.path (shown_host start.places) (drop (suc i) start.places) (all_drop (λ (y : Place). shown_host start.places y.path ≡ y.host.0) start.places (suc i) (all_shown start.places start.places [] refl sorted))
        ∙ ap (map (child_at_start (begin_of shape start) x.path)) (sym (skipped start.places i x sorted at) ∙ ap (filter_map (child_step x.path)) begins.places)

    -- what the entry has that stands for the one at the start
    pub entry_stands : (e : Entry) (r : Record) (shot : Shot) → slice_get start.shots i ≡ Some shot → e.body ≡ Some r → r.fields ≡ shot.fields → r.children ≡ filter_map (kid_of x.path) (drop (suc i) start.places)
        → e.holder ≡ None → e.peeks.tickets ≡ set.empty → e.served ≡ (if is_root x.path then start.next.0 - 1 else 0) → e.waiting.claims ≡ table.empty → e.moves ≡ (if is_root x.path && not (nat_eq x.host.0 0) then 1 else 0)
        → StandsFor e (entry_at_start (begin_of shape start) x.path)
    entry_stands e r shot there body fields children holder peeks served waiting moves = record {
      body = (λ j. Some (record { fields = (fields_are shot there ∙ sym fields) j; children = (sym kids_there ∙ sym children) j })) ∙ ap (option_map record_of) (sym body);
      alone = λ t. ap (λ o. Rattle.context_queue.specs.Entries.is_holder o t) (sym holder);
      beside = λ t. sym (ap (λ s. set.contains s t) peeks ∙ set.contains-empty nat_cmp t);
      served = sym served;
      waiting = λ n. sym (ap (λ m. option_map claim_of (table.get m n)) waiting ∙ ap (option_map claim_of) (table.get-empty nat_cmp n));
      moves = ap (λ n. if is_root x.path && not (nat_eq n 0) then 1 else 0) host_is ∙ sym moves;
    }

    is_there : there (start_tree shape start) x.path ≡ true
    is_there = ap (list_any (path_eq x.path)) (sym begins.places) ∙ there_at start.places i x at

    -- its column is that of its place
    pub column_is : column_at_start (begin_of shape start) x.path ≡ first_column x (entry_at_start (begin_of shape start) x.path)
    column_is = ap₂ (λ b n. column_with (entry_at_start (begin_of shape start) x.path) x.path b n) is_there host_is

    -- it was not placed before
    pub not_yet : placed_column (begin_of shape start) (take i start.places) x.path ≡ no_column
    not_yet = ap (λ b. if b then column_at_start (begin_of shape start) x.path else no_column) (absent_before start.places i x sorted at)

    -- with it, all before it and it are placed
    pub one_more : (p : Path) → put path_eq (placed_column (begin_of shape start) (take i start.places)) x.path (column_at_start (begin_of shape start) x.path) p ≡ placed_column (begin_of shape start) (take (i + 1) start.places) p
    one_more p = by_test (path_eq x.path p) refl ∙ ap (λ b. if b then column_at_start (begin_of shape start) p else no_column) (sym all)
      where
        front : List Path
        front = map path_of (take i start.places)

        all : list_any (path_eq p) (map path_of (take (i + 1) start.places)) ≡ (list_any (path_eq p) front || path_eq p x.path)
        all = ap (λ ys. list_any (path_eq p) (map path_of ys)) (take_next start.places i x at) ∙ ap (list_any (path_eq p)) (map-append path_of (take i start.places) (x ∷ [])) ∙ has_append front x.path p

        or_true : (a b : Bool) → b ≡ true → (a || b) ≡ true
        or_true a b e = grind arith

        or_false : (a b : Bool) → b ≡ false → (a || b) ≡ a
        or_false a b e = grind arith

        by_test : (b : Bool) → path_eq x.path p ≡ b → cond b (column_at_start (begin_of shape start) x.path) (placed_column (begin_of shape start) (take i start.places) p) ≡ (if list_any (path_eq p) front || path_eq p x.path then column_at_start (begin_of shape start) p else no_column)
        by_test true e = ap (column_at_start (begin_of shape start)) (path_is x.path p e) ∙ sym (ap (λ b. if b then column_at_start (begin_of shape start) p else no_column) (or_true (list_any (path_eq p) front) (path_eq p x.path) (path_swap p x.path ∙ e)))
        by_test false e = ap (λ b. if b then column_at_start (begin_of shape start) p else no_column) (sym (or_false (list_any (path_eq p) front) (path_eq p x.path) (path_swap p x.path ∙ e)))

  pub all_placed : (p : Path) → placed_column (begin_of shape start) start.places p ≡ column_at_start (begin_of shape start) p
  all_placed p = by_there (list_any (path_eq p) (map path_of start.places)) refl
    where
      root_is : (q : Path) → is_root q ≡ true → q ≡ []
      root_is [] e = refl
      root_is (s ∷ q) e = absurd (true≢false (sym e))

      not_root : (b : Bool) → is_root p ≡ b → there (start_tree shape start) p ≡ false → is_root p ≡ false
      not_root true e n = absurd (true≢false (sym begins.root ∙ ap (there (start_tree shape start)) (sym (root_is p e)) ∙ n))
      not_root false e n = e

      by_there : (b : Bool) → list_any (path_eq p) (map path_of start.places) ≡ b → (if b then column_at_start (begin_of shape start) p else no_column) ≡ column_at_start (begin_of shape start) p
      by_there true e = refl
      by_there false e =
          let n : there (start_tree shape start) p ≡ false = ap (list_any (path_eq p)) (sym begins.places) ∙ e in
          sym (ap₂ (λ b r. absent_with (entry_at_start (begin_of shape start) p) (shown_host start.places p) b r) n (not_root (is_root p) refl n))

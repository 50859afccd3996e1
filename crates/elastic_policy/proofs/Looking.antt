-- A policy looks at no other contexts than those with a load, or those on the host that it drains.
use Rattle.std.proofs.Common.{◌≡◌, ◌≤◌, ◌<◌, ◌+◌, ◌-◌, ℕ, zero, suc, Bool, true, false, cond, ◌&&◌, nat_lt, List, [], ◌∷◌, ◌++◌, length, map, sum, take, get_or, lt-ltb, Some, None, true≢false, refl, ap, sym, subst, ◌∙◌, arith}
use Rattle.std.specs.List.{AllByRecursion, filter, find, zip}
use Rattle.std.specs.List.Sorted.{IsStrictlySortedBy}
use Rattle.std.specs.declared.cmp.Ordering.TheVariants.{Less}
use Rattle.std.proofs.lemmas.Bool.{and_parts, ltb-true, ltb-false}
use Rattle.std.proofs.lemmas.List.Elements.{All-from_recursion, recursion_from_All}
use Rattle.std.proofs.lemmas.List.{append-nil, take_all, take_more}
use Rattle.std.proofs.lemmas.List.Sums.{sum_by-cons}
use Rattle.std.proofs.lemmas.Slice.Zip.{get_or-zip, length-zip, seconds-zip}
use Rattle.wave_base.specs.declared.finished.Place.{Place}
use Rattle.wave_base.specs.declared.limits.TheConstants.{EVENT_LINES}
use Rattle.wave_base.specs.declared.numbers.Host.{Host}
use Rattle.wave_base.specs.declared.path.Path.{Path}
use Rattle.wave_base.specs.declared.policy.Policy.{Policy}
use Rattle.wave_base.specs.declared.policy.Policy.TheVariants.{Balance, Drain}
use Rattle.wave_base.specs.Paths.{path_eq, path_cmp}
use Rattle.script_fold.specs.Lives.{has_load, is_at}
use Rattle.elastic_policy.specs.Moves.{is_on, load_on, heaviest, lightest, spread, may_go, mover, on_host, places_with, move_to, balance, drain, moves_of}
use Rattle.elastic_policy.specs.Stages.{ArePlaced}
use Rattle.elastic_policy.proofs.Even.{balance-none, balance-some}
use Rattle.elastic_policy.proofs.Firsts.{greatest_same, least_same}
use Rattle.elastic_policy.proofs.Fits.{paths_zip}
use Rattle.elastic_policy.proofs.Sent.{paths_of}

-- ---- searches and filters

-- what a search wants passes the filter
find_filtered : {X : Type 0} (q p : X → Bool) → ((x : X) → q x ≡ true → p x ≡ true) → (xs : List X) → find q (filter p xs) ≡ find q xs
find_filtered q p wants [] = refl
find_filtered {X} q p wants (x ∷ xs) = by_filter (p x) refl (find_filtered q p wants xs)
  where
    by_search : (b : Bool) → q x ≡ b → p x ≡ false → find q (filter p xs) ≡ find q xs → find q (filter p xs) ≡ cond b (Some x) (find q xs)
    by_search true e out h = absurd (true≢false (sym (wants x e) ∙ out))
    by_search false e out h = h

    by_filter : (b : Bool) → p x ≡ b → find q (filter p xs) ≡ find q xs → find q (cond b (x ∷ filter p xs) (filter p xs)) ≡ cond (q x) (Some x) (find q xs)
    by_filter true e h = ap (cond (q x) (Some x)) h
    by_filter false e h = by_search (q x) refl e h

-- a change that the filter does not see
filter_changed : {X : Type 0} (p : X → Bool) (f : X → X) → ((x : X) → p (f x) ≡ p x) → (xs : List X) → filter p (map f xs) ≡ map f (filter p xs)
filter_changed p f same [] = refl
filter_changed p f same (x ∷ xs) = ap (λ b. cond b (f x ∷ filter p (map f xs)) (filter p (map f xs))) (same x) ∙ by_test (p x) (filter_changed p f same xs)
  where
    by_test : (b : Bool) → filter p (map f xs) ≡ map f (filter p xs) → cond b (f x ∷ filter p (map f xs)) (filter p (map f xs)) ≡ map f (cond b (x ∷ filter p xs) (filter p xs))
    by_test true h = ap (λ ys. f x ∷ ys) h
    by_test false h = h

filter_again : {X : Type 0} (p : X → Bool) (xs : List X) → filter p (filter p xs) ≡ filter p xs
filter_again p [] = refl
filter_again p (x ∷ xs) = by_test (p x) refl (filter_again p xs)
  where
    by_test : (b : Bool) → p x ≡ b → filter p (filter p xs) ≡ filter p xs → filter p (cond b (x ∷ filter p xs) (filter p xs)) ≡ cond b (x ∷ filter p xs) (filter p xs)
    by_test true e h = ap (λ b. cond b (x ∷ filter p (filter p xs)) (filter p (filter p xs))) e ∙ ap (λ ys. x ∷ ys) h
    by_test false e h = h

-- ---- a balance

no_load : (on : Bool) (n : ℕ) → n ≡ 0 → cond on n 0 ≡ 0
no_load true n e = e
no_load false n e = refl

loads_on : (xs : List (Place × ℕ)) (h : ℕ) → load_on (filter has_load xs) h ≡ load_on xs h
loads_on [] h = refl
loads_on (x ∷ xs) h = by_load (nat_lt 0 x.1) refl (loads_on xs h)
  where
    by_load : (b : Bool) → nat_lt 0 x.1 ≡ b → load_on (filter has_load xs) h ≡ load_on xs h → load_on (cond b (x ∷ filter has_load xs) (filter has_load xs)) h ≡ cond (is_on h x) x.1 0 + load_on xs h
    by_load true e rest = ap (λ n. cond (is_on h x) x.1 0 + n) rest
    by_load false e rest =
        let none : x.1 ≤ 0 = ltb-false 0 x.1 e in
        let part = no_load (is_on h x) x.1 (omega (arith, none)) in
        omega (arith, rest, part)

module _ (hosts : ℕ) (xs : List (Place × ℕ)) where
  abbrev with_loads : List (Place × ℕ)
  with_loads = filter has_load xs

  top_same : heaviest hosts with_loads ≡ heaviest hosts xs
  top_same = greatest_same (load_on with_loads) (load_on xs) hosts (λ h b. loads_on xs h)

  bottom_same : lightest hosts with_loads ≡ lightest hosts xs
  bottom_same = least_same (load_on with_loads) (load_on xs) hosts (λ h b. loads_on xs h)

  spread_same : spread hosts with_loads ≡ spread hosts xs
  spread_same = λ i. (loads_on xs (heaviest hosts with_loads) ∙ ap (load_on xs) top_same) i - (loads_on xs (lightest hosts with_loads) ∙ ap (load_on xs) bottom_same) i

  mover_same : mover hosts with_loads ≡ mover hosts xs
  mover_same =
      (λ i. find (may_go (top_same i) (spread_same i)) with_loads)
      ∙ find_filtered (may_go (heaviest hosts xs) (spread hosts xs)) has_load (λ x e. (and_parts (nat_lt 0 x.1) (nat_lt x.1 (spread hosts xs)) (and_parts (is_on (heaviest hosts xs) x) (nat_lt 0 x.1 && nat_lt x.1 (spread hosts xs)) e).1).0) xs

-- a move changes no load
load_stays : (b : Bool) (to : ℕ) (x : Place × ℕ) → has_load (cond b (on_host to x) x) ≡ has_load x
load_stays true to x = refl
load_stays false to x = refl

sent_same : (xs : List (Place × ℕ)) (path : Path) (to : ℕ) → filter has_load (places_with xs path to) ≡ places_with (filter has_load xs) path to
sent_same xs path to = filter_changed has_load (λ x. cond (path_eq path x.0.path) (on_host to x) x) (λ x. load_stays (path_eq path x.0.path) to x) xs

pub balance_looks : (hosts n : ℕ) (xs : List (Place × ℕ)) → balance hosts n (filter has_load xs) ≡ balance hosts n xs
balance_looks hosts zero xs = refl
balance_looks hosts (suc n) xs =
    elim (mover hosts xs) as (λ m. mover hosts xs ≡ m → balance hosts (suc n) (filter has_load xs) ≡ balance hosts (suc n) xs) [
      | None ↦ λ e. balance-none hosts (suc n) (filter has_load xs) (mover_same hosts xs ∙ e) ∙ sym (balance-none hosts (suc n) xs e)
      | Some x ↦ λ e.
          balance-some hosts n (filter has_load xs) x (mover_same hosts xs ∙ e)
          ∙ (λ i. move_to (bottom_same hosts xs i) x ∷ balance hosts n (places_with (filter has_load xs) x.0.path (bottom_same hosts xs i)))
          ∙ ap (λ ys. move_to (lightest hosts xs) x ∷ balance hosts n ys) (sym (sent_same xs x.0.path (lightest hosts xs)))
          ∙ ap (λ ms. move_to (lightest hosts xs) x ∷ ms) (balance_looks hosts n (places_with xs x.0.path (lightest hosts xs)))
          ∙ sym (balance-some hosts n xs x e)
    ] refl

-- ---- a drain

pub drain_looks : (from to : ℕ) (xs : List (Place × ℕ)) → drain from to (filter (is_at from) xs) ≡ drain from to xs
drain_looks from to xs = ap (λ ys. take EVENT_LINES (map (move_to to) ys)) (filter_again (is_on from) xs)

-- ---- what a policy asks for

pub balance_same : (hosts n : ℕ) (policy : Policy) (xs : List (Place × ℕ)) → policy ≡ Balance n → moves_of hosts policy (filter has_load xs) ≡ moves_of hosts policy xs
balance_same hosts n policy xs e = subst (λ p. moves_of hosts p (filter has_load xs) ≡ moves_of hosts p xs) (sym e) (balance_looks hosts n xs)

pub drain_same : (hosts : ℕ) (from to : Host) (policy : Policy) (xs : List (Place × ℕ)) → policy ≡ Drain from to → moves_of hosts policy (filter (is_at from.0) xs) ≡ moves_of hosts policy xs
drain_same hosts from to policy xs e = subst (λ p. moves_of hosts p (filter (is_at from.0) xs) ≡ moves_of hosts p xs) (sym e) (drain_looks from.0 to.0 xs)

-- ---- some of the contexts

below_filtered : (P : Path → Type 0) (q : Place × ℕ → Bool) (xs : List (Place × ℕ)) → AllByRecursion P (paths_of xs) → AllByRecursion P (paths_of (filter q xs))
below_filtered P q [] h = tt
below_filtered P q (x ∷ xs) h = by_test (q x) (below_filtered P q xs h.1)
  where
    by_test : (b : Bool) → AllByRecursion P (paths_of (filter q xs)) → AllByRecursion P (paths_of (cond b (x ∷ filter q xs) (filter q xs)))
    by_test true r = (h.0, r)
    by_test false r = r

sorted_filtered : (q : Place × ℕ → Bool) (xs : List (Place × ℕ)) → IsStrictlySortedBy path_cmp (paths_of xs) → IsStrictlySortedBy path_cmp (paths_of (filter q xs))
unfolding IsStrictlySortedBy
sorted_filtered q [] h = tt
sorted_filtered q (x ∷ xs) h = by_test (q x) (sorted_filtered q xs h.1)
  where
    by_test : (b : Bool) → IsStrictlySortedBy path_cmp (paths_of (filter q xs)) → IsStrictlySortedBy path_cmp (paths_of (cond b (x ∷ filter q xs) (filter q xs)))
    by_test true r = (below_filtered (λ p. path_cmp x.0.path p ≡ Less) q xs h.0, r)
    by_test false r = r

all_filtered : (P : Place × ℕ → Type 0) (q : Place × ℕ → Bool) (xs : List (Place × ℕ)) → AllByRecursion P xs → AllByRecursion P (filter q xs)
all_filtered P q [] h = tt
all_filtered P q (x ∷ xs) h = by_test (q x) (all_filtered P q xs h.1)
  where
    by_test : (b : Bool) → AllByRecursion P (filter q xs) → AllByRecursion P (cond b (x ∷ filter q xs) (filter q xs))
    by_test true r = (h.0, r)
    by_test false r = r

all_zipped : (P : Place → Type 0) (ps : List Place) (ls : List ℕ) → AllByRecursion P ps → AllByRecursion (λ (x : Place × ℕ). P x.0) (zip ps ls)
all_zipped P [] ls h = tt
all_zipped P (p ∷ ps) [] h = tt
all_zipped P (p ∷ ps) (l ∷ ls) h = (h.0, all_zipped P ps ls h.1)

all_unzipped : (P : Place → Type 0) (ps : List Place) (ls : List ℕ) → length ps ≡ length ls → AllByRecursion (λ (x : Place × ℕ). P x.0) (zip ps ls) → AllByRecursion P ps
all_unzipped P [] ls e h = tt
all_unzipped P (p ∷ ps) [] e h = absurd (omega (arith, e))
all_unzipped P (p ∷ ps) (l ∷ ls) e h = (h.0, all_unzipped P ps ls (omega (arith, e)) h.1)

abbrev loads_of : List (Place × ℕ) → List ℕ
loads_of xs = map (λ (x : Place × ℕ). x.1) xs

sum_filtered : (q : Place × ℕ → Bool) (xs : List (Place × ℕ)) → sum (loads_of (filter q xs)) ≤ sum (loads_of xs)
sum_filtered q [] = omega arith
sum_filtered q (x ∷ xs) = by_test (q x) (sum_filtered q xs)
  where
    by_test : (b : Bool) → sum (loads_of (filter q xs)) ≤ sum (loads_of xs) → sum (loads_of (cond b (x ∷ filter q xs) (filter q xs))) ≤ sum (loads_of (x ∷ xs))
    by_test true r = omega (arith, r, sum_by-cons (λ (n : ℕ). n) x.1 (loads_of (filter q xs)), sum_by-cons (λ (n : ℕ). n) x.1 (loads_of xs))
    by_test false r = omega (arith, r, sum_by-cons (λ (n : ℕ). n) x.1 (loads_of xs))

-- a policy may be asked with some of the contexts
pub some_placed : (hosts : ℕ) (q : Place × ℕ → Bool) (ps qs : List Place) (ls ms : List ℕ) → ArePlaced hosts ps ls → length qs ≡ length ms → zip qs ms ≡ filter q (zip ps ls) → ArePlaced hosts qs ms
some_placed hosts q ps qs ls ms h e same = record {
  paired = e;
  ordered = subst (IsStrictlySortedBy path_cmp) (sym (ap paths_of same) ∙ paths_zip qs ms e) (sorted_filtered q (zip ps ls) (subst (IsStrictlySortedBy path_cmp) (sym (paths_zip ps ls h.paired)) h.ordered));
  below = All-from_recursion (λ (x : Place). x.host.0 < hosts) qs
      (all_unzipped (λ (x : Place). x.host.0 < hosts) qs ms e
      (subst (AllByRecursion (λ (x : Place × ℕ). x.0.host.0 < hosts)) (sym same)
      (all_filtered (λ (x : Place × ℕ). x.0.host.0 < hosts) q (zip ps ls) (all_zipped (λ (x : Place). x.host.0 < hosts) ps ls (recursion_from_All (λ (x : Place). x.host.0 < hosts) ps h.below)))));
  small =
      let few = sum_filtered q (zip ps ls) in
      let new : sum ms ≡ sum (loads_of (filter q (zip ps ls))) = ap sum (sym (seconds-zip qs ms (sym e))) ∙ ap (λ xs. sum (loads_of xs)) same in
      let old : sum (loads_of (zip ps ls)) ≡ sum ls = ap sum (seconds-zip ps ls (sym h.paired)) in
      omega (arith, few, new, old, h.small);
}

-- ---- the contexts with a load, one after the other

zip_push : {A B : Type 0} (xs : List A) (ys : List B) (x : A) (y : B) → length xs ≡ length ys → zip (xs ++ x ∷ []) (ys ++ y ∷ []) ≡ zip xs ys ++ (x, y) ∷ []
zip_push [] [] x y e = refl
zip_push [] (b ∷ ys) x y e = absurd (omega (arith, e))
zip_push (a ∷ xs) [] x y e = absurd (omega (arith, e))
zip_push (a ∷ xs) (b ∷ ys) x y e = ap (λ zs. (a, b) ∷ zs) (zip_push xs ys x y (omega (arith, e)))

filter_push : {X : Type 0} (p : X → Bool) (xs : List X) (x : X) → filter p (xs ++ x ∷ []) ≡ filter p xs ++ cond (p x) (x ∷ []) []
filter_push p [] x = refl
filter_push {X} p (y ∷ ys) x = by_test (p y) (filter_push p ys x)
  where
    by_test : (b : Bool) → filter p (ys ++ x ∷ []) ≡ filter p ys ++ cond (p x) (x ∷ []) [] → cond b (y ∷ filter p (ys ++ x ∷ [])) (filter p (ys ++ x ∷ [])) ≡ cond b (y ∷ filter p ys) (filter p ys) ++ cond (p x) (x ∷ []) []
    by_test true h = ap (λ zs. y ∷ zs) h
    by_test false h = h

look_more : (ps : List Place) (ls : List ℕ) (i : ℕ) (d : Place) → length ps ≡ length ls → i < length ps →
    filter has_load (take (i + 1) (zip ps ls)) ≡ filter has_load (take i (zip ps ls)) ++ cond (nat_lt 0 (get_or ls i 0)) ((get_or ps i d, get_or ls i 0) ∷ []) []
look_more ps ls i d e k =
    let long = length-zip ps ls in
    let more : take (i + 1) (zip ps ls) ≡ take i (zip ps ls) ++ get_or (zip ps ls) i (d, 0) ∷ [] = take_more (zip ps ls) i (d, 0) (omega arith) in
    let item : get_or (zip ps ls) i (d, 0) ≡ (get_or ps i d, get_or ls i 0) = get_or-zip ps ls i (d, 0) k (omega arith) in
    ap (filter has_load) (more ∙ ap (λ (x : Place × ℕ). take i (zip ps ls) ++ x ∷ []) item) ∙ filter_push has_load (take i (zip ps ls)) (get_or ps i d, get_or ls i 0)

pub looked_yes : (some : List Place) (its : List ℕ) (ps : List Place) (ls : List ℕ) (i : ℕ) (d : Place) → length ps ≡ length ls → i < length ps → d ≡ get_or ps i d → 0 < get_or ls i 0 → length some ≡ length its →
    zip some its ≡ filter has_load (take i (zip ps ls)) → zip (some ++ d ∷ []) (its ++ get_or ls i 0 ∷ []) ≡ filter has_load (take (i + 1) (zip ps ls))
looked_yes some its ps ls i d e k is load paired found =
    zip_push some its d (get_or ls i 0) paired
    ∙ (λ j. found j ++ (is j, get_or ls i 0) ∷ [])
    ∙ ap (λ b. filter has_load (take i (zip ps ls)) ++ cond b ((get_or ps i d, get_or ls i 0) ∷ []) []) (sym (lt-ltb 0 (get_or ls i 0) load))
    ∙ sym (look_more ps ls i d e k)

pub looked_no : (some : List Place) (its : List ℕ) (ps : List Place) (ls : List ℕ) (i : ℕ) (d : Place) → length ps ≡ length ls → i < length ps → get_or ls i 0 ≤ 0 →
    zip some its ≡ filter has_load (take i (zip ps ls)) → zip some its ≡ filter has_load (take (i + 1) (zip ps ls))
looked_no some its ps ls i d e k none found =
    found ∙ sym (append-nil (filter has_load (take i (zip ps ls)))) ∙ ap (λ b. filter has_load (take i (zip ps ls)) ++ cond b ((get_or ps i d, get_or ls i 0) ∷ []) []) (sym (not_less (get_or ls i 0) none)) ∙ sym (look_more ps ls i d e k)
  where
    not_less : (n : ℕ) → n ≤ 0 → nat_lt 0 n ≡ false
    not_less n h = elim (nat_lt 0 n) as (λ t. nat_lt 0 n ≡ t → nat_lt 0 n ≡ false) [
      | true ↦ λ e. let less = ltb-true 0 n e in absurd (omega (arith, h, less))
      | false ↦ λ e. e
    ] refl

pub looked_all : (some : List Place) (its : List ℕ) (ps : List Place) (ls : List ℕ) (i : ℕ) → length ps ≡ length ls → length ps ≤ i → zip some its ≡ filter has_load (take i (zip ps ls)) → zip some its ≡ filter has_load (zip ps ls)
looked_all some its ps ls i e k found = let long = length-zip ps ls in found ∙ ap (filter has_load) (take_all i (zip ps ls) (omega arith))

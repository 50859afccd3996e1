-- What is read of contexts that are kept: those with a load, and those on a host.
use Rattle.std.proofs.Common.{◌≡◌, ◌<◌, ◌==◌, ℕ, suc, Bool, true, false, cond, ◌&&◌, ◌||◌, List, [], ◌∷◌, length, map, filter, nat_lt, Option, Some, None, is_some, unwrap_or, refl, sym, ap, subst, ◌∙◌, arith, lt-ltb, replicate}
use Rattle.std.proofs.lemmas.List.Kept.{IsStrictlySortedBy-filter}
use Rattle.std.specs.List.{list_any, zip}
use Rattle.std.specs.List.Sorted.{IsStrictlySortedBy}
use Rattle.std.specs.Map.{keys_of}
use Rattle.wave_base.specs.declared.finished.Place.{Place}
use Rattle.wave_base.specs.declared.numbers.Host.{Host}
use Rattle.wave_base.specs.declared.path.Path.{Path}
use Rattle.wave_base.specs.Paths.{path_eq, path_cmp}
use Rattle.wave_base.specs.PathLaws.{path_eq_decides}
use Rattle.script_fold.specs.declared.visits.Load.{Load}
use Rattle.script_fold.specs.declared.visits.Visits.{Visits}
use Rattle.script_fold.specs.Lives.{has_load, is_at}
use Rattle.script_fold.specs.inner.Visiting.{AreInOrder, value_at, host_at, load_at, loads_in, place_in, no_load}
use Rattle.script_fold.proofs.OrderLemmas.{Alike, same_sorted}
use Rattle.script_fold.proofs.PlaceLemmas.{map_twice, no_host, own, owned}
use Rattle.script_fold.proofs.VisitLemmas.{found_is}

zip_maps : {A B C : Type 0} (f : A → B) (g : A → C) (xs : List A) → zip (map f xs) (map g xs) ≡ map (λ x. (f x, g x)) xs
zip_maps f g [] = refl
zip_maps f g (x ∷ xs) = ap (λ ys. (f x, g x) ∷ ys) (zip_maps f g xs)

filter_map : {A B : Type 0} (q : B → Bool) (f : A → B) (xs : List A) → filter q (map f xs) ≡ map f (filter (λ x. q (f x)) xs)
filter_map q f [] = refl
filter_map {A} q f (x ∷ xs) = by_test (q (f x)) (filter_map q f xs)
  where
    by_test : (b : Bool) → filter q (map f xs) ≡ map f (filter (λ x. q (f x)) xs) → cond b (f x ∷ filter q (map f xs)) (filter q (map f xs)) ≡ map f (cond b (x ∷ filter (λ x. q (f x)) xs) (filter (λ x. q (f x)) xs))
    by_test true h = ap (λ ys. f x ∷ ys) h
    by_test false h = h

and_false : (a : Bool) → (a && false) ≡ false
and_false true = refl
and_false false = refl

-- a path is among those that pass a test where it passes and is among all
any_filter : (q : Path → Bool) (ps : List Path) (p : Path) → list_any (path_eq p) (filter q ps) ≡ (q p && list_any (path_eq p) ps)
any_filter q [] p = sym (and_false (q p))
any_filter q (r ∷ ps) p = by_path (path_eq p r) refl (any_filter q ps p)
  where
    some : Bool
    some = list_any (path_eq p) (filter q ps)

    here : (b : Bool) → cond b (true || some) some ≡ (b || some)
    here true = refl
    here false = refl

    split : (b : Bool) → list_any (path_eq p) (cond b (r ∷ filter q ps) (filter q ps)) ≡ cond b (path_eq p r || some) some
    split true = refl
    split false = refl

    both : (b : Bool) → some ≡ (b && list_any (path_eq p) ps) → (b || some) ≡ (b && true)
    both true h = refl
    both false h = h

    neither : (b : Bool) → cond b some some ≡ some
    neither true = refl
    neither false = refl

    by_path : (e : Bool) → path_eq p r ≡ e → some ≡ (q p && list_any (path_eq p) ps) → list_any (path_eq p) (cond (q r) (r ∷ filter q ps) (filter q ps)) ≡ (q p && (path_eq p r || list_any (path_eq p) ps))
    by_path true s h =
        split (q r) ∙ ap (λ b. cond (q r) (b || some) some) s ∙ here (q r) ∙ ap (λ x. q x || some) (sym ((path_eq_decides p r).0 s)) ∙ both (q p) h ∙ ap (λ b. q p && (b || list_any (path_eq p) ps)) (sym s)
    by_path false s h =
        split (q r) ∙ ap (λ b. cond (q r) (b || some) some) s ∙ neither (q r) ∙ h ∙ ap (λ b. q p && (b || list_any (path_eq p) ps)) (sym s)

pub length_map : {A B : Type 0} (f : A → B) (xs : List A) → length (map f xs) ≡ length xs
length_map f [] = refl
length_map f (x ∷ xs) = ap suc (length_map f xs)

pub map_const : {A : Type 0} (xs : List A) → map {B = ℕ} (λ x. 0) xs ≡ replicate (length xs) 0
map_const [] = refl
map_const (x ∷ xs) = ap (λ ns. 0 ∷ ns) (map_const xs)

abbrev pub stands_at : ℕ → Path × Host → Bool
stands_at h e = e.1.0 == h

module _ (v : Visits) where
  abbrev hs : List (Path × Host)
  hs = v.hosts.entries

  abbrev ls : List (Path × Load)
  ls = v.loads.entries

  abbrev shown : Path × Host → Place × ℕ
  shown e = (place_in e, (load_at ls e.0).count)

  all_shown : zip (map place_in hs) (loads_in v) ≡ map shown hs
  all_shown = zip_maps place_in (λ e. (load_at ls e.0).count) hs

  pub as_many : length (map place_in hs) ≡ length (loads_in v)
  as_many = length_map place_in hs ∙ sym (length_map (λ (e : Path × Host). (load_at ls e.0).count) hs)

  pub none_loaded : ls ≡ [] → loads_in v ≡ replicate (length (map place_in hs)) 0
  none_loaded e = ap (λ (ls : List (Path × Load)). map (λ (e : Path × Host). (load_at ls e.0).count) hs) e ∙ map_const hs ∙ ap (λ n. replicate n 0) (sym (length_map place_in hs))

  -- those on a host
  pub host_found : (h : ℕ) → zip (map place_in (filter (stands_at h) hs)) (map (λ e. (load_at ls e.0).count) (filter (stands_at h) hs)) ≡ filter (is_at h) (zip (map place_in hs) (loads_in v))
  host_found h = zip_maps place_in (λ e. (load_at ls e.0).count) (filter (stands_at h) hs) ∙ sym (ap (filter (is_at h)) all_shown ∙ filter_map (is_at h) shown hs)

  -- those with a load
  module _ (o : AreInOrder v) (ordered : IsStrictlySortedBy path_cmp (keys_of ls)) where
    abbrev counts : Path → Bool
    counts p = nat_lt 0 (load_at ls p).count

    counted_alike : Alike (filter counts (keys_of hs)) (keys_of ls)
    counted_alike p = any_filter counts (keys_of hs) p ∙ ap (λ b. counts p && b) (sym (found_is hs p)) ∙ by_found (value_at ls p) refl ∙ found_is ls p
      where
        by_found : (x : Option Load) → value_at ls p ≡ x → (counts p && is_some (value_at hs p)) ≡ is_some (value_at ls p)
        by_found (Some l) e =
            let s : is_some (value_at ls p) ≡ true = ap is_some e in
            ap (λ b. b && is_some (value_at hs p)) (lt-ltb 0 (load_at ls p).count (o.entered p s)) ∙ o.within p s ∙ sym s
        by_found None e = ap (λ x. nat_lt 0 (unwrap_or x no_load).count && is_some (value_at hs p)) e ∙ sym (ap is_some e)

    abbrev at : Path → Place × ℕ
    at p = (record { path = p; host = host_at hs p }, (load_at ls p).count)

    pub loaded_found : zip (map (λ e. record { path = e.0; host = host_at hs e.0 }) ls) (map (λ e. e.1.count) ls) ≡ filter has_load (zip (map place_in hs) (loads_in v))
    loaded_found =
        let counted : filter counts (keys_of hs) ≡ keys_of ls = same_sorted (filter counts (keys_of hs)) (keys_of ls) (IsStrictlySortedBy-filter path_cmp counts (keys_of hs) o.sorted) ordered counted_alike in
        let all : map shown hs ≡ map at (keys_of hs) = ap (map shown) (owned no_host hs o.sorted) ∙ map_twice shown (own no_host hs) (keys_of hs) in
        let own_loads : map (λ (e : Path × Load). (record { path = e.0; host = host_at hs e.0 }, e.1.count)) ls ≡ map at (keys_of ls) =
        ap (map (λ (e : Path × Load). (record { path = e.0; host = host_at hs e.0 }, e.1.count))) (owned no_load ls ordered) ∙ map_twice (λ (e : Path × Load). (record { path = e.0; host = host_at hs e.0 }, e.1.count)) (own no_load ls) (keys_of ls) in
        zip_maps (λ e. record { path = e.0; host = host_at hs e.0 }) (λ e. e.1.count) ls ∙ own_loads ∙ ap (map at) (sym counted) ∙ sym (filter_map has_load at (keys_of hs)) ∙ ap (filter has_load) (sym all) ∙ ap (filter has_load) (sym all_shown)

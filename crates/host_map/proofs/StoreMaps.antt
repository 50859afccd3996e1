-- The lemmas of tables at paths.
use Rattle.std.proofs.Common.{◌≡◌, ◌||◌, ℕ, zero, suc, Bool, true, false, List, [], ◌∷◌, Option, Some, None, is_some, IfSome, cond, length, filter, position, slice_get, get_or, refl, sym, ap, ◌∙◌}
use Rattle.std.specs.List.{list_any, IsDistinct}
use Rattle.std.proofs.lemmas.List.Quantifiers.{position-Some}
use Rattle.std.proofs.lemmas.Map.Entries.{lookup-filter-values, option_filter}
use Rattle.std.specs.Option.{unwrap_or}
use Rattle.std.specs.Map.{lookup, keys_of, values_of}
use Rattle.std.specs.FinMap as table
use Rattle.wave_base.specs.declared.path.Path.{Path}
use Rattle.wave_base.specs.Paths.{path_eq, path_cmp}
use Rattle.wave_base.specs.PathLaws.{path_cmp_total, path_eq_equiv, path_eq_ties, path_eq_decides, same_path}
use Rattle.context_queue.specs.declared.entry.Entry.{Entry}
use Rattle.context_queue.proofs.MapLemmas as m
use Rattle.host_map.specs.Stores.{is_counted}
use Rattle.indexmap.specs.IndexMap.{IndexMap, IsUnique, keys, values, with_value_at}
use Rattle.indexmap.proofs.CallerLemmas.{updates-with_value_at}

module _ {X : Type 0} where
  pub get_is_lookup : (q : Path) (es : List (Path × X)) → table.get (table.from_entries {R = path_cmp} es) q ≡ lookup (path_eq q) es
  get_is_lookup = m.get_is_lookup path_cmp path_eq path_cmp_total same_path path_eq_equiv.symm path_eq_ties

  pub inserted : (es fs : List (Path × X)) (k : Path) (v : X) → ((q : Path) → lookup (path_eq q) fs ≡ cond (path_eq k q) (Some v) (lookup (path_eq q) es))
      → table.from_entries {R = path_cmp} fs ≡ table.insert (table.from_entries es) k v
  inserted = m.inserted path_cmp path_eq path_cmp_total same_path path_eq_equiv.symm path_eq_ties

  pub removed : (es fs : List (Path × X)) (k : Path) → ((q : Path) → lookup (path_eq q) fs ≡ cond (path_eq k q) None (lookup (path_eq q) es))
      → table.from_entries {R = path_cmp} fs ≡ table.remove (table.from_entries es) k
  removed = m.removed path_cmp path_eq path_cmp_total same_path path_eq_equiv.symm path_eq_ties

  pub len_is_length : (es : List (Path × X)) → IsDistinct path_eq (keys_of es) → table.len (table.from_entries {R = path_cmp} es) ≡ length es
  len_is_length = m.len_is_length path_cmp path_eq path_cmp_total same_path path_eq_equiv.symm path_eq_ties

  -- a table without entries has none
  pub none_left : (es : List (Path × X)) → es ≡ [] → table.from_entries {R = path_cmp} es ≡ table.empty
  none_left es e = ap (λ xs. table.from_entries {R = path_cmp} xs) e

-- ---- a write behind a reference into the table

key_at : (p k : Path) → path_eq p k ≡ true → k ≡ p
key_at p k e = sym ((path_eq_decides p k).0 e)

module _ {X : Type 0} where
  same_Some : (x y : X) → Some x ≡ Some y → x ≡ y
  same_Some x y e = ap (λ o. unwrap_or o x) e

  entry_at : (es : List (Path × X)) (i : ℕ) (p : Path) (v : X) → get_or (keys_of es) i p ≡ p → slice_get (values_of es) i ≡ Some v → slice_get es i ≡ Some (p, v)
  entry_at [] i p v k e = cc
  entry_at (e ∷ es) zero p v k h = ap Some (λ j. (k j, same_Some e.1 v h j))
  entry_at (e ∷ es) (suc i) p v k h = entry_at es i p v k h

  -- and its key and its value
  pub key_of_entry : (es : List (Path × X)) (i : ℕ) (k d : Path) (v : X) → slice_get es i ≡ Some (k, v) → get_or (keys_of es) i d ≡ k
  key_of_entry [] i k d v h = cc
  key_of_entry (e ∷ es) zero k d v h = let same : e ≡ (k, v) = cc in ap (λ x. x.0) same
  key_of_entry (e ∷ es) (suc i) k d v h = key_of_entry es i k d v h

  pub value_of_entry : (es : List (Path × X)) (i : ℕ) (k : Path) (v : X) → slice_get es i ≡ Some (k, v) → slice_get (values_of es) i ≡ Some v
  value_of_entry [] i k v h = cc
  value_of_entry (e ∷ es) zero k v h = let same : e ≡ (k, v) = cc in ap (λ x. Some x.1) same
  value_of_entry (e ∷ es) (suc i) k v h = value_of_entry es i k v h

  -- where nothing is found there is none
  pub is_none_of : (o : Option X) → false ≡ is_some o → None ≡ o
  is_none_of None e = refl
  is_none_of (Some x) e = cc

  -- a path that is found stands where it is found
  pub found_key : {S : Type 0} (m : IndexMap Path X S) (p : Path) (o : Option ℕ) → o ≡ position (path_eq p) (keys m) → IfSome o (λ i. get_or (keys m) i p ≡ p)
  found_key m p None e = tt
  found_key m p (Some i) e = key_at p (get_or (keys m) i p) (position-Some (path_eq p) (keys m) i p (sym e)).1

  module _ {S : Type 0} (m : IndexMap Path X S) (p : Path) (i : ℕ) (v : X) (unique : IsUnique path_eq m) (key : get_or (keys m) i p ≡ p) (value : slice_get (values m) i ≡ Some v) where
    pub written : (w : X) → table.from_entries {R = path_cmp} (with_value_at m i w).entries ≡ table.insert (table.from_entries m.entries) p w
    written w =
        inserted m.entries (with_value_at m i w).entries p w (updates-with_value_at m i w path_eq_equiv unique p v (entry_at m.entries i p v key value)).0

-- ---- the paths

module _ {X : Type 0} where
  looked_up : (q : Path) (es : List (Path × X)) → is_some (lookup (path_eq q) es) ≡ list_any (path_eq q) (keys_of es)
  looked_up q [] = refl
  looked_up q (e ∷ es) = by_test (path_eq q e.0) (looked_up q es)
    where
      by_test : (b : Bool) → is_some (lookup (path_eq q) es) ≡ list_any (path_eq q) (keys_of es) → is_some (cond b (Some e.1) (lookup (path_eq q) es)) ≡ (b || list_any (path_eq q) (keys_of es))
      by_test true h = refl
      by_test false h = h

  -- a path is among the keys exactly where the table has it
  pub among_keys : (q : Path) (es : List (Path × X)) → list_any (path_eq q) (keys_of es) ≡ table.contains_key (table.from_entries {R = path_cmp} es) q
  among_keys q es = sym (looked_up q es) ∙ ap is_some (sym (get_is_lookup q es))

-- ---- those that were entered or moved

abbrev pub says : Path × Entry → Bool
says e = is_counted (Some e.1)

counted_some : (o : Option Entry) → is_some (option_filter (λ e. is_counted (Some e)) o) ≡ is_counted o
counted_some None = refl
counted_some (Some e) = by_test (is_counted (Some e))
  where
    by_test : (b : Bool) → is_some (cond b (Some e) None) ≡ b
    by_test true = refl
    by_test false = refl

-- a path is among theirs exactly where the table has such an entry of it
pub among_counted : (p : Path) (es : List (Path × Entry)) → IsDistinct path_eq (keys_of es) → list_any (path_eq p) (keys_of (filter says es)) ≡ is_counted (table.get (table.from_entries {R = path_cmp} es) p)
among_counted p es d =
    sym (looked_up p (filter says es)) ∙ ap is_some (lookup-filter-values path_eq_equiv (λ e. is_counted (Some e)) p es d) ∙ counted_some (lookup (path_eq p) es) ∙ ap is_counted (sym (get_is_lookup p es))

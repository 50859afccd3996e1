-- Places in a list of pairs in the order of their keys, and what an edit at a place makes of the list.
use Rattle.std.specs.Prelude.{◌≡◌, ◌≤◌, ◌<◌, ℕ, List, None, Some, Result, length, slice_get, slice_set, MatchResult}
use Rattle.std.specs.BTreeMap.{is_at, insert_entry}
use Rattle.std.specs.List.{insert, remove}
use Rattle.std.specs.Map.{lookup, remove_entry}
use Rattle.std.specs.declared.cmp.Ordering.{Ordering}

module _ {K X : Type 0} (cmp : K → K → Ordering) (pairs : List (K × X)) (key : K) where
  -- the pair at the place has the key
  pub record IsThere (i : ℕ) : Type 0 where
    pub within : i < length pairs
    pub has_key : (x : K × X) → slice_get pairs i ≡ Some x → x.0 ≡ key
    pub found : (x : K × X) → slice_get pairs i ≡ Some x → lookup (is_at (cmp key)) pairs ≡ Some x.1
    pub sets : (value : X) → slice_set pairs i (key, value) ≡ insert_entry cmp pairs key value
    pub removes : remove pairs i ≡ remove_entry (is_at (cmp key)) pairs

  -- no pair has the key, and a pair with it belongs before the place
  pub record IsGap (i : ℕ) : Type 0 where
    pub within : i ≤ length pairs
    pub absent : lookup (is_at (cmp key)) pairs ≡ None
    pub inserts : (value : X) → insert pairs i (key, value) ≡ insert_entry cmp pairs key value
    pub removes_none : remove_entry (is_at (cmp key)) pairs ≡ pairs

  -- the place of the key, or the place where it belongs
  abbrev pub IsPlace : Result ℕ ℕ → Type 0
  IsPlace place = MatchResult place IsThere IsGap

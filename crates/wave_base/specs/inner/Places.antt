-- Places in a list of pairs, and what an edit at a place makes of the list.
use Rattle.std.specs.Prelude.{◌≡◌, ◌≤◌, ◌<◌, ℕ, ℤ, List, None, is_some, true, Result, length, slice_get, slice_set, MatchResult}
use Rattle.std.specs.List.{insert, remove}
use Rattle.std.specs.Map.{values_of}
use Rattle.wave_base.specs.Tables.{value_at, with_pair, without}

-- the pair at the place has the key
pub record IsThere (pairs : List (ℤ × ℤ)) (key : ℤ) (i : ℕ) : Type 0 where
  pub within : i < length pairs
  pub value : value_at pairs key ≡ slice_get (values_of pairs) i
  pub found : is_some (value_at pairs key) ≡ true
  pub sets : (value : ℤ) → slice_set pairs i (key, value) ≡ with_pair pairs key value
  pub removes : remove pairs i ≡ without pairs key

-- no pair has the key, and a pair with it belongs before the place
pub record IsGap (pairs : List (ℤ × ℤ)) (key : ℤ) (i : ℕ) : Type 0 where
  pub within : i ≤ length pairs
  pub absent : value_at pairs key ≡ None
  pub inserts : (value : ℤ) → insert pairs i (key, value) ≡ with_pair pairs key value
  pub removes_none : without pairs key ≡ pairs

-- the place of the key, or the place where it belongs
abbrev pub IsPlace : List (ℤ × ℤ) → ℤ → Result ℕ ℕ → Type 0
IsPlace pairs key place = MatchResult place (IsThere pairs key) (IsGap pairs key)

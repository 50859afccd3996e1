-- For which paths one remembers together where one of them was found last.
use Rattle.std.specs.Prelude.{ℕ, ◌+◌, ◌-◌, ◌*◌, ◌%◌, List, Option, Some, None, length, slice_get, unsigned_abs}
use Rattle.wave_base.specs.declared.path.Step.{Step}

-- by the last key, and how deep in the tree it is
abbrev pub slot_at : Option Step → ℕ → ℕ
slot_at None depth = 0
slot_at (Some s) depth = unsigned_abs s.key % 32 + 4 * depth

-- the slot of a path, below 64
abbrev pub slot_of : List Step → ℕ
slot_of p = slot_at (slice_get p (length p - 1)) (length p)

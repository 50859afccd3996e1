-- Counts of faults, and the answers that they license.
use Rattle.std.specs.Prelude.{ℕ, ◌+◌, ◌-◌, ◌^◌, ◌≤◌, min, Result, OnErr}

-- a kept count raised by one: it stands still at its last value
abbrev pub raised_count : ℕ → ℕ
raised_count n = min (n + 1) (2 ^ 64 - 1)

-- the count is greater than before, or stands at the last value of a kept counter
abbrev pub Rose : ℕ → ℕ → Type 0
Rose before now = raised_count before ≤ now

-- a count of faults doesn't fall, and it rose where the call failed
pub record HasCause {T E : Type 0} (before now : ℕ) (result : Result T E) : Type 0 where
  pub later : before ≤ now
  pub failed : OnErr result (Rose before now)

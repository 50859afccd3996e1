-- The summary of a run: how many events there were, how they ended, and what they replied in all.
use Rattle.std.specs.Prelude.{ℕ, ℤ, pos, ◌+ℤ◌, Bool, true, false, List, [], ◌∷◌, ◌++◌, length, count_by, codes}
use Rattle.std.specs.Fmt.{decimal, signed_decimal}
use Rattle.std.specs.List.{concat}
use Rattle.wave_base.specs.declared.outcome.EventResult.{EventResult}
use Rattle.wave_base.specs.declared.outcome.Outcome.{Outcome}
use Rattle.wave_base.specs.declared.outcome.Outcome.TheVariants.{Reply, Trapped, Moved, Absent}
use Rattle.wave_base.specs.declared.value.Value.{Value}
use Rattle.wave_base.specs.declared.value.Value.TheVariants.{Int}
use Rattle.wave_gen.specs.declared.summary.CountedEnd.{CountedEnd}
use Rattle.wave_gen.specs.declared.summary.CountedEnd.TheVariants as ending

-- it ended in this way
abbrev pub ended_so : CountedEnd → Outcome → Bool
ended_so ending.Replied (Reply v) = true
ended_so ending.Trapped (Trapped t) = true
ended_so ending.Moved (Moved path host) = true
ended_so ending.Absent (Absent path) = true
ended_so _ _ = false

-- how many ended so
abbrev pub tally : CountedEnd → List EventResult → ℕ
tally how rs = count_by (λ (r : EventResult). ended_so how r.outcome) rs

-- a whole number that was replied counts, and nothing else does
abbrev pub value_worth : Value → ℤ
value_worth (Int n) = n
value_worth _ = pos 0

abbrev pub worth : Outcome → ℤ
worth (Reply v) = value_worth v
worth _ = pos 0

-- the exact sum of all whole numbers that were replied
abbrev pub total : List EventResult → ℤ
total [] = pos 0
total (r ∷ rs) = worth r.outcome +ℤ total rs

-- a name and a number
abbrev pub entry : List ℕ → List ℕ → List ℕ
entry name number = name ++ codes " " ++ number ++ codes "\n"

-- six lines
abbrev pub summary_text : List EventResult → List ℕ
summary_text rs = concat (
    entry (codes "events") (decimal (length rs))
    ∷ entry (codes "replies") (decimal (tally ending.Replied rs))
    ∷ entry (codes "traps") (decimal (tally ending.Trapped rs))
    ∷ entry (codes "moved") (decimal (tally ending.Moved rs))
    ∷ entry (codes "absent") (decimal (tally ending.Absent rs))
    ∷ entry (codes "total") (signed_decimal (total rs))
    ∷ [])

use Rattle.std.proofs.Common.{◌≡◌, ◌++◌, drop}
use Rattle.downgrade_views.specs.Levels.{kept_from, kept_level}
use Rattle.downgrade_views.proofs.level.kept_copies.Given as goal

-- the kept ones so far, and those to come
abbrev pub invariant-loop-i : goal.invariant-loop-i
invariant-loop-i l = l.copies.items ++ kept_from l.i (drop l.i l.fn.kept) (drop l.i l.fn.body.fields) ≡ kept_level l.fn.kept l.fn.body.fields

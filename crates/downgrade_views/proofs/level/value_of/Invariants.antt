use Rattle.std.proofs.Common.{◌≡◌, drop}
use Rattle.downgrade_views.specs.Levels.{value_in}
use Rattle.downgrade_views.proofs.level.value_of.Given as goal

-- the field is not among those so far
abbrev pub invariant-loop-copy : goal.invariant-loop-copy
invariant-loop-copy l = value_in l.fn.level l.field ≡ value_in (drop l.copy-index l.fn.level) l.field

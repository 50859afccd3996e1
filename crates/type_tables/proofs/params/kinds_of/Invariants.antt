use Rattle.std.proofs.Common.{◌≡◌, take}
use Rattle.type_rules.specs.Known as known
use Rattle.type_tables.proofs.params.kinds_of.Given as goal

abbrev pub invariant-loop-param : goal.invariant-loop-param
invariant-loop-param l = l.kinds.items ≡ known.kinds_of (take l.param-index l.param-items)

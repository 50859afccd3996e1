use Rattle.std.proofs.Common.{◌≡◌, map, take}
use Rattle.type_rules.specs.Known as rules
use Rattle.type_tables.proofs.gather.fields.Given as goal

abbrev pub invariant-loop-f : goal.invariant-loop-f
invariant-loop-f l = l.fields.items ≡ map rules.field_info (take l.f-index l.vars)

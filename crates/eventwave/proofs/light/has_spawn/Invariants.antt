use Rattle.std.proofs.Common.{◌≡◌, drop}
use Rattle.std.specs.List.{list_any}
use Rattle.eventwave.specs.inner.Light.{is_spawn}
use Rattle.eventwave.proofs.light.has_spawn.Given as goal

-- it depends on those to come
abbrev pub invariant-loop-instr : goal.invariant-loop-instr
invariant-loop-instr l = list_any is_spawn l.fn.code ≡ list_any is_spawn (drop l.instr-index l.fn.code)

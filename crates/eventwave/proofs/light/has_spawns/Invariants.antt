use Rattle.std.proofs.Common.{◌≡◌, drop}
use Rattle.std.specs.List.{list_any}
use Rattle.eventwave.specs.inner.Light.{has_spawn}
use Rattle.eventwave.proofs.light.has_spawns.Given as goal

-- it depends on those to come
abbrev pub invariant-loop-function : goal.invariant-loop-function
invariant-loop-function l = list_any (λ f. has_spawn f.code) l.fn.program.functions ≡ list_any (λ f. has_spawn f.code) (drop l.function-index l.fn.program.functions)

use Rattle.std.proofs.Common.{◌≡◌, drop}
use Rattle.std.specs.List.{list_any}
use Rattle.wave_effects.specs.Loops.{has_loop}
use Rattle.wave_effects.proofs.plan.Plan.has_loops.Given as goal

-- it depends on those to come
abbrev pub invariant-loop-function : goal.invariant-loop-function
invariant-loop-function l = list_any (λ f. has_loop 0 f.code) l.fn.self.program.functions ≡ list_any (λ f. has_loop 0 f.code) (drop l.function-index l.fn.self.program.functions)

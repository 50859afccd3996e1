use Rattle.std.proofs.Common.{◌≡◌, drop}
use Rattle.wave_effects.specs.Loops.{has_loop}
use Rattle.wave_effects.proofs.loops.has_loop.Given as goal

-- it depends on those to come
abbrev pub invariant-loop-place : goal.invariant-loop-place
invariant-loop-place l = has_loop 0 l.fn.code ≡ has_loop l.place (drop l.place l.fn.code)

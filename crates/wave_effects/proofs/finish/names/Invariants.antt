use Rattle.std.proofs.Common.{◌≡◌, map, take}
use Rattle.wave_effects.specs.Kinds.{name_in}
use Rattle.wave_effects.proofs.finish.names.Given as goal

abbrev pub invariant-loop-kind : goal.invariant-loop-kind
invariant-loop-kind l = l.names.items ≡ map name_in (take l.kind-index l.kinds)

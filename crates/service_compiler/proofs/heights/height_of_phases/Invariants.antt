use Rattle.std.proofs.Common.{◌≡◌, min, take}
use Rattle.code_scheme.specs.Heights.{phases_height}
use Rattle.service_compiler.proofs.heights.height_of_phases.Given as goal

abbrev pub invariant-loop-phase : goal.invariant-loop-phase
invariant-loop-phase l = l.height ≡ min (phases_height l.methods (take l.phase-index l.phases)) 65535

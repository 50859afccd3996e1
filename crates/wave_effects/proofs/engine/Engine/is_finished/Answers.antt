use Rattle.std.proofs.Common.{arith}
use Rattle.wave_effects.proofs.engine.Engine.is_finished.Goals as goal

pub is_finished_past-requires : goal.is_finished_past-requires
is_finished_past-requires c = record { within = omega arith; each = λ i x below at. absurd (omega (arith, below)) }

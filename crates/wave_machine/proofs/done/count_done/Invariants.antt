use Rattle.wave_effects.specs.Keeping.{kept_of}
use Rattle.wave_machine.specs.inner.Done.{AreDone}
use Rattle.wave_machine.proofs.done.count_done.Given as goal

abbrev pub invariant-loop-i : goal.invariant-loop-i
invariant-loop-i l = AreDone (kept_of l.engine) l.i

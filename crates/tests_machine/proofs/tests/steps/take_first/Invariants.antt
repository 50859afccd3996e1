use Rattle.std.specs.Prelude.{◌≡◌}
use Rattle.wave_effects.specs.Plans.{plan_of}
use Rattle.tests_machine.proofs.tests.steps.take_first.Given as goal

abbrev pub invariant-loop-turn : goal.invariant-loop-turn
invariant-loop-turn l = l.machine.kept.plan ≡ plan_of l.plan

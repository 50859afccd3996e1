use Rattle.std.proofs.Common.{◌≤◌, ◌<◌, drop, length}
use Rattle.std.specs.List.{AllByRecursion}
use Rattle.wave_machine.proofs.renewing.first_above.Given as goal

abbrev pub invariant-loop-first : goal.invariant-loop-first
invariant-loop-first l = record {
  within : l.first ≤ length l.mails;
  above : AllByRecursion (λ m. l.number < m.0) (drop l.first l.mails);
}

abbrev pub decreases-loop-first : goal.decreases-loop-first
decreases-loop-first l = l.first

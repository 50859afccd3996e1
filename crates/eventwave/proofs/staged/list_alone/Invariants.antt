use Rattle.std.proofs.Common.{◌≤◌}
use Rattle.elastic_policy.specs.Progress.{come_to}
use Rattle.due_stages.specs.Listed.{turns_left}
use Rattle.eventwave.proofs.StageLemmas.{HasCome}
use Rattle.eventwave.proofs.staged.list_alone.Given as goal

abbrev pub invariant-loop-stages : goal.invariant-loop-stages
invariant-loop-stages g l = record {
  come : HasCome l.fn.work l.code (come_to l.stages) l.trapped (g.K.Sink.written l.fn.out) (g.K.Sink.written l.out);
  later : g.K.Sink.faults l.fn.out ≤ g.K.Sink.faults l.out;
}

abbrev pub decreases-loop-stages : goal.decreases-loop-stages
decreases-loop-stages g l = turns_left (come_to l.stages)

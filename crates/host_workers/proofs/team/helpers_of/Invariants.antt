use Rattle.std.proofs.Common.{◌≡◌}
use Rattle.kept_lock.specs.Locks.{name_of, knowledge, IsPassOf}
use Rattle.host_workers.specs.Passes.{IsReady}
use Rattle.host_workers.proofs.team.helpers_of.Given as goal

abbrev pub invariant-loop-number : goal.invariant-loop-number
invariant-loop-number g l = record {
  of_lock : IsPassOf l.post.lock.now l.first;
  ready : IsReady (name_of l.post.lock.now) (knowledge l.first) (record { 0 = 0 });
  passes : (knowledge l.first).passes ≡ l.number;
}

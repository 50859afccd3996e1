use Rattle.std.proofs.Common.{◌≡◌, filter, take}
use Rattle.context_tree.specs.Contexts.{is_there}
use Rattle.resolved_service.specs.Jobs.{fronts}
use Rattle.script_fold.proofs.jobs.fronts_there.Given as goal

abbrev pub invariant-loop-i : goal.invariant-loop-i
invariant-loop-i l = record {
  front_is : l.front ≡ take l.i l.path;
  so_far : l.entered.items ≡ filter (is_there l.contexts) (fronts l.front);
}

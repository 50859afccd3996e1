use Rattle.std.proofs.Common.{◌≡◌, take, length}
use Rattle.std.specs.List.{filter, zip}
use Rattle.script_fold.specs.Lives.{has_load}
use Rattle.elastic_policy.proofs.plan.loads_of.Given as goal

abbrev pub invariant-loop-i : goal.invariant-loop-i
invariant-loop-i l = record {
  paired : length l.some.items ≡ length l.its.items;
  found : zip l.some.items l.its.items ≡ filter has_load (take l.i (zip l.places l.loads));
}

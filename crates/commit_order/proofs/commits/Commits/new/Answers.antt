use Rattle.std.proofs.Common.{ap}
use Rattle.std.specs.Prelude.{nat_eq}
use Rattle.std.specs.Map.{lookup}
use Rattle.commit_order.proofs.commits.Commits.new.Goals as goal

pub invariant_of-result : goal.invariant_of-result
invariant_of-result c = ap (lookup (nat_eq 4294967296)) c.new.ensures.empty

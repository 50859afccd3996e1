use Rattle.std.proofs.Common.{◌≡◌, drop}
use Rattle.resolved_service.specs.World.{has}
use Rattle.service_eval.proofs.trace.Trace.holds.Given as goal

abbrev pub invariant-loop-held : goal.invariant-loop-held
invariant-loop-held l = has l.self.held.items l.path ≡ has (drop l.held-index l.self.held.items) l.path

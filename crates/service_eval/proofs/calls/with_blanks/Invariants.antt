use Rattle.std.proofs.Common.{◌≡◌, ◌++◌, map, take}
use Rattle.resolved_service.specs.World.{blank_of}
use Rattle.service_eval.proofs.calls.with_blanks.Given as goal

abbrev pub invariant-loop-kind : goal.invariant-loop-kind
invariant-loop-kind l = l.given.items ≡ l.fn.given.items ++ map blank_of (take l.kind-index l.kind-items)

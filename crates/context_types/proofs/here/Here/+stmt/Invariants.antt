use Rattle.std.proofs.Common.{◌≡◌, ◌+◌, ◌*◌, map, take, None, false}
use Rattle.resolved_service.specs.Steps.{step_of}
use Rattle.type_rules.specs.Demands.{first_wrong}
use Rattle.context_types.specs.inner.Places.{here_of}
use Rattle.context_types.proofs.Lists.{next_stmt, stmt_asks, stmt_made}
use Rattle.context_types.proofs.Walking.{ends, walk, makes}
use Rattle.context_types.proofs.here.Here.+stmt.Given as goal

abbrev pub decreases-stmt : goal.decreases-stmt
decreases-stmt l = 8 * goal.size-stmt l

abbrev pub decreases-stmts : goal.decreases-stmts
decreases-stmts l = 8 * goal.size-stmts l + 1

abbrev pub decreases-block : goal.decreases-block
decreases-block l = 8 * goal.size-block l + 2

abbrev pub decreases-other : goal.decreases-other
decreases-other l = 8 * goal.size-other l + 3

abbrev pub invariant-stmts-each : goal.invariant-stmts-each
invariant-stmts-each l = record {
  holds : first_wrong (walk next_stmt stmt_asks (here_of l.initial.self, false) (take l.s-index l.body)) ≡ None;
  place : ends next_stmt (here_of l.initial.self, false) (take l.s-index l.body) ≡ (here_of l.self, l.ended);
  made : makes next_stmt stmt_made (here_of l.initial.self, false) (take l.s-index l.body) ≡ map step_of l.steps.items;
}

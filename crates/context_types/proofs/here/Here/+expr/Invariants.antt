use Rattle.std.proofs.Common.{◌≡◌, ◌+◌, ◌*◌, map, take, None}
use Rattle.resolved_service.specs.View.{tree_of}
use Rattle.type_rules.specs.Demands.{first_wrong}
use Rattle.context_types.specs.inner.Places.{here_of}
use Rattle.context_types.proofs.Lists.{next_number, arg_asks, arg_made}
use Rattle.context_types.proofs.Walking.{walk, makes}
use Rattle.context_types.proofs.here.Here.+expr.Given as goal

abbrev pub decreases-expr : goal.decreases-expr
decreases-expr l = 4 * goal.size-expr l

abbrev pub decreases-expr_of : goal.decreases-expr_of
decreases-expr_of l = 4 * goal.size-expr_of l + 1

abbrev pub decreases-args : goal.decreases-args
decreases-args l = 4 * goal.size-args l + 2

abbrev pub decreases-call : goal.decreases-call
decreases-call l = 4 * goal.size-call l + 3

abbrev pub decreases-child_call : goal.decreases-child_call
decreases-child_call l = 4 * goal.size-child_call l + 3

abbrev pub invariant-args-each : goal.invariant-args-each
invariant-args-each l = record {
  holds : first_wrong (walk next_number (arg_asks (here_of l.self) l.kinds) 0 (take l.i l.args)) ≡ None;
  made : makes next_number (arg_made (here_of l.self) l.kinds) 0 (take l.i l.args) ≡ map tree_of l.trees.items;
}

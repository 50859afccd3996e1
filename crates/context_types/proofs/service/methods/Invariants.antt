use Rattle.std.proofs.Common.{◌≡◌, ◌+◌, ◌++◌, length, map, take, None}
use Rattle.type_rules.specs.Demands.{first_wrong}
use Rattle.type_rules.specs.Views.{method_view}
use Rattle.context_types.proofs.Lists.{next_number, method_asks_at, method_made}
use Rattle.context_types.proofs.Walking.{walk, makes}
use Rattle.context_types.proofs.service.methods.Given as goal

abbrev pub invariant-loop-m : goal.invariant-loop-m
invariant-loop-m l = record {
  holds : first_wrong (walk next_number (method_asks_at l.tables l.class) (length l.initial.made.items) (take l.m-index l.decls)) ≡ None;
  made : map method_view l.made.items ≡ map method_view l.initial.made.items ++ makes next_number (method_made l.tables l.class) (length l.initial.made.items) (take l.m-index l.decls);
  count : length l.made.items ≡ length l.initial.made.items + l.m-index;
}

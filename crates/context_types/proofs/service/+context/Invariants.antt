use Rattle.std.proofs.Common.{◌≡◌, ◌++◌, length, map, take, None}
use Rattle.type_rules.specs.Demands.{first_wrong}
use Rattle.type_rules.specs.Views.{method_view}
use Rattle.context_types.specs.inner.Judged.{FewFields}
use Rattle.context_types.proofs.ServiceArms.{next_context, context_asks, context_made, joined}
use Rattle.context_types.proofs.Walking.{walk, ends, makes}
use Rattle.context_types.proofs.service.+context.Given as goal

abbrev pub invariant-contexts-each : goal.invariant-contexts-each
invariant-contexts-each l = record {
  holds : first_wrong (walk next_context (context_asks l.tables) (l.first, length l.initial.made.items) (take l.c-index l.decls)) ≡ None;
  place : ends next_context (l.first, length l.initial.made.items) (take l.c-index l.decls) ≡ (l.next, length l.made.items);
  made : map method_view l.made.items ≡ map method_view l.initial.made.items ++ joined (makes next_context (context_made l.tables) (l.first, length l.initial.made.items) (take l.c-index l.decls));
  few : FewFields l.tables l.next;
}

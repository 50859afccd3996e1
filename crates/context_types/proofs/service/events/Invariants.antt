use Rattle.std.proofs.Common.{◌≡◌, map, take, None}
use Rattle.type_rules.specs.Demands.{first_wrong}
use Rattle.type_rules.specs.Views.{event_view}
use Rattle.context_types.proofs.Lists.{next_number, event_asks, event_made}
use Rattle.context_types.proofs.Walking.{walk, makes}
use Rattle.context_types.proofs.service.events.Given as goal

abbrev pub invariant-loop-i : goal.invariant-loop-i
invariant-loop-i l = record {
  holds : first_wrong (walk next_number (event_asks l.tables) 0 (take l.i l.decls)) ≡ None;
  made : makes next_number (event_made l.tables) 0 (take l.i l.decls) ≡ map event_view l.made.items;
}

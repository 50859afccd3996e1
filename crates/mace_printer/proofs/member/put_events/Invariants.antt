use Rattle.std.proofs.Common.{◌≡◌, ◌++◌, map, take}
use Rattle.mace_ast.specs.Decls.{event_tree}
use Rattle.mace_printer.specs.Canon.{all_of, event_words}
use Rattle.mace_printer.specs.Layout.{layout}
use Rattle.mace_printer.proofs.member.put_events.Given as goal

abbrev pub invariant-loop-event : goal.invariant-loop-event
invariant-loop-event l = l.out.items ≡ l.fn.out.items ++ layout (all_of event_words (map event_tree (take l.event-index l.events)))

use Rattle.std.proofs.Common.{arith}
use Rattle.mace_ast.specs.Decls.{event_tree}
use Rattle.mace_printer.specs.Canon.{event_words}
use Rattle.mace_printer.proofs.Wrote.{nothing, all_of_turn, all_of_end}
use Rattle.mace_printer.proofs.member.put_events.Goals as goal

pub loop-event-init : goal.loop-event-init
loop-event-init c = nothing _

pub loop-event-preserved : goal.loop-event-preserved
loop-event-preserved c = all_of_turn event_words event_tree _ c.args.events.now c.loop-event.event-index c.event-item.result c.loop-event-test.true c.event-item.is c.loop-event.invariant c.in_ok-put_event.ensures

pub returns : goal.returns
returns c = all_of_end event_words event_tree _ c.args.events.now c.loop-event.event-index (omega arith) c.loop-event.invariant

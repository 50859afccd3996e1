use Rattle.std.proofs.Common.{ap, ◌∙◌}
use Rattle.name_table.specs.Numbers.{numbers_with}
use Rattle.script_reader.proofs.EventLemmas.{event_told, all_told}
use Rattle.script_reader.proofs.named.event_names.Goals as goal

pub loop-i-preserved : goal.loop-i-preserved
loop-i-preserved c =
    event_told c.args.events.now c.loop-i.i c.index-events-i.result c.loop-i.names c.note.new.self c.loop-i-test.true c.index-events-i.is c.loop-i.invariant
    (c.in_ok-note.ensures.ok ∙ ap (λ n. numbers_with c.loop-i.names n c.loop-i.i) c.bytes.ensures.bytes)

pub returns : goal.returns
returns c = all_told c.args.events.now c.loop-i.i c.loop-i.names c.loop-i-test.false c.loop-i.invariant

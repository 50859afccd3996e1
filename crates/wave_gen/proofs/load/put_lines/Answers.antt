use Rattle.wave_gen.proofs.PutLemmas.{drawn_more, drawn_all}
use Rattle.wave_gen.proofs.load.put_lines.Goals as goal

pub loop-preserved : goal.loop-preserved
loop-preserved c = drawn_more c.args.count c.loop.counter c.loop.draws.state c.draw.new.draws.state c.draw.result c.loop.out.items _ _ c.loop-test.true c.draw.ensures.line c.draw.ensures.state c.in_ok-put.ensures c.loop.invariant

pub returns : goal.returns
returns c = drawn_all c.args.count c.loop.counter c.loop.draws.state c.loop.out.items _ c.loop-test.false c.loop.invariant

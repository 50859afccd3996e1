use Rattle.service_compiler.proofs.FunctionLists.{numbers_next}
use Rattle.service_compiler.proofs.program.numbers.Goals as goal

pub loop-place-preserved : goal.loop-place-preserved
loop-place-preserved c = numbers_next c.args.first c.loop-place.place c.loop-place.numbers.items c.push.new.self.items c.loop-place.invariant c.in_ok-push.ensures.items

use Rattle.code_runner.proofs.Putting.{still_joined}
use Rattle.code_runner.proofs.records.join.Goals as goal

pub returns-clause-stays : goal.returns-clause-stays
returns-clause-stays c = λ p here. still_joined c.enter.result c.args.shape.now c.args.contexts.now c.enter.new.self c.args.path.now p c.enter.ensures.ok c.enter.ensures.err here

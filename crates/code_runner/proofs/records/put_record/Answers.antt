use Rattle.code_runner.proofs.Putting.{still_here}
use Rattle.code_runner.proofs.records.put_record.Goals as goal

pub returns-clause-stays : goal.returns-clause-stays
returns-clause-stays c = λ p here. still_here c.args.contexts.now c.exchange.new.self c.args.path.now p c.args.body.fields c.exchange.ensures.put here

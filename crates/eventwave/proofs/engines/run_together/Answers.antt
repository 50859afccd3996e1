use Rattle.eventwave.proofs.MadeLemmas.{made_together}
use Rattle.eventwave.proofs.engines.run_together.Goals as goal

pub returns-in-Ok-clause-made : goal.returns-in-Ok-clause-made
returns-in-Ok-clause-made g c = λ workers. made_together workers c.args.plan.now c.args.start.now c.in-Ok.done c.in-Ok.journal c.in-Ok.ensures.run

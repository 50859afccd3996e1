use Rattle.code_meaning.proofs.Meaning.{plan_means}
use Rattle.code_meaning.proofs.plans.plans_mean.Goals as goal

pub returns : goal.returns
returns c = λ service program start script code begins fits. plan_means service program code start script begins fits

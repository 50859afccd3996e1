use Rattle.code_meaning.proofs.Meaning.{plan_ends, plan_few}
use Rattle.code_meaning.proofs.plans.plans_end.Goals as goal

pub returns-clause-over : goal.returns-clause-over
returns-clause-over c = λ service program start script code begins fits. plan_ends service program code start script begins fits

pub returns-clause-few : goal.returns-clause-few
returns-clause-few c = λ service program start script code begins fits. plan_few service program code start script begins fits

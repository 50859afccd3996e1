use Rattle.wave_theory.proofs.laws.rules_pick.Goals as goal
use Rattle.wave_theory.proofs.Rules

pub returns : goal.returns
returns g c = let a = g.T.Acting in Rules.rules_pick a.Actor a.Fields a.Outcome a.Job

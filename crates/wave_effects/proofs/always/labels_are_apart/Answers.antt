use Rattle.plan_actors.proofs.Owing.{setting_of}
use Rattle.wave_effects.proofs.always.labels_are_apart.Goals as goal

pub returns-clause-independent : goal.returns-clause-independent
returns-clause-independent c = λ program fit verified. c.independent.ensures (setting_of program fit verified 1)

pub returns-clause-hands : goal.returns-clause-hands
returns-clause-hands c = λ program fit verified. c.hands_stay.ensures (setting_of program fit verified 1)

use Rattle.std.proofs.Common.{◌∙◌}
use Rattle.wave_effects.proofs.engine.Engine.into_finished.Goals as goal

pub returns-in-Ok-clause-told : goal.returns-in-Ok-clause-told
returns-in-Ok-clause-told c = λ start s stands. c.with.ensures ∙ c.in-Ok.ensures start s stands

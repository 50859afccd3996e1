use Rattle.std.proofs.Common.{◌∙◌, sym, ap}
use Rattle.wave_base.specs.Paths.{parent_of}
use Rattle.wave_theory.proofs.Paths.{parent_child}
use Rattle.wave_effects.proofs.leaving.parent_of.Goals as goal

pub returns-in-Some : goal.returns-in-Some
returns-in-Some c = sym (ap parent_of c.in-Some.ensures.some.1 ∙ parent_child c.in-Some.parent c.in-Some.ensures.some.0)

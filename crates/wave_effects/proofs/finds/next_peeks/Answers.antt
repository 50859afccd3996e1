use Rattle.std.proofs.Common.{◌∙◌, Bool, false, Option, Some, None, ap}
use Rattle.wave_states.specs.States.{Claim}
use Rattle.wave_effects.proofs.finds.next_peeks.Goals as goal

abbrev looks : Option Claim → Bool
looks None = false
looks (Some c) = c.peek

pub returns-in-Some : goal.returns-in-Some
returns-in-Some c = λ en claim h next. ap looks (c.in-Some.ensures.claim en h ∙ next)

pub returns-in-None : goal.returns-in-None
returns-in-None c = λ en claim h next. ap looks (c.in-None.ensures.claim en h ∙ next)

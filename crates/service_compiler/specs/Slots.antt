-- Slots have numbers of 16 bits: a loop over numbers has that of its counter, and behind it those of the bound and of the name.
use Rattle.std.specs.Prelude.{◌<◌, ◌+◌, ◌^◌, All}
use Rattle.resolved_service.specs.declared.service.Event.{Event}
use Rattle.resolved_service.specs.declared.service.Method.{Method}
use Rattle.resolved_service.specs.declared.service.Phase.{Phase}
use Rattle.resolved_service.specs.declared.service.Resolved.{Resolved}
use Rattle.resolved_service.specs.Steps.{Step, If, While, For, Steps, no_steps, step, Else, no_else, otherwise, steps_in}

abbrev mutual
  pub HasSlots : Step → Type 0
  HasSlots (If at test body other) = HaveSlots body × HasElseSlots other
  HasSlots (While at test body) = HaveSlots body
  HasSlots (For at counter from to body) = (counter + 2 < 2 ^ 16) × HaveSlots body
  HasSlots _ = Unit {0}

  pub HaveSlots : Steps → Type 0
  HaveSlots no_steps = Unit {0}
  HaveSlots (step s ss) = HasSlots s × HaveSlots ss

  pub HasElseSlots : Else → Type 0
  HasElseSlots no_else = Unit {0}
  HasElseSlots (otherwise ss) = HaveSlots ss

abbrev pub HasMethodSlots : Method → Type 0
HasMethodSlots m = HaveSlots (steps_in m.body)

pub record HasEventSlots (e : Event) : Type 0 where
  pub here : HaveSlots (steps_in e.here)
  pub phases : All (λ (f : Phase). HaveSlots (steps_in f.body)) e.phases

-- those of all loops of a service
pub record HasServiceSlots (service : Resolved) : Type 0 where
  pub methods : All HasMethodSlots service.methods
  pub events : All HasEventSlots service.events

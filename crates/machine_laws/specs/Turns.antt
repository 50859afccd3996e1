-- Calls of a machine that take a label, and two of them in either order.
use Rattle.std.specs.Prelude.{◌≡◌, ℕ}
use Rattle.wave_base.specs.declared.pause.Pause.{Pause}
use Rattle.wave_base.specs.declared.start.Start.{Start}
use Rattle.service_code.specs.declared.program.Program.{Program}
use Rattle.wave_states.specs.Labels.{Label}
use Rattle.plan_actors.specs.PlanActors.{plan_actors}
use Rattle.serial_runs.specs.Orders.{IsEnabled, LeadToOne, StandApart}
use Rattle.wave_effects.specs.declared.lease.Lease.{Lease}
use Rattle.wave_effects.specs.Machines as machines
use Rattle.wave_effects.specs.Machines.{Keeps, Kept, Stands, Takes, TheState}
use Rattle.wave_effects.specs.Running.{IsBack, IsStopping, Stops, stop_of}

-- `step` and `start` take a label; `stop` gives a lease back with its pause, and takes the lease's Stop at a host.
pub data Turn : Type 0 where
  Take : Label → Turn
  Give : Lease → Pause → ℕ → Turn

abbrev pub label_in : Turn → Label
label_in (Take l) = l
label_in (Give lease why host) = stop_of lease host

-- what is given back is what one segment gives on what its worker has in its hand
abbrev pub IsBackIn : Program → TheState → Turn → Type 0
IsBackIn program s (Take l) = Unit {0}
IsBackIn program s (Give lease why host) = IsBack program s lease why

-- the call's label is enabled in a state, and what it gives back is what a segment gives there
pub record MayTurn (m : Kept) (s : TheState) (t : Turn) : Type 0 where
  pub enabled : IsEnabled (plan_actors m.plan.program) m.plan.workers s (label_in t)
  pub back : IsBackIn m.plan.program s t

-- the same machine still, or what `reserve` made of it
pub record IsStill (m k : Kept) : Type 0 where
  pub keeps : Keeps m k
  pub plan : k.plan ≡ m.plan

-- what the call asks for
abbrev pub Allows : Kept → Turn → Type 0
Allows m (Take l) = machines.IsEnabled m l
Allows m (Give lease why host) = IsStopping m lease why

-- and what it makes of a machine, which runs the same plan
abbrev pub Makes : Kept → Turn → Kept → Type 0
Makes m (Take l) m' = Takes m m' l
Makes m (Give lease why host) m' = Stops m lease why host m'

pub record IsMade (m : Kept) (t : Turn) (m' : Kept) : Type 0 where
  pub makes : Makes m t m'
  pub plan : m'.plan ≡ m.plan

-- The one call and then the other, each with room made for it before, or without: each may be made, and whatever machine comes of both
-- stands for the state.
pub record InOrder (start : Start) (m : Kept) (t t' : Turn) (v : TheState) : Type 0 where
  pub first : (k : Kept) → IsStill m k → Allows k t
  pub second : (k m₁ k₁ : Kept) → IsStill m k → IsMade k t m₁ → IsStill m₁ k₁ → Allows k₁ t'
  pub stand : (k m₁ k₁ m₂ : Kept) → IsStill m k → IsMade k t m₁ → IsStill m₁ k₁ → IsMade k₁ t' m₂ → Stands m₂ start v

-- both orders of their labels are runs, which lead to one state; and in both orders the machine comes to stand for it
pub record InEitherOrder (start : Start) (s : TheState) (m : Kept) (t t' : Turn) : Type 0 where
  pub one : LeadToOne (plan_actors m.plan.program) m.plan.workers s (label_in t) (label_in t')
  pub here : InOrder start m t t' one.state
  pub there : InOrder start m t' t one.state

-- Either order. Of a machine and each state for which it stands: two calls that may be made there, and whose labels stand apart, may be
-- made in both orders, and in both the machine comes to stand for one state.
abbrev pub TurnsInEitherOrder : Type 0
TurnsInEitherOrder = (start : Start) (s : TheState) (m : Kept) (t t' : Turn) → Stands m start s → StandApart s (label_in t) (label_in t')
    → MayTurn m s t → MayTurn m s t' → InEitherOrder start s m t t'

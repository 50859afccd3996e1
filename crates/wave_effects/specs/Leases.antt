-- How a lease stands for what a worker has in its hand.
use Rattle.std.specs.Prelude.{◌≡◌}
use Rattle.wave_base.specs.declared.pause.Pause.{Pause}
use Rattle.service_code.specs.declared.program.Program.{Program}
use Rattle.context_queue.specs.Entries.{record_of}
use Rattle.wave_states.specs.States.{Hand}
use Rattle.code_actor.specs.CodeActors.{Fields}
use Rattle.plan_actors.specs.PlanActors as theory
use Rattle.wave_effects.specs.declared.lease.Lease.{Lease}
use Rattle.wave_effects.specs.Actors.{IsActor, HasActed}

module _ (program : Program) where
  -- the lease is what is in the hand
  pub record StandsFor (lease : Lease) (hand : Hand theory.Actor Fields) : Type 0 where
    pub ticket : hand.ticket ≡ lease.ticket.0
    pub path : hand.path ≡ lease.path
    pub actor : IsActor program lease.actor hand.actor
    pub body : hand.body ≡ record_of lease.body

  -- lease and pause are what one segment gives on what is in the hand
  pub record HasRun (hand : Hand theory.Actor Fields) (lease : Lease) (why : Pause) : Type 0 where
    pub ticket : hand.ticket ≡ lease.ticket.0
    pub path : hand.path ≡ lease.path
    pub acted : HasActed program hand.actor hand.body.fields hand.body.children lease.actor lease.body why

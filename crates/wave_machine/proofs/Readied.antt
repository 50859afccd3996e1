-- A machine for which all was made that a label asks for, before the label is taken.
use Rattle.std.proofs.Common.{◌≡◌, Some, sym, subst}
use Rattle.wave_states.specs.Labels as theory
use Rattle.wave_states.specs.Steps.{step}
use Rattle.plan_actors.specs.PlanActors.{plan_actors}
use Rattle.wave_effects.specs.declared.lease.Lease.{Lease}
use Rattle.wave_effects.specs.Machines.{IsEnabled, Keeps, Kept, Takes}
use Rattle.wave_effects.specs.Running.{IsInHand, Leases}

module _ (m k : Kept) (keeps : Keeps m k) (plan : k.plan ≡ m.plan) where
  pub enabled_still : (l : theory.Label) → IsEnabled m l → IsEnabled k l
  enabled_still l on = record {
    start = on.start;
    state = on.state;
    next = on.next;
    stands = keeps on.start on.state on.stands;
    enabled = subst (λ p. step (plan_actors p.program) p.workers on.state l ≡ Some on.next) (sym plan) on.enabled;
  }

  pub takes_still : (m' : Kept) (l : theory.Label) → Takes k m' l → Takes m m' l
  takes_still m' l takes start s s' stands e = takes start s s' (keeps start s stands) (subst (λ p. step (plan_actors p.program) p.workers s l ≡ Some s') (sym plan) e)

  pub leases_still : (l : theory.Label) (lease : Lease) → Leases k l lease → Leases m l lease
  leases_still l lease leases start s s' stands e =
      subst (λ p. IsInHand p.program lease (s'.hands l.worker)) plan (leases start s s' (keeps start s stands) (subst (λ p. step (plan_actors p.program) p.workers s l ≡ Some s') (sym plan) e))

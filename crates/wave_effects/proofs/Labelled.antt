-- A label as programs have it, and the act that it is.
use Rattle.std.proofs.Common.{◌≡◌, ℕ, sym, subst}
use Rattle.wave_base.specs.declared.pause.Pause.{Pause}
use Rattle.wave_labels.specs.declared.label.Act.{Act}
use Rattle.wave_labels.specs.declared.label.Label.{Label}
use Rattle.wave_labels.specs.Labels.{act_of, label_of}
use Rattle.wave_states.specs.Steps.{step}
use Rattle.plan_actors.specs.PlanActors.{plan_actors}
use Rattle.wave_effects.specs.declared.lease.Lease.{Lease}
use Rattle.wave_effects.specs.Machines.{Kept, IsEnabled, Keeps, Takes, IsStood}
use Rattle.wave_effects.specs.Running.{CanStop, IsStopping, Leases, Stops, stop_of}
use Rattle.wave_effects.specs.Apart.{Moves}
use Rattle.wave_effects.proofs.Queueing.{some_is}

module _ (m m' : Kept) (l : Label) (a : Act) (is : l.act ≡ a) where
  pub takes_it : Takes m m' (record { worker = l.worker.0; host = l.host.0; act = act_of a }) → Takes m m' (label_of l)
  takes_it h = subst (λ x. Takes m m' (record { worker = l.worker.0; host = l.host.0; act = act_of x })) (sym is) h

  pub moves_it : (more : ℕ) → Moves m m' (record { worker = l.worker.0; host = l.host.0; act = act_of a }) more → Moves m m' (label_of l) more
  moves_it more h = subst (λ x. Moves m m' (record { worker = l.worker.0; host = l.host.0; act = act_of x }) more) (sym is) h

  pub leases_it : (lease : Lease) → Leases m (record { worker = l.worker.0; host = l.host.0; act = act_of a }) lease → Leases m (label_of l) lease
  leases_it lease h = subst (λ x. Leases m (record { worker = l.worker.0; host = l.host.0; act = act_of x }) lease) (sym is) h

-- a label that is taken leads to a state for which the machine stands
pub stood_after : (m m' : Kept) (l : Label) → IsEnabled m (label_of l) → Takes m m' (label_of l) → IsStood m'
stood_after m m' l on takes = record { start = on.start; state = on.next; stands = takes on.start on.state on.next on.stands on.enabled }

pub stood_kept : (m m' : Kept) → IsStood m → Keeps m m' → IsStood m'
stood_kept m m' on keeps = record { start = on.start; state = on.state; stands = keeps on.start on.state on.stands }

-- and so does a Stop
pub stood_stopped : (m m' : Kept) (lease : Lease) (why : Pause) (host : ℕ) → IsStopping m lease why → CanStop m lease why host → Stops m lease why host m' → IsStood m'
stood_stopped m m' lease why host on can stops =
    let next = some_is (step (plan_actors m.plan.program) m.plan.workers on.state (stop_of lease host)) (can on.start on.state on.stands on.back) in
    record { start = on.start; state = next.0; stands = stops on.start on.state next.0 on.stands on.back next.1 }

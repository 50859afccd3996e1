-- What a worker's pass knows in a round.
use Rattle.std.proofs.Common.{◌≡◌, ◌∙◌, Option, Some, None, refl, sym, subst}
use Rattle.wave_base.specs.declared.numbers.Worker.{Worker}
use Rattle.wave_base.specs.declared.pause.Pause.{Pause}
use Rattle.kept_lock.specs.declared.view.Known.{Known}
use Rattle.code_actor.specs.CodeActors.{Fields}
use Rattle.wave_states.specs.States.{Hand}
use Rattle.plan_actors.specs.PlanActors as theory
use Rattle.wave_effects.specs.declared.lease.Lease.{Lease}
use Rattle.wave_effects.specs.declared.plan.Plan.{Plan}
use Rattle.wave_effects.specs.Leases as leases
use Rattle.wave_effects.specs.Running.{IsInHand}
use Rattle.wave_board.specs.declared.origin.Origin.{Origin}
use Rattle.wave_board.specs.declared.trail.Trail.{Trail}
use Rattle.host_workers.specs.Passes.{IsReady}
use Rattle.host_workers.specs.inner.Rounds.{HasLease, HasPaused, IsCalm}

pub is_calm : (o : Origin) (k : Known Trail) (w : Worker) → IsReady o k w → IsCalm o k w
is_calm o k w ready = record { number = ready.number; no_halts = ready.no_halts }

module _ (o : Origin) (k : Known Trail) (w : Worker) (lease : Lease) (leased : HasLease o k w lease) where
  -- what ran on the lease may be given back
  pub paused : (plan : Plan) → o.plan.now ≡ plan → (lease' : Lease) (why : Pause) → lease'.worker ≡ lease.worker
      → ((hand : Hand theory.Actor Fields) → leases.StandsFor plan.program lease hand → leases.HasRun plan.program hand lease' why) → HasPaused o k w lease' why
  paused plan plan_is lease' why same ran = by_hand (leased.out.state.hands w.0) refl leased.in_hand
    where
      mine : lease'.worker ≡ w
      mine = same ∙ leased.worker_is

      by_hand : (h : Option (Hand theory.Actor Fields)) → leased.out.state.hands w.0 ≡ h → IsInHand o.plan.now.program lease h → HasPaused o k w lease' why
      by_hand None e held = absurd held
      by_hand (Some hand) e held = record {
        out = leased.out;
        worker_is = mine;
        back = record {
          hand = hand;
          there = subst (λ (v : Worker). leased.out.state.hands v.0 ≡ Some hand) (sym mine) e;
          run = subst (λ (p : Plan). leases.HasRun p.program hand lease' why) (sym plan_is) (ran hand (subst (λ (p : Plan). leases.StandsFor p.program lease hand) plan_is held));
        };
      }

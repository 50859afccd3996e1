-- A label that is listed can be taken, and the end of a segment that was run can be.
use Rattle.std.proofs.Common.{◌≡◌, ◌∙◌, inl, List, [], ◌∷◌, map, Option, Some, None, refl, sym, ap, subst}
use Rattle.std.specs.Prelude.{slice_get}
use Rattle.wave_base.specs.declared.pause.Pause.{Pause}
use Rattle.wave_labels.specs.declared.label.Label as program
use Rattle.wave_labels.specs.Labels.{label_of}
use Rattle.wave_states.specs.Canonical.{enabled_labels}
use Rattle.wave_states.specs.Labels.{Label}
use Rattle.wave_states.specs.States.{Hand}
use Rattle.wave_states.specs.Steps.{step}
use Rattle.wave_theory.proofs.Basics.{none_not, some_same}
use Rattle.wave_theory.proofs.Frames.{option_some}
use Rattle.wave_theory.specs.Listed.{IsIn, Listed}
use Rattle.code_actor.specs.CodeActors.{Fields}
use Rattle.plan_actors.specs.PlanActors as actors
use Rattle.plan_actors.specs.PlanActors.{plan_actors, plan_kind}
use Rattle.plan_actors.specs.Plans.{Plan, begin_in}
use Rattle.wave_effects.specs.declared.lease.Lease.{Lease}
use Rattle.wave_effects.specs.Leases.{HasRun, StandsFor}
use Rattle.wave_effects.specs.Machines.{IsEnabled, Kept, Takes, IsStood}
use Rattle.wave_effects.specs.Running.{IsInHand, IsStopping, Leases}

-- the first of the canonical list can be taken
pub first_enabled : (m : Kept) (ls : List program.Label) (l : program.Label) (on : IsStood m) → map label_of ls ≡ enabled_labels (plan_actors m.plan.program) m.plan.workers m.plan.script.hosts on.state → slice_get ls 0 ≡ Some l
    → Listed (plan_kind m.plan.program m.plan.script.hosts) m.plan.workers (begin_in m.plan on.start) m.plan.script.batches on.state → IsEnabled m (label_of l)
first_enabled m [] l on same at listed = absurd (none_not at)
first_enabled m (x ∷ ls) l on same at listed =
    let is : label_of x ≡ label_of l = ap label_of (some_same x l at) in
    let there : IsIn (enabled_labels (plan_actors m.plan.program) m.plan.workers m.plan.script.hosts on.state) (label_of l) = subst (λ (xs : List Label). IsIn xs (label_of l)) same (inl is) in
    let next = option_some (step (plan_actors m.plan.program) m.plan.workers on.state (label_of l)) ((listed (label_of l)).0 there).0 in
    record { start = on.start; state = on.state; next = next.0; stands = on.stands; enabled = next.1 }

-- lease and pause of a segment that was run as soon as it began can be stopped
module _ (m m' : Kept) (l : Label) (lease left : Lease) (why : Pause) (on : IsEnabled m l) (plan : m'.plan ≡ m.plan) (worker : left.worker.0 ≡ l.worker) (ran : (hand : Hand actors.Actor Fields) → StandsFor m.plan.program lease hand → HasRun m.plan.program hand left why) where
  pub is_stopping : Takes m m' l → Leases m l lease → IsStopping m' left why
  is_stopping takes leases = by_hand (on.next.hands l.worker) refl (leases on.start on.state on.next on.stands on.enabled)
    where
      by_hand : (o : Option (Hand actors.Actor Fields)) → on.next.hands l.worker ≡ o → IsInHand m.plan.program lease o → IsStopping m' left why
      by_hand None at h = absurd h
      by_hand (Some hand) at h = record {
        start = on.start;
        state = on.next;
        stands = takes on.start on.state on.next on.stands on.enabled;
        back = record { hand = hand; there = ap on.next.hands worker ∙ at; run = subst (λ (p : Plan). HasRun p.program hand left why) (sym plan) (ran hand h) };
      }

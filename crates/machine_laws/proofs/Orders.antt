-- Two calls of a machine in either order: what a segment gave stays so while another label is taken, and so each call leads on.
use Rattle.std.proofs.Common.{◌≡◌, ◌≢◌, ℕ, Some, [], ◌∷◌, sym, ◌∙◌, subst}
use Rattle.wave_base.specs.declared.start.Start.{Start}
use Rattle.wave_states.specs.Actors.{Actors}
use Rattle.wave_states.specs.States.{State}
use Rattle.wave_states.specs.Labels.{Label, ticket_of}
use Rattle.wave_states.specs.Steps.{step}
use Rattle.wave_states.specs.Runs.{run}
use Rattle.wave_theory.specs.Hands.{HandsStay}
use Rattle.wave_theory.proofs.Basics.{some_same, then_some}
use Rattle.plan_actors.specs.PlanActors.{plan_actors}
use Rattle.plan_actors.specs.Plans.{Plan}
use Rattle.serial_runs.specs.Orders.{EitherOrder, StandApart}
use Rattle.wave_effects.specs.Machines.{Kept, Stands, TheState}
use Rattle.machine_laws.specs.Turns.{Allows, InEitherOrder, InOrder, IsBackIn, IsMade, IsStill, MayTurn, Turn, Take, Give, label_in}
use Rattle.machine_laws.proofs.Hands.{busy}

-- a machine stands for a state in which the call's label leads on, and what it gives back is what a segment gives there
record IsReady (m : Kept) (start : Start) (s v : TheState) (t : Turn) : Type 0 where
  stands : Stands m start s
  enabled : step (plan_actors m.plan.program) m.plan.workers s (label_in t) ≡ Some v
  back : IsBackIn m.plan.program s t

over : (m k : Kept) (start : Start) (s v : TheState) (t : Turn) → k.plan ≡ m.plan → Stands k start s → step (plan_actors m.plan.program) m.plan.workers s (label_in t) ≡ Some v → IsBackIn m.plan.program s t → IsReady k start s v t
over m k start s v t same stands e back = record {
  stands = stands;
  enabled = subst (λ (p : Plan). step (plan_actors p.program) p.workers s (label_in t) ≡ Some v) (sym same) e;
  back = subst (λ (p : Plan). IsBackIn p.program s t) (sym same) back;
}

still : (m k : Kept) (start : Start) (s v : TheState) (t : Turn) → IsStill m k → IsReady m start s v t → IsReady k start s v t
still m k start s v t h r = over m k start s v t h.plan (h.keeps start s r.stands) r.enabled r.back

-- the call may be made of it
allows : (m : Kept) (start : Start) (s v : TheState) (t : Turn) → IsReady m start s v t → Allows m t
allows m start s v (Take l) r = record { start = start; state = s; next = v; stands = r.stands; enabled = r.enabled }
allows m start s v (Give lease why host) r = record { start = start; state = s; stands = r.stands; back = r.back }

-- and what comes of that stands for the state to which the label leads
leads : (m m' : Kept) (start : Start) (s v : TheState) (t : Turn) → IsMade m t m' → IsReady m start s v t → Stands m' start v
leads m m' start s v (Take l) made r = made.makes start s v r.stands r.enabled
leads m m' start s v (Give lease why host) made r = made.makes start s v r.stands r.back r.enabled

-- a label of another ticket leaves in a worker's hand what its segment was run on
stays_back : (plan : Plan) (s s₁ : TheState) (l : Label) (t : Turn) → HandsStay (plan_actors plan.program) → ticket_of l.act ≢ ticket_of (label_in t).act
    → step (plan_actors plan.program) plan.workers s l ≡ Some s₁ → IsBackIn plan.program s t → IsBackIn plan.program s₁ t
stays_back plan s s₁ l (Take l') stay apart e back = tt
stays_back plan s s₁ l (Give lease why host) stay apart e back = record {
  hand = back.hand;
  there = stay plan.workers s s₁ l lease.worker.0 e other ∙ back.there;
  run = back.run;
}
  where
    other : lease.worker.0 ≢ l.worker
    other same = apart (sym (busy (plan_actors plan.program) plan.workers s s₁ l back.hand (subst (λ w. s.hands w ≡ Some back.hand) same back.there) e) ∙ back.run.ticket)

in_order : (start : Start) (s s₁ v : TheState) (m : Kept) (t t' : Turn) → IsReady m start s s₁ t
    → step (plan_actors m.plan.program) m.plan.workers s₁ (label_in t') ≡ Some v → IsBackIn m.plan.program s₁ t' → InOrder start m t t' v
in_order start s s₁ v m t t' r e back = record {
  first = λ k h. allows k start s s₁ t (still m k start s s₁ t h r);
  second = λ k m₁ k₁ h made h₁. allows k₁ start s₁ v t' (after k m₁ k₁ h made h₁);
  stand = λ k m₁ k₁ m₂ h made h₁ made₁. leads k₁ m₂ start s₁ v t' made₁ (after k m₁ k₁ h made h₁);
}
  where
    after : (k m₁ k₁ : Kept) → IsStill m k → IsMade k t m₁ → IsStill m₁ k₁ → IsReady k₁ start s₁ v t'
    after k m₁ k₁ h made h₁ =
        still m₁ k₁ start s₁ v t' h₁ (over m m₁ start s₁ v t' (made.plan ∙ h.plan) (leads k m₁ start s s₁ t made (still m k start s s₁ t h r)) e back)

-- after the first of two labels comes the second
second_of : {A F R J : Type 0} (sys : Actors A F R J) (workers : ℕ) (s s₁ v : State A F R J) (l l' : Label) → run sys workers s (l ∷ l' ∷ []) ≡ Some v → step sys workers s l ≡ Some s₁ → step sys workers s₁ l' ≡ Some v
unfolding run
second_of sys workers s s₁ v l l' r e =
    let x = then_some (λ z. run sys workers z (l' ∷ [])) (step sys workers s l) v r in
    let y = then_some (λ z. run sys workers z []) (step sys workers x.0 l') v x.2 in
    subst (λ u. step sys workers s₁ l' ≡ Some u) (some_same y.0 v y.2) (subst (λ u. step sys workers u l' ≡ Some y.0) (some_same x.0 s₁ (sym x.1 ∙ e)) y.1)

pub either : (start : Start) (s : TheState) (m : Kept) (t t' : Turn) → Stands m start s → StandApart s (label_in t) (label_in t') → MayTurn m s t → MayTurn m s t'
    → HandsStay (plan_actors m.plan.program) → EitherOrder (plan_actors m.plan.program) m.plan.workers s → InEitherOrder start s m t t'
either start s m t t' stands apart may may' stay orders =
    let sys = plan_actors m.plan.program in
    let workers = m.plan.workers in
    let one = orders (label_in t) (label_in t') apart may.enabled may'.enabled in
    let s₁ = may.enabled.0 in
    let s₂ = may'.enabled.0 in
    let e = may.enabled.1 in
    let e' = may'.enabled.1 in
    record {
      one = one;
      here = in_order start s s₁ one.state m t t' (record { stands = stands; enabled = e; back = may.back }) (second_of sys workers s s₁ one.state (label_in t) (label_in t') one.first e)
          (stays_back m.plan s s₁ (label_in t) t' stay apart.tickets e may'.back);
      there = in_order start s s₂ one.state m t' t (record { stands = stands; enabled = e'; back = may'.back }) (second_of sys workers s s₂ one.state (label_in t') (label_in t) one.second e')
          (stays_back m.plan s s₂ (label_in t') t stay (λ z. apart.tickets (sym z)) e' may.back);
    }

-- Two labels that machines take in either order.
use Rattle.std.specs.Prelude.{◌≡◌, ◌≢◌, ◌⊎◌, true, false, Some}
use Rattle.wave_base.specs.declared.start.Start.{Start}
use Rattle.wave_states.specs.Labels.{Label, is_local, is_start, path_of, ticket_of}
use Rattle.wave_states.specs.Steps.{step}
use Rattle.wave_theory.specs.Independent.{IsLight}
use Rattle.plan_actors.specs.PlanActors.{plan_actors}
use Rattle.wave_effects.specs.Machines.{Kept, Stands, TheState}

-- neither is an Admit or a Commit; their tickets differ; so do their workers, or neither is a Start; and so do their contexts, or both only
-- look at one
pub record AreApart (s : TheState) (l l' : Label) : Type 0 where
  pub on_context : is_local l.act ≡ true
  pub on_context' : is_local l'.act ≡ true
  pub tickets : ticket_of l.act ≢ ticket_of l'.act
  pub workers : (l.worker ≢ l'.worker) ⊎ ((is_start l.act ≡ false) × (is_start l'.act ≡ false))
  pub contexts : (path_of l.act ≢ path_of l'.act) ⊎ (IsLight s l.act × IsLight s l'.act)

-- in this state, for which the one machine stands, the label can be taken, and the other machine stands for the state that it leads to
pub record Turns (start : Start) (s : TheState) (m : Kept) (l : Label) (m' : Kept) : Type 0 where
  pub next : TheState
  pub leads : step (plan_actors m.plan.program) m.plan.workers s l ≡ Some next
  pub stands : Stands m' start next
  pub plan : m'.plan ≡ m.plan

-- what a machine becomes by a label in a state in which it is enabled
abbrev pub TakesIn : Start → TheState → Kept → Label → Kept → Type 0
TakesIn start s m l m' = (s' : TheState) → step (plan_actors m.plan.program) m.plan.workers s l ≡ Some s' → Stands m' start s'

-- Either order. Of two such labels each stays enabled once the other is taken, and in either order the machines come to stand for one state.
abbrev pub EitherOrder : Type 0
EitherOrder = (start : Start) (s : TheState) (m m₁ m₂ : Kept) (l l' : Label) → Stands m start s → AreApart s l l'
    → (first : Turns start s m l m₁) (second : Turns start s m l' m₂)
    → (v : TheState) × (step (plan_actors m.plan.program) m.plan.workers first.next l' ≡ Some v) × (step (plan_actors m.plan.program) m.plan.workers second.next l ≡ Some v)
    × ((m₁₂ m₂₁ : Kept) → TakesIn start first.next m₁ l' m₁₂ → TakesIn start second.next m₂ l m₂₁ → Stands m₁₂ start v × Stands m₂₁ start v)

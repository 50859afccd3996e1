-- Two labels that can be taken in either order.
use Rattle.std.specs.Prelude.{◌≡◌, ◌≢◌, ◌⊎◌, ℕ, true, false, Some}
use Rattle.wave_base.specs.declared.path.Path.{Path}
use Rattle.wave_states.specs.Actors.{Actors}
use Rattle.wave_states.specs.States.{State, Event, holds_as_peek}
use Rattle.wave_states.specs.Labels.{Act, Label, Start, Stop, Free, ticket_of, path_of, is_local, is_start}
use Rattle.wave_states.specs.Steps.{step}

module _ {A F R J : Type 0} where
  -- its event holds the path as a peek
  pub record Peeks (s : State A F R J) (t : ℕ) (p : Path) : Type 0 where
    pub event : Event A
    pub is_event : (s.cells t).event ≡ Some event
    pub peek : holds_as_peek event.held p ≡ true

  -- what a ticket among the peeks of an entry can do there: start and stop, while its event holds the context as a peek, and then
  -- free it
  abbrev pub IsLight : State A F R J → Act → Type 0
  IsLight s (Start t p) = Peeks s t p
  IsLight s (Stop t p) = Peeks s t p
  IsLight s (Free t k p) = Unit {0}
  IsLight s _ = ⊥

module _ {A F R J : Type 0} (sys : Actors A F R J) where
  -- both orders are runs, and give one state
  pub record Both (workers : ℕ) (s s₁ s₂ : State A F R J) (l l' : Label) : Type 0 where
    pub state : State A F R J
    pub there : step sys workers s₁ l' ≡ Some state
    pub here : step sys workers s₂ l ≡ Some state

  -- Two enabled labels, neither Admit nor Commit, of different tickets; by different workers, or neither a Start; on different
  -- contexts, or such as tickets among the peeks of one entry can do there.
  abbrev pub Independent : Type 0
  Independent = (workers : ℕ) (s s₁ s₂ : State A F R J) (l l' : Label) → is_local l.act ≡ true → is_local l'.act ≡ true →
      ticket_of l.act ≢ ticket_of l'.act →
      (l.worker ≢ l'.worker) ⊎ ((is_start l.act ≡ false) × (is_start l'.act ≡ false)) →
      (path_of l.act ≢ path_of l'.act) ⊎ (IsLight s l.act × IsLight s l'.act) →
      step sys workers s l ≡ Some s₁ → step sys workers s l' ≡ Some s₂ → Both workers s s₁ s₂ l l'

-- Two labels that can be taken in either order, and neighbours of a journal that can change places.
use Rattle.std.specs.Prelude.{◌≡◌, ◌≢◌, ◌⊎◌, ℕ, true, false, List, [], ◌∷◌, ◌++◌, Some}
use Rattle.wave_states.specs.Actors.{Actors}
use Rattle.wave_states.specs.States.{State}
use Rattle.wave_states.specs.Labels.{Label, is_local, is_start, is_stop, path_of, ticket_of}
use Rattle.wave_states.specs.Steps.{step}
use Rattle.wave_states.specs.Runs.{run}
use Rattle.wave_theory.specs.Independent.{IsLight}

module _ {A F R J : Type 0} where
  -- Two labels stand apart: they are of different tickets; by different workers, or neither is a Start; and on different contexts, or
  -- such as tickets among the peeks of one entry can do there. An Admit and a Commit are on no context.
  pub record StandApart (s : State A F R J) (l l' : Label) : Type 0 where
    pub tickets : ticket_of l.act ≢ ticket_of l'.act
    pub workers : (l.worker ≢ l'.worker) ⊎ ((is_start l.act ≡ false) × (is_start l'.act ≡ false))
    pub contexts : is_local l.act ≡ true → is_local l'.act ≡ true → (path_of l.act ≢ path_of l'.act) ⊎ (IsLight s l.act × IsLight s l'.act)

-- Two labels are strangers: they are of different tickets; by different workers, or neither is a Start or a Stop; on different contexts;
-- and one of them at least is on one.
pub record AreStrangers (l l' : Label) : Type 0 where
  pub tickets : ticket_of l.act ≢ ticket_of l'.act
  pub workers : (l.worker ≢ l'.worker) ⊎ ((is_start l.act ≡ false) × (is_stop l.act ≡ false) × (is_start l'.act ≡ false) × (is_stop l'.act ≡ false))
  pub contexts : is_local l.act ≡ true → is_local l'.act ≡ true → path_of l.act ≢ path_of l'.act
  pub one : (is_local l.act ≡ true) ⊎ (is_local l'.act ≡ true)

module _ {A F R J : Type 0} (sys : Actors A F R J) (workers : ℕ) where
  abbrev pub IsEnabled : State A F R J → Label → Type 0
  IsEnabled s l = (v : State A F R J) × (step sys workers s l ≡ Some v)

  -- both orders are runs, and lead to one state
  pub record LeadToOne (s : State A F R J) (l l' : Label) : Type 0 where
    pub state : State A F R J
    pub first : run sys workers s (l ∷ l' ∷ []) ≡ Some state
    pub second : run sys workers s (l' ∷ l ∷ []) ≡ Some state

  -- Either order. Two enabled labels that stand apart can be taken in both orders, which lead to one state.
  abbrev pub EitherOrder : State A F R J → Type 0
  EitherOrder s = (l l' : Label) → StandApart s l l' → IsEnabled s l → IsEnabled s l' → LeadToOne s l l'

  -- Neighbours change places. Where two strangers stand side by side in a run, the same run with these two in the other order leads to
  -- the same state.
  abbrev pub NeighboursChange : State A F R J → List Label → State A F R J → Type 0
  NeighboursChange s labels v = (before after : List Label) (l l' : Label) → labels ≡ before ++ l ∷ l' ∷ after → AreStrangers l l' → run sys workers s (before ++ l' ∷ l ∷ after) ≡ Some v

-- What is committed, and which jobs have which tickets.
use Rattle.std.specs.Prelude.{◌≡◌, ◌<◌, ◌≤◌, ◌+◌, ℕ, suc, List, Some, slice_get}
use Rattle.wave_states.specs.Kinds.{Kind}
use Rattle.wave_states.specs.States.{State}
use Rattle.wave_states.specs.Begins.{Begin}
use Rattle.wave_theory.specs.Always.{fold}

module _ {A F R J : Type 0} (kind : Kind A F R J) (b : Begin F) (batches : List (List J)) where
  -- Results. The committed results are the first ones of the fold, however far it goes on.
  abbrev pub Results : State A F R J → Type 0
  Results s = (n i : ℕ) → s.head.done ≤ n → i < s.head.done → (r : R) × ((s.cells (suc b.before + i)).result ≡ Some r) × (slice_get (fold kind b batches n).results i ≡ Some r)

  -- Tickets. The known jobs, in the order of their tickets, and the batches that have not begun are those of the fold kind b batches after the
  -- committed jobs; and each keeps its ticket however far the fold kind b batches goes on.
  pub record Tickets (s : State A F R J) : Type 0 where
    pub head_is : s.head ≡ (fold kind b batches s.head.done).head
    pub stay : (n i : ℕ) (j : J) → s.head.done ≤ n → slice_get s.head.known i ≡ Some j → slice_get (fold kind b batches n).head.known i ≡ Some j
    pub in_time : s.head.done ≤ s.admitted

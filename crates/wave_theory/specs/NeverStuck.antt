-- A younger ticket never keeps an older one from going on.
use Rattle.std.specs.Prelude.{◌≡◌, ◌⊎◌, ◌<◌, ◌≤◌, ◌+◌, ℕ, suc, true, List, Some, None, is_some}
use Rattle.wave_states.specs.Actors.{Actors}
use Rattle.wave_states.specs.Kinds.{Kind}
use Rattle.wave_states.specs.States.{State, Hand}
use Rattle.wave_states.specs.Labels.{Act, ticket_of}
use Rattle.wave_states.specs.Steps.{step}
use Rattle.wave_states.specs.Alone.{fold_alone}
use Rattle.wave_states.specs.Begins.{Begin}

module _ {A F R J : Type 0} where
  -- a segment of the ticket is out
  pub record IsOut (s : State A F R J) (ticket : ℕ) : Type 0 where
    pub worker : ℕ
    pub hand : Hand A F
    pub there : s.hands worker ≡ Some hand
    pub of_ticket : hand.ticket ≡ ticket

module _ {A F R J : Type 0} (sys : Actors A F R J) where
  -- the worker can take a label of the ticket; a label that takes a mail is of the mail's ticket
  pub record CanTake (workers : ℕ) (s : State A F R J) (worker ticket : ℕ) : Type 0 where
    pub host : ℕ
    pub act : Act
    pub of_ticket : ticket_of act ≡ ticket
    pub enabled : is_some (step sys workers s (record { worker = worker; host = host; act = act })) ≡ true

module _ {A F R J : Type 0} (kind : Kind A F R J) where
  -- Never behind a younger one. Where some job of the fold isn't committed and a worker is idle, that worker can take a label of the
  -- first uncommitted ticket or of one before it, or a segment of such a ticket is out.
  abbrev pub NeverStuck : ℕ → Begin F → List (List J) → State A F R J → Type 0
  NeverStuck workers b batches s = (worker n : ℕ) → worker < workers → s.hands worker ≡ None → s.head.done < (fold_alone kind.system b batches n).head.done →
      (ticket : ℕ) × (ticket ≤ suc (b.before + s.head.done)) × (CanTake kind.system workers s worker ticket ⊎ IsOut s ticket)

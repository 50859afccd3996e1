-- What a label reads of a state, and what it changes.
use Rattle.std.specs.Prelude.{◌≡◌, ◌≢◌, ℕ, true, false, Some, None}
use Rattle.wave_base.specs.declared.path.Path.{Path}
use Rattle.wave_states.specs.Actors.{Actors}
use Rattle.wave_states.specs.States.{State}
use Rattle.wave_states.specs.Labels.{Label, ticket_of, path_of, is_local}
use Rattle.wave_states.specs.Steps.{step}

module _ {A F R J : Type 0} where
  -- Two states have the same for a label: its ticket's cell and its worker's hand; if it is on a context, that context's column; and
  -- else, for an Admit or a Commit, the head and the counts.
  pub record SameFor (l : Label) (s v : State A F R J) : Type 0 where
    pub cell : v.cells (ticket_of l.act) ≡ s.cells (ticket_of l.act)
    pub hand : v.hands l.worker ≡ s.hands l.worker
    pub column : is_local l.act ≡ true → v.columns (path_of l.act) ≡ s.columns (path_of l.act)
    pub head : is_local l.act ≡ false → v.head ≡ s.head
    pub counts : is_local l.act ≡ false → (v.before ≡ s.before) × (v.admitted ≡ s.admitted)

  -- all else is the same
  pub record SameElse (l : Label) (s v : State A F R J) : Type 0 where
    pub cells : (t : ℕ) → t ≢ ticket_of l.act → v.cells t ≡ s.cells t
    pub hands : (w : ℕ) → w ≢ l.worker → v.hands w ≡ s.hands w
    pub columns : (p : Path) → (is_local l.act ≡ true → p ≢ path_of l.act) → v.columns p ≡ s.columns p
    pub head : is_local l.act ≡ true → v.head ≡ s.head
    pub admitted : is_local l.act ≡ true → v.admitted ≡ s.admitted
    pub before : v.before ≡ s.before

module _ {A F R J : Type 0} (sys : Actors A F R J) where
  -- Reads. Whether a label is enabled, and what it leaves, is the same in states that have the same for it.
  pub record Reads : Type 0 where
    pub refused : (workers : ℕ) (s v : State A F R J) (l : Label) → SameFor l s v → step sys workers s l ≡ None → step sys workers v l ≡ None
    pub taken : (workers : ℕ) (s s' v : State A F R J) (l : Label) → SameFor l s v → step sys workers s l ≡ Some s' → (v' : State A F R J) × (step sys workers v l ≡ Some v') × SameFor l s' v'

  -- Changes. And it changes nothing else.
  abbrev pub Changes : Type 0
  Changes = (workers : ℕ) (s v : State A F R J) (l : Label) → step sys workers s l ≡ Some v → SameElse l s v

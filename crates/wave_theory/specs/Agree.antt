-- In what the parts of a state agree: mails with the entries that they go to, results with events, records with who holds them.
use Rattle.std.specs.Prelude.{◌≡◌, ◌<◌, ◌↔◌, ◌⊎◌, ℕ, Bool, true, false, List, [], ◌∷◌, Some, None, is_some}
use Rattle.wave_base.specs.declared.path.Path.{Path}
use Rattle.wave_states.specs.Kinds.{Kind}
use Rattle.wave_states.specs.States.{State, Ask, Claim, Entry, Event, Hand, Mail, Ended, Enter, Visit, Back, Release, Transfer}
use Rattle.wave_states.specs.Begins.{Begin}
use Rattle.wave_theory.specs.Numbers.{HasEntry}
use Rattle.wave_theory.specs.Listed.{IsIn}

-- the ticket is among those that hold it
abbrev pub IsHolder : {F : Type 0} → Entry F → ℕ → Type 0
IsHolder en t = (peek : Bool) × IsIn en.holders (record { ticket = t; peek = peek })

module _ {A F R J : Type 0} where
  -- a worker has the record in its hand, and its ticket holds the context and doesn't only look
  pub record IsAway (s : State A F R J) (p : Path) (en : Entry F) : Type 0 where
    pub worker : ℕ
    pub hand : Hand A F
    pub there : s.hands worker ≡ Some hand
    pub path_is : hand.path ≡ p
    pub holds : IsIn en.holders (record { ticket = hand.ticket; peek = false })

module _ {A F R J : Type 0} (kind : Kind A F R J) where
  pub record Agree (b : Begin F) (batches : List (List J)) (s : State A F R J) : Type 0 where
    -- An Enter's number is above those that were served, and nobody waits under it.
    pub enters : (t k : ℕ) (m : Mail F) (a : Ask) (en : Entry F) → (s.cells t).mails k ≡ Some m → m.letter ≡ Enter a → HasEntry s m.path en → (en.served < a.number) × (en.waiting a.number ≡ None)
    -- A Visit or Back comes to a context that its host has, and that its ticket holds.
    pub comings : (t k : ℕ) (m : Mail F) → (s.cells t).mails k ≡ Some m → (m.letter ≡ Visit) ⊎ (m.letter ≡ Back) → (en : Entry F) × ((s.columns m.path).store m.host ≡ Some en) × IsHolder en t
    -- And so does a Release.
    pub releases : (t k : ℕ) (m : Mail F) → (s.cells t).mails k ≡ Some m → m.letter ≡ Release → (en : Entry F) × ((s.columns m.path).store m.host ≡ Some en) × IsHolder en t
    -- An entry in a Transfer is in no store, and has its record; its ticket alone holds it.
    pub transfers : (t k : ℕ) (m : Mail F) (en : Entry F) → (s.cells t).mails k ≡ Some m → m.letter ≡ Transfer en → ((host : ℕ) → (s.columns m.path).store host ≡ None) × (is_some en.body ≡ true) × (en.holders ≡ record { ticket = t; peek = false } ∷ [])
    -- An event has a result exactly where it has ended.
    pub ended : (t : ℕ) (event : Event A) → (s.cells t).event ≡ Some event → (is_some (s.cells t).result ≡ true) ↔ (event.status ≡ Ended)
    -- Where an entry lacks its record, a worker has it in its hand.
    pub away : (p : Path) (en : Entry F) → HasEntry s p en → en.body ≡ None → IsAway s p en
    -- So an entry that nobody holds has it.
    pub at_home : (p : Path) (en : Entry F) → HasEntry s p en → en.holders ≡ [] → is_some en.body ≡ true
    -- Who holds a context and doesn't only look holds it alone.
    pub alone : (p : Path) (en : Entry F) (c : Claim) → HasEntry s p en → IsIn en.holders c → c.peek ≡ false → en.holders ≡ c ∷ []

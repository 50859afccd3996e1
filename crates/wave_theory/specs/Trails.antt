-- Where a context was.
use Rattle.std.specs.Prelude.{◌≡◌, ◌≢◌, ◌↔◌, ◌⊎◌, ◌<◌, ◌≤◌, ℕ, suc, true, List, [], ◌∷◌, ◌++◌, map, Some, None, is_some}
use Rattle.wave_base.specs.declared.path.Step.{Step}
use Rattle.wave_base.specs.declared.path.Path.{Path}
use Rattle.wave_base.specs.declared.children.Child.{Child}
use Rattle.wave_base.specs.Kids.{child_at}
use Rattle.wave_states.specs.Kinds.{Kind}
use Rattle.wave_states.specs.States.{State, Entry, Record, Mail, Enter, Ask, Mark}
use Rattle.wave_states.specs.Labels.{Label}
use Rattle.wave_states.specs.Steps.{route, Wait}
use Rattle.wave_states.specs.Canonical.{below}
use Rattle.wave_states.specs.Begins.{Begin, start_state}
use Rattle.wave_states.specs.Owners.{IsComing, IsOwner, first_trail, trail_from}
use Rattle.wave_theory.specs.Numbers.{HasEntry}

-- where a context was: hosts number 0, 1, .. up to the last
pub record Trail : Type 0 where
  pub at : ℕ → ℕ
  pub last : ℕ

module _ {A F R J : Type 0} where
  -- an Enter to the context lies at the place of the trail up to which it followed
  abbrev pub EntersLie : State A F R J → Path → Trail → Type 0
  EntersLie s p trail = (t k : ℕ) (m : Mail F) (a : Ask) → (s.cells t).mails k ≡ Some m → m.path ≡ p → m.letter ≡ Enter a → (a.followed ≤ trail.last) × (m.host ≡ trail.at a.followed)

  -- The trail of a context that has an entry.
  pub record IsTrail (s : State A F R J) (p : Path) (trail : Trail) : Type 0 where
    -- neighbours differ; its last member is the owner, and the only one; its length is the entry's moves plus one
    pub neighbours : (i : ℕ) → i < trail.last → trail.at i ≢ trail.at (suc i)
    pub owned : IsOwner s p (trail.at trail.last)
    pub owner : (h : ℕ) → IsOwner s p h → h ≡ trail.at trail.last
    pub moves : (en : Entry F) → HasEntry s p en → en.moves ≡ trail.last
    -- a mark is that of the last time that the context left the host: it names the next member and its place
    pub marks : (h : ℕ) (m : Mark) → (s.columns p).gone h ≡ Some m → (n : ℕ) × (n < trail.last) × (trail.at n ≡ h) × (m.number ≡ suc n) × (m.to ≡ trail.at (suc n)) × ((i : ℕ) → n < i → i < trail.last → trail.at i ≢ h)
    -- a host without a mark has the entry, or the context never left it
    pub unmarked : (h : ℕ) → (s.columns p).gone h ≡ None → (is_some ((s.columns p).store h) ≡ true) ⊎ ((i : ℕ) → i < trail.last → trail.at i ≢ h)
    -- the host whose store has it has no mark
    pub here : (h : ℕ) → is_some ((s.columns p).store h) ≡ true → (s.columns p).gone h ≡ None
    pub enters : EntersLie s p trail
    -- the route of an Enter is Wait exactly where a Transfer brings the entry to where the Enter lies, which has followed all moves
    pub waits : (t k : ℕ) (m : Mail F) (a : Ask) → (s.cells t).mails k ≡ Some m → m.path ≡ p → m.letter ≡ Enter a → (route (s.columns p) m.host a.followed ≡ Wait) ↔ (IsComing s p m.host × (a.followed ≡ trail.last))
    -- its first member is the birth host in its parent's record, and for the root host 0
    pub birth : (q : Path) (st : Step) (en : Entry F) (r : Record F) (c : Child) → q ++ st ∷ [] ≡ p → HasEntry s q en → en.body ≡ Some r → child_at r.children st ≡ Some c → c.birth.0 ≡ trail.at 0
    pub from_zero : p ≡ [] → trail.at 0 ≡ 0

  -- of one that has none: no store, no mark, and each Enter has followed none and lies where it will be born, as its parent's record has it
  pub record IsUnborn (s : State A F R J) (p : Path) : Type 0 where
    pub no_entry : (h : ℕ) → (s.columns p).store h ≡ None
    pub no_mark : (h : ℕ) → (s.columns p).gone h ≡ None
    pub not_coming : (h : ℕ) → IsOwner s p h → ⊥
    pub birth : ℕ
    pub enters : EntersLie s p (record { at = λ i. birth; last = 0 })
    pub birth_is : (q : Path) (st : Step) (en : Entry F) (r : Record F) (c : Child) → q ++ st ∷ [] ≡ p → HasEntry s q en → en.body ≡ Some r → child_at r.children st ≡ Some c → c.birth.0 ≡ birth

-- the hosts of a trail, one after the other
abbrev pub hosts_of : Trail → List ℕ
hosts_of r = map r.at (below (suc r.last))

module _ {A F R J : Type 0} (kind : Kind A F R J) where
  -- Trails. Each context that has an entry has a trail; the others were not born yet.
  abbrev pub Trails : Begin F → List (List J) → State A F R J → Type 0
  Trails b batches s = (p : Path) → IsUnborn s p ⊎ ((trail : Trail) × IsTrail s p trail)

  -- Traced. The trail of a context that its Queue and Stop labels leave is its trail.
  abbrev pub Traced : ℕ → Begin F → List (List J) → List Label → State A F R J → Type 0
  Traced workers b batches labels s = (p : Path) →
      ((trail_from kind.system workers p (first_trail b p) (Some (start_state b batches)) labels ≡ []) × IsUnborn s p) ⊎
      ((trail : Trail) × IsTrail s p trail × (trail_from kind.system workers p (first_trail b p) (Some (start_state b batches)) labels ≡ hosts_of trail))

-- The record of a context wherever it is, also while a worker has it in hand: how many numbers it gave to its children, and where they
-- were born.
use Rattle.std.specs.Prelude.{◌≡◌, ◌⊎◌, ℕ, List, [], ◌∷◌, ◌++◌, length, Some, None}
use Rattle.wave_base.specs.declared.path.Step.{Step}
use Rattle.wave_base.specs.declared.path.Path.{Path}
use Rattle.wave_base.specs.declared.children.Child.{Child}
use Rattle.wave_base.specs.Kids.{child_at}
use Rattle.wave_states.specs.Kinds.{Kind}
use Rattle.wave_states.specs.States.{State, Entry, Record}
use Rattle.wave_states.specs.Labels.{Label}
use Rattle.wave_states.specs.Begins.{Begin, start_state}
use Rattle.wave_states.specs.Owners.{first_trail, trail_from}
use Rattle.wave_theory.specs.Agree.{IsAway}
use Rattle.wave_theory.specs.Came.{given_of, senders_from}
use Rattle.wave_theory.specs.Numbers.{HasEntry}
use Rattle.wave_theory.specs.Trails.{Trail, IsTrail, IsUnborn, hosts_of}

module _ {A F R J : Type 0} where
  -- in the context's entry, which lies in a store or in a Transfer; or, where the entry lacks it, in the hand of the worker that has it out
  pub record HasRecord (s : State A F R J) (p : Path) (r : Record F) : Type 0 where
    pub entry : Entry F
    pub there : HasEntry s p entry
    pub lies : (entry.body ≡ Some r) ⊎ ((entry.body ≡ None) × (away : IsAway s p entry) × (away.hand.body ≡ r))

  -- its parent's record, wherever that is, has it as born on the host
  abbrev pub IsBornOn : State A F R J → Path → ℕ → Type 0
  IsBornOn s p host = (q : Path) (st : Step) (r : Record F) (c : Child) → q ++ st ∷ [] ≡ p → HasRecord s q r → child_at r.children st ≡ Some c → c.birth.0 ≡ host

module _ {A F R J : Type 0} (kind : Kind A F R J) where
  -- Recorded. Each context that has an entry has one record, and no other. As many entry numbers were given for a child as Enters to it
  -- were sent. And the trail that the labels leave of a context begins where its parent's record has it as born; an unborn one's Enters
  -- lie there.
  pub record Recorded (workers : ℕ) (b : Begin F) (batches : List (List J)) (labels : List Label) (s : State A F R J) : Type 0 where
    pub one : (p : Path) (en : Entry F) → HasEntry s p en → (r : Record F) × HasRecord s p r
    pub only : (p : Path) (r r' : Record F) → HasRecord s p r → HasRecord s p r' → r ≡ r'
    pub given : (p : Path) (st : Step) (r : Record F) → HasRecord s p r → given_of r st ≡ length (senders_from kind.system workers (p ++ st ∷ []) (Some (start_state b batches)) labels)
    pub births : (p : Path) →
        ((trail_from kind.system workers p (first_trail b p) (Some (start_state b batches)) labels ≡ []) × (unborn : IsUnborn s p) × IsBornOn s p unborn.birth) ⊎
        ((trail : Trail) × IsTrail s p trail × (trail_from kind.system workers p (first_trail b p) (Some (start_state b batches)) labels ≡ hosts_of trail) × IsBornOn s p (trail.at 0))

-- The owner of a context, and its trail.
use Rattle.std.specs.Prelude.{◌≡◌, ◌⊎◌, ℕ, true, if◌then◌else◌, List, [], ◌∷◌, ◌++◌, Option, Some, None, is_some, is_none}
use Rattle.wave_base.specs.declared.path.Path.{Path}
use Rattle.wave_base.specs.Paths.{path_eq}
use Rattle.wave_base.specs.Tree.{there}
use Rattle.wave_states.specs.Actors.{Actors}
use Rattle.wave_states.specs.States.{Entry, Mark, Transfer, Column, State}
use Rattle.wave_states.specs.Labels.{Act, Label, Queue, Stop, path_of}
use Rattle.wave_states.specs.Steps.{step}
use Rattle.wave_states.specs.Begins.{Begin, has_moved}

module _ {A F R J : Type 0} where
  -- a Transfer of the context is under way to the host
  pub record IsComing (s : State A F R J) (p : Path) (host : ℕ) : Type 0 where
    pub ticket : ℕ
    pub number : ℕ
    pub entry : Entry F
    pub mail : (s.cells ticket).mails number ≡ Some (record { host = host; path = p; letter = Transfer entry })

  -- its store has the entry, or a Transfer brings it. What a worker has in its hand counts for the host where it was taken,
  -- whose store keeps the rest of the entry; a copy that was taken to look counts for none.
  abbrev pub IsOwner : State A F R J → Path → ℕ → Type 0
  IsOwner s p host = (is_some ((s.columns p).store host) ≡ true) ⊎ IsComing s p host

-- the hosts where a context was: where it was born, or where the run begins with it, and the target of each of its Transfers
abbrev pub first_trail : {F : Type 0} → Begin F → Path → List ℕ
first_trail b p = if there b.tree p then (if has_moved b p then 0 ∷ b.places.fields p ∷ [] else b.places.fields p ∷ []) else []

abbrev pub to_of : Option Mark → List ℕ
to_of None = []
to_of (Some m) = m.to ∷ []

abbrev pub born_at : List ℕ → ℕ → List ℕ
born_at [] host = host ∷ []
born_at (h ∷ hs) host = h ∷ hs

-- what a label on the context adds: a Queue the host of a birth, a Stop after which the host's store lacks the entry the target
abbrev pub trail_by : {F : Type 0} → List ℕ → Act → ℕ → Column F → List ℕ
trail_by trail (Queue t k p) host c = born_at trail host
trail_by trail (Stop t p) host c = if is_none (c.store host) then trail ++ to_of (c.gone host) else trail
trail_by trail _ host c = trail

module _ {A F R J : Type 0} (sys : Actors A F R J) (workers : ℕ) (p : Path) where
  abbrev pub trail_step : List ℕ → Label → Option (State A F R J) → List ℕ
  trail_step trail l None = trail
  trail_step trail l (Some s) = if path_eq (path_of l.act) p then trail_by trail l.act l.host (s.columns p) else trail

  abbrev pub trail_from : List ℕ → Option (State A F R J) → List Label → List ℕ
  trail_from trail None ls = trail
  trail_from trail (Some s) [] = trail
  trail_from trail (Some s) (l ∷ ls) = trail_from (trail_step trail l (step sys workers s l)) (step sys workers s l) ls

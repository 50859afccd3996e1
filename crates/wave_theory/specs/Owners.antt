-- Owners: each context has one, and it takes the labels there.
use Rattle.std.specs.Prelude.{◌≡◌, ◌≢◌, ◌⊎◌, ℕ, true, List, Some}
use Rattle.wave_base.specs.declared.path.Path.{Path}
use Rattle.wave_base.specs.Tree.{there}
use Rattle.wave_states.specs.Kinds.{Kind}
use Rattle.wave_states.specs.States.{State, Entry, Transfer}
use Rattle.wave_states.specs.Labels.{Act, Label, Admit, Stop, Pass, Commit, path_of}
use Rattle.wave_states.specs.Steps.{step}
use Rattle.wave_states.specs.Begins.{Begin}
use Rattle.wave_states.specs.Owners.{IsOwner}

module _ {A F R J : Type 0} where
  -- a Transfer of the ticket brings the context to another host
  pub record SendsOff (v : State A F R J) (t : ℕ) (p : Path) (host : ℕ) : Type 0 where
    pub to : ℕ
    pub number : ℕ
    pub entry : Entry F
    pub mail : (v.cells t).mails number ≡ Some (record { host = to; path = p; letter = Transfer entry })
    pub other : to ≢ host

module _ {A F R J : Type 0} (kind : Kind A F R J) where
  -- One owner. No context has two; each that the run begins with has one; and a context that has one has one after each label.
  pub record OneOwner (workers : ℕ) (b : Begin F) (batches : List (List J)) (s : State A F R J) : Type 0 where
    pub one : (p : Path) (h h' : ℕ) → IsOwner s p h → IsOwner s p h' → h ≡ h'
    pub begun : (p : Path) → there b.tree p ≡ true → (h : ℕ) × IsOwner s p h
    pub stays : (l : Label) (v : State A F R J) (p : Path) (h : ℕ) → step kind.system workers s l ≡ Some v → IsOwner s p h → (h' : ℕ) × IsOwner v p h'

  -- a Stop is taken by the host that owns its context just before, and after it too unless it sends the context to another host; all
  -- others that act on a context by the one that owns it once they are taken
  abbrev pub OwnerTakes : State A F R J → State A F R J → Act → ℕ → Type 0
  OwnerTakes s v (Admit t) host = Unit {0}
  OwnerTakes s v (Commit t) host = Unit {0}
  OwnerTakes s v (Pass t k p to) host = Unit {0}
  OwnerTakes s v (Stop t p) host = IsOwner s p host × (IsOwner v p host ⊎ SendsOff v t p host)
  OwnerTakes s v act host = IsOwner v (path_of act) host

  -- By owners. By which host each label is taken.
  abbrev pub ByOwners : ℕ → Begin F → List (List J) → State A F R J → Type 0
  ByOwners workers b batches s = (l : Label) (v : State A F R J) → step kind.system workers s l ≡ Some v → OwnerTakes s v l.act l.host

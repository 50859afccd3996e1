-- What a finished state has.
use Rattle.std.specs.Prelude.{◌≡◌, ◌≤◌, ℕ, true, List, [], Some, None, is_some}
use Rattle.wave_base.specs.declared.path.Path.{Path}
use Rattle.wave_base.specs.Tree.{there, children_of}
use Rattle.wave_states.specs.Kinds.{Kind}
use Rattle.wave_states.specs.States.{State, Entry, Record, steps_of}
use Rattle.wave_states.specs.Runs.{Finished}
use Rattle.wave_states.specs.Alone.{fold_alone, places_alone}
use Rattle.wave_states.specs.Begins.{Begin}
use Rattle.wave_states.specs.Owners.{IsOwner}

module _ {A F R J : Type 0} (kind : Kind A F R J) where
  -- Every job of the fold is committed; no mail is under way, and nobody holds a context or waits for one; the contexts that have
  -- an entry are those of the fold's last tree, each with its fields and its children; and each is on the host that the fold has for it.
  pub record IsComplete (b : Begin F) (batches : List (List J)) (s : State A F R J) : Type 0 where
    pub committed : (n : ℕ) → (fold_alone kind.system b batches n).head.done ≤ s.head.done
    pub no_mails : (t k : ℕ) → (s.cells t).mails k ≡ None
    pub no_holders : (p : Path) (host : ℕ) (en : Entry F) → (s.columns p).store host ≡ Some en → en.holders ≡ []
    pub no_waits : (p : Path) (host : ℕ) (en : Entry F) (j : ℕ) → (s.columns p).store host ≡ Some en → en.waiting j ≡ None
    pub contexts : (p : Path) → there (fold_alone kind.system b batches s.head.done).tree p ≡ true → (host : ℕ) × (en : Entry F) × (r : Record F) × ((s.columns p).store host ≡ Some en) × (en.body ≡ Some r) ×
        (r.fields ≡ (fold_alone kind.system b batches s.head.done).tree.fields p) × (steps_of r.children ≡ children_of (fold_alone kind.system b batches s.head.done).tree p)
    pub places : (p : Path) (host : ℕ) → IsOwner s p host → host ≡ (places_alone kind.system b batches s.head.done).fields p
    pub no_others : (p : Path) (host : ℕ) → is_some ((s.columns p).store host) ≡ true → there (fold_alone kind.system b batches s.head.done).tree p ≡ true

  -- Complete. In a finished state all is done.
  abbrev pub Complete : ℕ → Begin F → List (List J) → State A F R J → Type 0
  Complete workers b batches s = Finished kind.system workers s → IsComplete b batches s

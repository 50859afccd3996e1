-- Where the maps of a state have nothing.
use Rattle.std.specs.Prelude.{◌≡◌, ◌<◌, ◌≤◌, ◌+◌, ℕ, false, List, [], ◌∷◌, ◌++◌, Some, None}
use Rattle.wave_base.specs.declared.path.Step.{Step}
use Rattle.wave_base.specs.declared.path.Path.{Path}
use Rattle.wave_base.specs.Kids.{child_at}
use Rattle.wave_base.specs.Tree.{there}
use Rattle.wave_states.specs.Kinds.{Kind}
use Rattle.wave_states.specs.States.{State, Event, Entry, Record}
use Rattle.wave_states.specs.Alone.{fold_alone}
use Rattle.wave_states.specs.Begins.{Begin}
use Rattle.wave_theory.specs.Numbers.{HasEntry}

module _ {A F R J : Type 0} where
  -- the host has neither an entry nor a mark for the context
  abbrev pub NothingAt : State A F R J → Path → ℕ → Type 0
  NothingAt s p h = ((s.columns p).store h ≡ None) × ((s.columns p).gone h ≡ None)

module _ {A F R J : Type 0} (kind : Kind A F R J) where
  -- Bounds. None but where the lists say so: no cell but of an admitted ticket; no mail but under the numbers that were sent; no entry and
  -- no mark but for a context that is there in the fold after the admitted jobs, and that its parent's record has as a child; none at
  -- other hosts; no claim in line under a number that was served; nothing in other hands.
  pub record Bounds (workers : ℕ) (b : Begin F) (batches : List (List J)) (s : State A F R J) : Type 0 where
    pub cells : (t : ℕ) → (s.before < t → t ≤ s.before + s.admitted → ⊥) → s.cells t ≡ record { event = None; mails = λ k. None; result = None }
    pub mails : (t k : ℕ) (e : Event A) → (s.cells t).event ≡ Some e → e.sent < k → (s.cells t).mails k ≡ None
    pub from_one : (t : ℕ) → (s.cells t).mails 0 ≡ None
    pub entered : (p : Path) → there (fold_alone kind.system b batches s.admitted).tree p ≡ false → (h : ℕ) → NothingAt s p h
    pub children : (q : Path) (st : Step) (en : Entry F) (r : Record F) → HasEntry s q en → en.body ≡ Some r → child_at r.children st ≡ None → (h : ℕ) → NothingAt s (q ++ st ∷ []) h
    pub elsewhere : (p : Path) (h : ℕ) → kind.hosts ≤ h → NothingAt s p h
    pub waiting : (p : Path) (en : Entry F) (j : ℕ) → HasEntry s p en → j ≤ en.served → en.waiting j ≡ None
    pub hands : (v : ℕ) → workers ≤ v → s.hands v ≡ None

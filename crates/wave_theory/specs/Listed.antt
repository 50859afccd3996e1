-- The canonical list has what is enabled, in its order.
use Rattle.std.specs.Prelude.{◌≡◌, ◌↔◌, ◌⊎◌, ◌<◌, ℕ, true, false, List, [], ◌∷◌, is_some}
use Rattle.std.specs.List.{AllByRecursion}
use Rattle.wave_states.specs.Kinds.{Kind}
use Rattle.wave_states.specs.States.{State}
use Rattle.wave_states.specs.Labels.{Act, Label, Admit, Queue, Grant, Visit, Start, Stop, Free, Pass, Land, Commit, ticket_of, is_stop}
use Rattle.wave_states.specs.Steps.{step}
use Rattle.wave_states.specs.Canonical.{enabled_labels, enabled_for}
use Rattle.wave_states.specs.Runs.{Finished}
use Rattle.wave_states.specs.Begins.{Begin}

-- x is one of the list
abbrev pub IsIn : {X : Type 0} → List X → X → Type 0
IsIn [] x = ⊥
IsIn (y ∷ ys) x = (y ≡ x) ⊎ IsIn ys x

-- the kinds of labels in their order
abbrev pub kind_rank : Act → ℕ
kind_rank (Admit t) = 0
kind_rank (Queue t k p) = 1
kind_rank (Grant t p) = 2
kind_rank (Visit t k p) = 3
kind_rank (Start t p) = 4
kind_rank (Stop t p) = 5
kind_rank (Free t k p) = 6
kind_rank (Pass t k p to) = 7
kind_rank (Land t k p) = 8
kind_rank (Commit t) = 9

-- the number of its mail, if it takes one
abbrev pub mail_of : Act → ℕ
mail_of (Admit t) = 0
mail_of (Queue t k p) = k
mail_of (Grant t p) = 0
mail_of (Visit t k p) = k
mail_of (Start t p) = 0
mail_of (Stop t p) = 0
mail_of (Free t k p) = k
mail_of (Pass t k p to) = k
mail_of (Land t k p) = k
mail_of (Commit t) = 0

-- by kind, then by ticket, then by the number of the mail
abbrev pub Before : Act → Act → Type 0
Before a b = (kind_rank a < kind_rank b) ⊎ ((kind_rank a ≡ kind_rank b) × ((ticket_of a < ticket_of b) ⊎ ((ticket_of a ≡ ticket_of b) × (mail_of a < mail_of b))))

-- each one before all that come later, so none twice
abbrev pub Rising : {X : Type 0} → (X → X → Type 0) → List X → Type 0
Rising R [] = Unit {0}
Rising R (x ∷ xs) = AllByRecursion (R x) xs × Rising R xs

module _ {A F R J : Type 0} where
  -- each lower worker has a segment out
  abbrev pub LowerAreOut : State A F R J → ℕ → Type 0
  LowerAreOut s worker = (v : ℕ) → v < worker → is_some (s.hands v) ≡ true

module _ {A F R J : Type 0} (kind : Kind A F R J) where
  -- Canonical list. A label is in it exactly where it is enabled and is a Stop, or the lowest idle worker's.
  abbrev pub Listed : ℕ → Begin F → List (List J) → State A F R J → Type 0
  Listed workers b batches s = (l : Label) → IsIn (enabled_labels kind.system workers kind.hosts s) l ↔ ((is_some (step kind.system workers s l) ≡ true) × (is_stop l.act ≡ false → LowerAreOut s l.worker))

  -- Sorted. The canonical list is in its order, and has no label twice.
  abbrev pub Sorted : ℕ → Begin F → List (List J) → State A F R J → Type 0
  Sorted workers b batches s = Rising (λ (l m : Label). Before l.act m.act) (enabled_labels kind.system workers kind.hosts s)

  -- Listed for a worker. Its list has exactly the enabled labels that are its own, in the canonical order.
  pub record ListedFor (workers : ℕ) (b : Begin F) (batches : List (List J)) (s : State A F R J) : Type 0 where
    pub has : (worker : ℕ) (l : Label) → IsIn (enabled_for kind.system workers kind.hosts s worker) l ↔ ((is_some (step kind.system workers s l) ≡ true) × (l.worker ≡ worker))
    pub sorted : (worker : ℕ) → Rising (λ (l m : Label). Before l.act m.act) (enabled_for kind.system workers kind.hosts s worker)

  -- Empty at the end. The canonical list is empty exactly where no label is enabled and no segment is out.
  abbrev pub EmptyAtEnd : ℕ → Begin F → List (List J) → State A F R J → Type 0
  EmptyAtEnd workers b batches s = (enabled_labels kind.system workers kind.hosts s ≡ []) ↔ Finished kind.system workers s

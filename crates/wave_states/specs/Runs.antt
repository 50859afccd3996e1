-- Runs: a list of labels, each enabled where it is taken. And drives: the labels that a rule picks, one after the other.
use Rattle.std.specs.Prelude.{◌≡◌, ℕ, zero, suc, ◌+◌, ◌-◌, ◌*◌, ◌/◌, ◌%◌, ◌^◌, Bool, false, not, nat_lt, nat_le, if◌then◌else◌, List, [], ◌∷◌, length, Option, Some, None, slice_get, option_and_then}
use Rattle.std.specs.List.{filter}
use Rattle.wave_states.specs.Actors.{Actors}
use Rattle.wave_states.specs.States.{State}
use Rattle.wave_states.specs.Labels.{Label, ticket_of, takes_mail}
use Rattle.wave_states.specs.Steps.{step}
use Rattle.wave_states.specs.Canonical.{enabled_labels}
use Rattle.wave_base.specs.Draws.{next_draw, draw_from}

module _ {A F R J : Type 0} (sys : Actors A F R J) (workers : ℕ) where
  -- the state that a list of labels leads to, where each is enabled
  unfoldable pub run : State A F R J → List Label → Option (State A F R J)
  run s [] = Some s
  run s (l ∷ ls) = option_and_then (λ v. run v ls) (step sys workers s l)

  -- no label is enabled and no segment is out
  pub record Finished (s : State A F R J) : Type 0 where
    pub none : (l : Label) → step sys workers s l ≡ None
    pub idle : (w : ℕ) → s.hands w ≡ None

-- a rule picks from the canonical list, and may keep a number from one pick to the next
abbrev pub Rule : (A F R J : Type 0) → Type 0
Rule A F R J = ℕ → State A F R J → List Label → ℕ × Option Label

abbrev pub first_of : List Label → Option Label
first_of [] = None
first_of (l ∷ ls) = Some l

abbrev pub last_of : List Label → Option Label
last_of [] = None
last_of (l ∷ []) = Some l
last_of (l ∷ m ∷ ls) = last_of (m ∷ ls)

abbrev pub or_else : Option Label → Option Label → Option Label
or_else None other = other
or_else (Some l) other = Some l

-- of two labels and more, by a draw; with one there is no draw
abbrev pub seed : {A F R J : Type 0} → Rule A F R J
seed x s [] = (x, None)
seed x s (l ∷ []) = (x, Some l)
seed x s (l ∷ m ∷ ls) = (next_draw x, slice_get (l ∷ m ∷ ls) (draw_from x % length (l ∷ m ∷ ls)))

abbrev pub least : Label → List Label → Label
least l [] = l
least l (m ∷ ls) = if nat_lt (ticket_of m.act) (ticket_of l.act) then least m ls else least l ls

abbrev pub greatest : Label → List Label → Label
greatest l [] = l
greatest l (m ∷ ls) = if nat_le (ticket_of l.act) (ticket_of m.act) then greatest m ls else greatest l ls

-- the first label of the least ticket
abbrev pub oldest : {A F R J : Type 0} → Rule A F R J
oldest x s [] = (x, None)
oldest x s (l ∷ ls) = (x, Some (least l ls))

-- the last label of the greatest ticket
abbrev pub newest : {A F R J : Type 0} → Rule A F R J
newest x s [] = (x, None)
newest x s (l ∷ ls) = (x, Some (greatest l ls))

abbrev pub job_is : {J : Type 0} → (J → Bool) → Option J → Bool
job_is f None = false
job_is f (Some j) = f j

-- the first label whose ticket's job is a move, else the first
abbrev pub movers : {A F R J : Type 0} → (J → Bool) → Rule A F R J
movers is_move x s ls = (x, or_else (first_of (filter (λ l. job_is is_move (slice_get s.head.known (ticket_of l.act - suc s.before))) ls)) (first_of ls))

-- the first label that takes no mail, else the last
abbrev pub mail_last : {A F R J : Type 0} → Rule A F R J
mail_last x s ls = (x, or_else (first_of (filter (λ l. not (takes_mail l.act)) ls)) (last_of ls))

module _ {A F R J : Type 0} (sys : Actors A F R J) (workers : ℕ) where
  abbrev pub keep_on : (ℕ → State A F R J → List Label) → ℕ → Label → Option (State A F R J) → List Label
  keep_on more x l None = []
  keep_on more x l (Some v) = l ∷ more x v

  -- what is picked, and what more is picked after it
  abbrev pub picked_labels : (ℕ → State A F R J → List Label) → State A F R J → ℕ × Option Label → List Label
  picked_labels more s (x, None) = []
  picked_labels more s (x, Some l) = keep_on more x l (step sys workers s l)

module _ {A F R J : Type 0} (sys : Actors A F R J) (workers hosts : ℕ) (rule : Rule A F R J) where
  -- The drive of a rule: the labels that it picks, until the canonical list is empty.
  unfoldable pub IsDrive : ℕ → State A F R J → List Label → Type 0
  IsDrive x s [] = enabled_labels sys workers hosts s ≡ []
  IsDrive x s (l ∷ ls) =
      ((rule x s (enabled_labels sys workers hosts s)).1 ≡ Some l)
      × (v : State A F R J) × (step sys workers s l ≡ Some v)
      × IsDrive (rule x s (enabled_labels sys workers hosts s)).0 v ls

  -- the first n of them, computed
  unfoldable pub drive : ℕ → ℕ → State A F R J → List Label
  drive zero x s = []
  drive (suc n) x s = picked_labels sys workers (λ y v. drive n y v) s (rule x s (enabled_labels sys workers hosts s))

-- Where each ticket comes from: a line of the script, or a call that an earlier ticket created.
use Rattle.std.specs.Prelude.{◌≡◌, ◌<◌, ◌≤◌, ◌+◌, ℕ, suc, List, ◌++◌, length, Option, Some, slice_get, option_and_then}
use Rattle.wave_states.specs.Kinds.{Kind}
use Rattle.wave_states.specs.States.{State}
use Rattle.wave_states.specs.Begins.{Begin}

-- a line, by its batch and its place there; or what a ticket created, by its place there
pub data Origin : Type 0 where
  Line Created : ℕ → ℕ → Origin

-- the line of a batch
abbrev pub line_at : {J : Type 0} → List (List J) → ℕ → ℕ → Option J
line_at batches x y = option_and_then (λ lines. slice_get lines y) (slice_get batches x)

module _ {A F R J : Type 0} (kind : Kind A F R J) where
  -- what a ticket created
  abbrev pub created_at : State A F R J → ℕ → ℕ → Option J
  created_at s t k = option_and_then (λ r. slice_get (kind.system.created r) k) (s.cells t).result

  -- the job that came from there to the ticket: the line of a batch that has begun; or what an earlier ticket created, which is committed
  abbrev pub IsFrom : State A F R J → List (List J) → Origin → ℕ → J → Type 0
  IsFrom s begun (Line x y) ticket j = line_at begun x y ≡ Some j
  IsFrom s begun (Created t k) ticket j = (t < ticket) × (t ≤ s.before + s.head.done) × (created_at s t k ≡ Some j)

  -- Origins. The batches are those that have begun, and those that have not. The job of each ticket came from its origin; no two tickets
  -- have one origin; and each line of a batch that has begun has a ticket, and all that a committed ticket created.
  pub record Origins (b : Begin F) (batches : List (List J)) (s : State A F R J) : Type 0 where
    pub begun : List (List J)
    pub cut : batches ≡ begun ++ s.head.later
    pub origin : ℕ → Origin
    pub from : (i : ℕ) (j : J) → slice_get s.head.known i ≡ Some j → IsFrom s begun (origin (suc b.before + i)) (suc b.before + i) j
    pub one : (i k : ℕ) → i < length s.head.known → k < length s.head.known → origin (suc b.before + i) ≡ origin (suc b.before + k) → i ≡ k
    pub lines : (x y : ℕ) (j : J) → line_at begun x y ≡ Some j → (i : ℕ) × (i < length s.head.known) × (origin (suc b.before + i) ≡ Line x y)
    pub calls : (u k : ℕ) (j : J) → u < s.head.done → created_at s (suc b.before + u) k ≡ Some j → (i : ℕ) × (i < length s.head.known) × (origin (suc b.before + i) ≡ Created (suc b.before + u) k)

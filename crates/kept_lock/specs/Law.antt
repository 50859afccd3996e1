-- The law of passes.
use Rattle.std.specs.Prelude.{◌≡◌, ◌≢◌, ◌≤◌, ◌⊎◌, ℕ, ◌%◌, List, [], slice_index, Option}
use Rattle.atomic_table.specs.Table.{State}
use Rattle.kept_lock.specs.declared.view.View.{View}
use Rattle.kept_lock.specs.History.{StartsWith, entries_of}
use Rattle.kept_lock.specs.Knowing.{Accounts}
use Rattle.kept_lock.specs.Rule.{Has, IsHome, Keeps}

-- of two histories one begins with the other
abbrev pub OneBegins : {E : Type 0} → List E → List E → Type 0
OneBegins xs ys = StartsWith xs ys ⊎ StartsWith ys xs

-- Of all passes, what one has seen and what another has seen are beginnings of this history.
-- Each entry of a pass's number in it was made by that pass; of a pass that was joined to another too.
pub record IsOneHistory {N E : Type 0} (owner : E → ℕ) (views : List (View N E)) (history : List E) : Type 0 where
  pub seen : (id : ℕ) (v : View N E) → Has views id v → StartsWith history v.known.seen
  pub compared : (i j : ℕ) (v w : View N E) → Has views i v → Has views j w → OneBegins v.known.seen w.known.seen
  pub numbers : (i j : ℕ) (v w : View N E) → Has views i v → Has views j w → i ≢ j → v.known.number ≢ w.known.number
  pub made : (id : ℕ) (v : View N E) → Has views id v → entries_of owner v.known.number history ≡ v.known.made
  pub joined : (id : ℕ) (v : View N E) → Has views id v → Accounts owner v.known history
  -- no entry has a number that the first pass has not given yet
  pub given : (id : ℕ) (v : View N E) → Has views id v → v.known.number ≡ 0 → (number : ℕ) → v.known.passes ≤ number → entries_of owner number history ≡ []

-- Whenever the rule holds there is one such history, and while no pass is inside it is the value's
abbrev pub PassesShareOneHistory : {V N E : Type 0} → (V → List E) → (E → ℕ) → (V → N → Type 0) → Type 0
PassesShareOneHistory {V} {N} {E} history_of owner stands = (name : N) (s : State (Option V) (View N E)) → Keeps history_of owner stands name s
    → (history : List E) × IsOneHistory owner s.views history × (slice_index s.words 0 % 2 ≡ 0 → IsHome history_of stands name history s.homes)

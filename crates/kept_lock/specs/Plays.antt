-- What each step makes of the view of the pass that takes it, and what it tells that pass.
use Rattle.std.specs.Prelude.{◌≡◌, ◌≢◌, ℕ, List, [], ◌∷◌, Option, Some, None}
use Rattle.atomic_table.specs.Table.{Me, Step}
use Rattle.kept_lock.specs.declared.view.View.{View}
use Rattle.kept_lock.specs.declared.view.Place.{Place}
use Rattle.kept_lock.specs.declared.view.Place.TheVariants.{Outside, Inside, Closing}
use Rattle.kept_lock.specs.History.{StartsWith, longer_history}
use Rattle.kept_lock.specs.Knowing.{Agrees, Accounts, pass_inside, left_at, counted_on, next_pass, with_accounts}

module _ {N E : Type 0} where
  -- inside, or closing, at this history
  abbrev pub placed_at : View N E → Place → List E → View N E
  placed_at v place history = record { name = v.name; place = place; told = []; known = pass_inside v.known history }

  -- outside again, at this history
  abbrev pub outside_at : View N E → List E → View N E
  outside_at v history = record { name = v.name; place = Outside; told = []; known = left_at v.known history }

  -- a split: the pass numbered 0, and the new one
  abbrev pub split_left : View N E → View N E
  split_left v = record v { known = counted_on v.known }

  abbrev pub split_right : View N E → View N E
  split_right v = record { name = v.name; place = Outside; told = []; known = next_pass v.known }

  -- a join: the pass has the other's accounts, and is told what the other has seen
  abbrev pub told_of : View N E → View N E → View N E
  told_of v other = record { name = v.name; place = v.place; told = other.known.seen; known = with_accounts v.known other.known }

  -- the look after a join: the pass has seen the longer of the two histories
  abbrev pub heard : View N E → View N E
  heard v = record { name = v.name; place = v.place; told = []; known = pass_inside v.known (longer_history v.known.seen v.told) }

-- the value stands for the name, where there is one
abbrev pub stands_for : {V N : Type 0} → (V → N → Type 0) → V → Option N → Type 0
stands_for stands y (Some name) = stands y name
stands_for stands y None = Unit {0}

module _ {V N E : Type 0} (history_of : V → List E) (owner : E → ℕ) (stands : V → N → Type 0) where
  -- a claim that was won: the value is out with the pass
  pub record Won (before after : Me (Option V) (View N E)) : Type 0 where
    pub value : V
    pub now : after ≡ (placed_at before.0 Inside (history_of value), (0, Some value) ∷ [])
    pub stands_for_name : stands_for stands value before.0.name
    pub agrees : Agrees owner before.0.known (history_of value)
    pub accounts : Accounts owner before.0.known (history_of value)

  -- a claim is won exactly where the word was as expected, and changes nothing where it was lost
  abbrev pub Claimed : Step (Option V) → Me (Option V) (View N E) → ℕ → Me (Option V) (View N E) → Type 0
  Claimed st before found after = (found ≡ st.first → Won before after) × (found ≢ st.first → after ≡ before)

module _ {V E : Type 0} (history_of : V → List E) where
  -- the history of a value, where there is one
  abbrev pub history_or_none : Option V → List E
  history_or_none (Some y) = history_of y
  history_or_none None = []

  -- the history of the value that is out with a pass
  abbrev pub history_out : List (ℕ × Option V) → List E
  history_out [] = []
  history_out (x ∷ xs) = history_or_none x.1

module _ {V N E : Type 0} (history_of : V → List E) where
  -- a release: the pass is outside, has seen the history of the value, and made what is new in it
  abbrev pub Released : Step (Option V) → Me (Option V) (View N E) → ℕ → Me (Option V) (View N E) → Type 0
  Released st before found after = after ≡ (outside_at before.0 (history_out history_of before.1), [])

module _ {V N E : Type 0} (owner : E → ℕ) where
  -- a last claim that was won: the value stays in its place
  pub record Shut (before after : Me (Option V) (View N E)) : Type 0 where
    pub history : List E
    pub now : after ≡ (placed_at before.0 Closing history, before.1)
    pub agrees : Agrees owner before.0.known history
    pub accounts : Accounts owner before.0.known history

  abbrev pub Closes : Step (Option V) → Me (Option V) (View N E) → ℕ → Me (Option V) (View N E) → Type 0
  Closes st before found after = (found ≡ st.first → Shut before after) × (found ≢ st.first → after ≡ before)

module _ {V N E : Type 0} where
  -- a look: the pass has seen the longer of the two histories, which begins with both
  pub record Hears (before after : Me (Option V) (View N E)) : Type 0 where
    pub now : after ≡ (heard before.0, before.1)
    pub own : StartsWith (longer_history before.0.known.seen before.0.told) before.0.known.seen
    pub told : StartsWith (longer_history before.0.known.seen before.0.told) before.0.told

  abbrev pub Heard : Step (Option V) → Me (Option V) (View N E) → ℕ → Me (Option V) (View N E) → Type 0
  Heard st before found after = Hears before after

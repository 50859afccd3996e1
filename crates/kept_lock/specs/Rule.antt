-- The rule of the table: what holds of its one word, its one slot and the view of each pass, at every moment.
-- The word is odd exactly where a pass is inside, and where it is even the value is home.
use Rattle.std.specs.Prelude.{◌≡◌, ◌≢◌, ℕ, ◌%◌, ◌≤◌, List, [], length, slice_index, Option, Some, None, All}
use mathlib.Core.Option.{some}
use lib.ListN.{get_elem?}
use Rattle.atomic_table.specs.Table.{State}
use Rattle.kept_lock.specs.declared.view.View.{View}
use Rattle.kept_lock.specs.declared.view.Place.TheVariants.{Outside, Closing}
use Rattle.kept_lock.specs.History.{StartsWith, entries_of}
use Rattle.kept_lock.specs.Knowing.{Agrees, Accounts, first}

module _ {N E : Type 0} where
  -- the view of the pass that a new lock comes with
  abbrev pub first_view : N → View N E
  first_view name = record { name = Some name; place = Outside; told = []; known = first }

  -- what a pass leaves behind when it is joined to another
  abbrev pub spent_view : View N E
  spent_view = record { name = None; place = Outside; told = []; known = first }

  -- the pass was not joined to another
  abbrev pub IsLive : View N E → Type 0
  IsLive v = (n : N) × (v.name ≡ Some n)

  -- the pass at this place of the list is live, and has this view
  abbrev pub Has : List (View N E) → ℕ → View N E → Type 0
  Has views id v = (get_elem? views id ≡ some v) × IsLive v

  -- what the rule says of one pass: it has the lock's name, it agrees with the history, and inside it has seen all of it
  pub record Fits (owner : E → ℕ) (name : N) (history : List E) (word holder id : ℕ) (v : View N E) : Type 0 where
    pub named : v.name ≡ Some name
    pub agrees : Agrees owner v.known history
    pub accounts : Accounts owner v.known history
    pub told : StartsWith history v.told
    pub inside : v.place ≢ Outside → (word % 2 ≡ 1) × (id ≡ holder) × (v.known.seen ≡ history)

  -- no pass has this number, none that was joined to another had it, and no entry has it
  pub record IsUnused (owner : E → ℕ) (history : List E) (views : List (View N E)) (number : ℕ) : Type 0 where
    pub entries : entries_of owner number history ≡ []
    pub live : (id : ℕ) (v : View N E) → Has views id v → v.known.number ≢ number
    pub spent : (id : ℕ) (v : View N E) → Has views id v → All (λ a. a.number ≢ number) v.known.accounts

module _ {V N E : Type 0} (history_of : V → List E) (stands : V → N → Type 0) where
  -- the value is in its place, stands for the name, and has this history
  abbrev pub IsHome : N → List E → List (mathlib.Core.Option.Option (Option V)) → Type 0
  IsHome name history homes = (y : V) × (get_elem? homes 0 ≡ some (some (Some y))) × stands y name × (history_of y ≡ history)

module _ {V N E : Type 0} (history_of : V → List E) (owner : E → ℕ) (stands : V → N → Type 0) where
  pub record Keeps (name : N) (s : State (Option V) (View N E)) : Type 0 where
    -- the history of the value; while a pass is inside, the one at its entry
    pub history : List E
    -- the pass that is inside, where one is
    pub holder : ℕ
    pub one_word : length s.words ≡ 1
    pub one_slot : length s.homes ≡ 1
    pub fits : (id : ℕ) (v : View N E) → Has s.views id v → Fits owner name history (slice_index s.words 0) holder id v
    -- two passes have two numbers
    pub apart : (i j : ℕ) (v w : View N E) → Has s.views i v → Has s.views j w → v.known.number ≡ w.known.number → i ≡ j
    -- no pass has the number of one that was joined to another
    pub retired : (i j : ℕ) (v w : View N E) → Has s.views i v → Has s.views j w → All (λ a. a.number ≢ w.known.number) v.known.accounts
    -- the numbers from the count on are free
    pub unused : (id : ℕ) (v : View N E) → Has s.views id v → v.known.number ≡ 0 → (number : ℕ) → v.known.passes ≤ number → IsUnused owner history s.views number
    pub home : slice_index s.words 0 % 2 ≡ 0 → IsHome history_of stands name history s.homes
    -- a pass that closes the lock leaves the value in its place
    pub closing : (id : ℕ) (v : View N E) → Has s.views id v → v.place ≡ Closing → IsHome history_of stands name history s.homes
    pub held : slice_index s.words 0 % 2 ≡ 1 → (v : View N E) × Has s.views holder v × (v.place ≢ Outside)

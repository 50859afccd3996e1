-- What runs of the counter are, computed.
use Rattle.std.proofs.Common.{◌≡◌, refl, ℕ, List, [], ◌∷◌, Option, Some, length, map}
use Rattle.std.specs.Prelude.{option_map}
use Rattle.wave_base.specs.Tree.{bare}
use Rattle.wave_states.specs.Counter.{counter}
use Rattle.wave_states.specs.States.{State}
use Rattle.wave_states.specs.Labels.{Label, Act, Admit, Queue, Grant, Start, Stop, Free, Commit}
use Rattle.wave_states.specs.Begins.{first_begin, start_state}
use Rattle.wave_states.specs.Canonical.{enabled_labels}
use Rattle.wave_states.specs.Steps.{step}
use Rattle.wave_states.specs.Runs.{run, drive, seed}
use Rattle.wave_states.specs.Alone.{fold_alone, after_segments}
use Rattle.wave_states.specs.Work.{work_after}

abbrev pub start : List (List ℕ) → State ℕ ℕ (ℕ × ℕ) ℕ
start batches = start_state (first_begin (λ p. 0)) batches

abbrev pub one : List (List ℕ)
one = (0 ∷ []) ∷ []

abbrev pub by_worker : ℕ → List Act → List Label
by_worker w acts = map (λ a. record { worker = w; host = 0; act = a }) acts

abbrev pub journal : List Label
journal = by_worker 0 (Admit 1 ∷ Queue 1 1 [] ∷ Grant 1 [] ∷ Start 1 [] ∷ Stop 1 [] ∷ Commit 1 ∷ Free 1 2 [] ∷ [])

abbrev pub seen : Option (State ℕ ℕ (ℕ × ℕ) ℕ) → Option (ℕ × Option (ℕ × ℕ) × ℕ)
seen o = option_map (λ s. (s.head.done, (s.cells 1).result, length (enabled_labels counter 4 1 s))) o

-- the seven labels of one event are a run, after which all is done
run_is : seen (run counter 4 (start one) journal) ≡ Some (1, Some (1, 0), 0)
unfolding step run enabled_labels
run_is = refl

-- and they are the drive from seed 0
drive_is : drive counter 4 1 seed 20 0 (start one) ≡ journal
unfolding step enabled_labels drive
drive_is = refl

-- before them, only an Admit is enabled
begins_with : enabled_labels counter 4 1 (start one) ≡ by_worker 0 (Admit 1 ∷ [])
unfolding step enabled_labels
begins_with = refl

-- ticket 8 comes after seven others: its entry number at the root is 8
abbrev later : State ℕ ℕ (ℕ × ℕ) ℕ
later = start_state (record { tree = bare (λ p. 3); places = bare (λ p. 0); before = 7 }) one

abbrev pub eighth : Option (State ℕ ℕ (ℕ × ℕ) ℕ) → Option (ℕ × Option (ℕ × ℕ))
eighth o = option_map (λ s. (s.head.done, (s.cells 8).result)) o

later_is : eighth (run counter 4 later (by_worker 0 (Admit 8 ∷ Queue 8 1 [] ∷ Grant 8 [] ∷ Start 8 [] ∷ Stop 8 [] ∷ Commit 8 ∷ Free 8 2 [] ∷ []))) ≡ Some (1, Some (4, 0))
unfolding step run
later_is = refl

-- two batches: the first line creates two jobs, for which the second batch waits, so its line has ticket 4
abbrev two : List (List ℕ)
two = (2 ∷ []) ∷ (0 ∷ []) ∷ []

abbrev waits : List Label
waits = drive counter 2 1 seed 60 7 (start two)

abbrev pub known_then : Option (State ℕ ℕ (ℕ × ℕ) ℕ) → Option (List ℕ × ℕ × Option (ℕ × ℕ))
known_then o = option_map (λ s. (s.head.known, s.head.done, (s.cells 4).result)) o

waits_for_created : known_then (run counter 2 (start two) waits) ≡ Some (2 ∷ 0 ∷ 0 ∷ 0 ∷ [], 4, Some (4, 0))
unfolding step run enabled_labels drive
waits_for_created = refl

-- the fold gives the same results
fold_is : (fold_alone counter (first_begin (λ p. 0)) two 4).results ≡ (1, 2) ∷ (2, 0) ∷ (3, 0) ∷ (4, 0) ∷ []
unfolding after_segments
fold_is = refl

-- four tickets, four segments, four paths entered: 2 * 4 + 3 * 4 + 2 * 4 labels
work_is : work_after counter (first_begin (λ p. 0)) two 4 ≡ record { tickets = 4; segments = 4; entered = 4; moves = 0 }
unfolding after_segments
work_is = refl

so_many : length waits ≡ 28
unfolding step enabled_labels drive
so_many = refl

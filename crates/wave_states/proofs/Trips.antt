-- Events that go down one child after another, and moves, over two hosts: what the drives give.
use Rattle.std.proofs.Common.{◌≡◌, refl, ℕ, suc, List, [], ◌∷◌, ◌++◌, Option, Some, None, Bool, true, false, length, pos}
use Rattle.std.specs.Prelude.{option_map, count_by, map, if◌then◌else◌}
use Rattle.wave_base.specs.declared.path.Step.{Step}
use Rattle.wave_base.specs.declared.path.Path.{Path}
use Rattle.std.specs.List.{list_any}
use Rattle.wave_base.specs.Paths.{step_eq}
use Rattle.wave_base.specs.Tree.{shots}
use Rattle.wave_states.specs.Actors.{Actors, Left, Go, Over}
use Rattle.wave_states.specs.States.{State, Entry}
use Rattle.wave_states.specs.Labels.{Act, Label, Admit, Queue, Grant, Start, Stop, Free, Commit, is_pass}
use Rattle.wave_states.specs.Begins.{Begin, first_begin, start_state}
use Rattle.wave_states.specs.Canonical.{enabled_labels}
use Rattle.wave_states.specs.Steps.{step}
use Rattle.wave_states.specs.Runs.{run, drive, seed, oldest, newest, movers, mail_last, Rule}
use Rattle.wave_states.specs.Alone.{fold_alone, places_alone, after_segments}
use Rattle.wave_states.specs.Work.{work_after}
use Rattle.wave_states.specs.Owners.{trail_from, first_trail}

-- a way down with an end: it adds one to each context and tells the last sum; it only looks at the last one and tells its sum;
-- or it moves the last one to a host
pub data Way : Type 0 where
  Adds Looks : Way
  Moves_to : ℕ → Way

pub record Trip : Type 0 where
  pub todo : List Step
  pub at : Path
  pub way : Way

pub data Told : Type 0 where
  Sum : ℕ → Told
  Moved Absent : Path → ℕ → Told

abbrev pub move_told : Told → Option (Path × ℕ)
move_told (Moved p h) = Some (p, h)
move_told _ = None

abbrev pub is_there : List Step → Step → Bool
is_there cs s = list_any (step_eq s) cs

abbrev pub end_of : Trip → ℕ → Left Trip ℕ Told
end_of a f = on a.way
  where
    on : Way → Left Trip ℕ Told
    on Adds = record { actor = a; fields = suc f; pause = Over (Sum (suc f)) }
    on Looks = record { actor = a; fields = f; pause = Over (Sum f) }
    on (Moves_to h) = record { actor = a; fields = f; pause = Over (Moved a.at h) }

abbrev pub further : Trip → ℕ → List Step → Step → List Step → Left Trip ℕ Told
further a f cs s ss = on a.way
  where
    next : Trip
    next = record { todo = ss; at = a.at ++ s ∷ []; way = a.way }

    on : Way → Left Trip ℕ Told
    on Adds = record { actor = next; fields = suc f; pause = Go s }
    on Looks = record { actor = next; fields = f; pause = Go s }
    on (Moves_to h) = if is_there cs s then record { actor = next; fields = f; pause = Go s } else record { actor = a; fields = f; pause = Over (Absent a.at h) }

abbrev pub go_on : Trip → ℕ → List Step → List Step → Left Trip ℕ Told
go_on a f cs [] = end_of a f
go_on a f cs (s ∷ ss) = further a f cs s ss

abbrev pub looks_now : Way → List Step → Bool
looks_now Looks [] = true
looks_now _ _ = false

abbrev pub is_move : Trip → Bool
is_move j = on j.way
  where
    on : Way → Bool
    on (Moves_to h) = true
    on _ = false

abbrev pub trips : Actors Trip ℕ Told Trip
trips = record {
  make = λ j t. j;
  segment = λ a f cs. go_on a f cs a.todo;
  peeks = λ a. looks_now a.way a.todo;
  initial = λ p. 0;
  created = λ r. [];
  moved = move_told;
  enough = λ j t tree. suc (length j.todo);
  unended = Sum 0;
}

abbrev pub hall : Step
hall = record { class = record { 0 = 1 }; key = pos 5 }

abbrev pub stall : Step
stall = record { class = record { 0 = 2 }; key = pos 0 }

abbrev pub trip : List Step → Way → Trip
trip todo way = record { todo = todo; at = []; way = way }

-- visits and moves of one child: its place changes twice
abbrev pub moves : List (List Trip)
moves = (trip (hall ∷ []) Adds ∷ trip (hall ∷ []) (Moves_to 1) ∷ trip (hall ∷ []) Adds ∷ trip (hall ∷ []) (Moves_to 0) ∷ []) ∷ []

abbrev pub begin : Begin ℕ
begin = first_begin (λ p. 0)

abbrev pub entry_seen : Option (Entry ℕ) → Option (ℕ × ℕ)
entry_seen o = option_map (λ e. (e.served, e.moves)) o

abbrev pub passes : List Label → ℕ
passes ls = count_by (λ l. is_pass l.act) ls

abbrev pub summary : Rule Trip ℕ Told Trip → ℕ → ℕ → List (List Trip) → Option (ℕ × ℕ × ℕ × Option (ℕ × ℕ) × List ℕ)
summary rule x workers batches =
    let ls : List Label = drive trips workers 2 rule 200 x (start_state begin batches) in
    option_map (λ s. (
      length ls,
      passes ls,
      length (enabled_labels trips workers 2 s),
      entry_seen ((s.columns (hall ∷ [])).store 0),
      trail_from trips workers (hall ∷ []) (first_trail begin (hall ∷ [])) (Some (start_state begin batches)) ls,
    )) (run trips workers (start_state begin batches) ls)

-- four tickets, eight segments, eight paths entered, two moves: 8 + 24 + 16 labels, besides the Passes
seed_0 : summary seed 0 1 moves ≡ Some (50, 2, 0, Some (4, 2), 0 ∷ 1 ∷ 0 ∷ [])
unfolding step run enabled_labels drive
seed_0 = refl

seed_7 : summary seed 7 4 moves ≡ Some (49, 1, 0, Some (4, 2), 0 ∷ 1 ∷ 0 ∷ [])
unfolding step run enabled_labels drive
seed_7 = refl

oldest_first : summary oldest 0 4 moves ≡ Some (50, 2, 0, Some (4, 2), 0 ∷ 1 ∷ 0 ∷ [])
unfolding step run enabled_labels drive
oldest_first = refl

newest_first : summary newest 0 4 moves ≡ Some (48, 0, 0, Some (4, 2), 0 ∷ 1 ∷ 0 ∷ [])
unfolding step run enabled_labels drive
newest_first = refl

movers_first : summary (movers is_move) 0 4 moves ≡ Some (49, 1, 0, Some (4, 2), 0 ∷ 1 ∷ 0 ∷ [])
unfolding step run enabled_labels drive
movers_first = refl

mails_last : summary mail_last 0 4 moves ≡ Some (48, 0, 0, Some (4, 2), 0 ∷ 1 ∷ 0 ∷ [])
unfolding step run enabled_labels drive
mails_last = refl

fold_is : (fold_alone trips begin moves 4).results ≡ Sum 1 ∷ Moved (hall ∷ []) 1 ∷ Sum 2 ∷ Moved (hall ∷ []) 0 ∷ []
unfolding after_segments
fold_is = refl

work_is : work_after trips begin moves 4 ≡ record { tickets = 4; segments = 8; entered = 8; moves = 2 }
unfolding after_segments
work_is = refl

places_are : shots (places_alone trips begin moves 3) ≡ ([], 0) ∷ (hall ∷ [], 1) ∷ []
unfolding after_segments
places_are = refl

-- Events that only look at their last context hold it together: the two Starts at the child come before either Stop there.
abbrev pub looks : List (List Trip)
looks = (trip (hall ∷ []) Adds ∷ trip (hall ∷ []) Looks ∷ trip (hall ∷ []) Looks ∷ trip (hall ∷ []) Adds ∷ []) ∷ []

looks_fold : (fold_alone trips begin looks 4).results ≡ Sum 1 ∷ Sum 1 ∷ Sum 1 ∷ Sum 2 ∷ []
unfolding after_segments
looks_fold = refl

looks_seed : summary seed 5 2 looks ≡ Some (48, 0, 0, Some (4, 0), 0 ∷ [])
unfolding step run enabled_labels drive
looks_seed = refl

-- From a later Start: the root and the child are on host 1, so host 0 has the root's mark, and an Enter to the root is passed on once.
abbrev pub away : Begin ℕ
away = record {
  tree = record { paths = [] ∷ (hall ∷ []) ∷ []; fields = λ p. 4 };
  places = record { paths = [] ∷ (hall ∷ []) ∷ []; fields = λ p. 1 };
  before = 7;
}

abbrev pub later : State Trip ℕ Told Trip
later = start_state away ((trip (hall ∷ []) Adds ∷ []) ∷ [])

abbrev pub later_seen : Option (State Trip ℕ Told Trip) → Option (Option Told × Option (ℕ × ℕ) × Option (ℕ × ℕ))
later_seen o = option_map (λ s. ((s.cells 8).result, entry_seen ((s.columns []).store 1), entry_seen ((s.columns (hall ∷ [])).store 1))) o

abbrev pub later_drive : List Label
later_drive = drive trips 1 2 seed 40 0 later

from_later : later_seen (run trips 1 later later_drive) ≡ Some (Some (Sum 5), Some (8, 1), Some (1, 0))
unfolding step run enabled_labels drive
from_later = refl

so_many : length later_drive ≡ 13
unfolding step enabled_labels drive
so_many = refl

passed_once : passes later_drive ≡ 1
unfolding step enabled_labels drive
passed_once = refl

-- Ties. After its first Stop an event has two labels, the Queue of its Enter and the Free of its Release: the oldest rule takes the first
-- label of a ticket, the newest rule the last one.
abbrev at_zero : List Act → List Label
at_zero acts = map (λ a. record { worker = 0; host = 0; act = a }) acts

abbrev alone_down : List (List Trip)
alone_down = (trip (hall ∷ []) Adds ∷ []) ∷ []

oldest_takes_first : drive trips 1 1 oldest 40 0 (start_state begin alone_down)
    ≡ at_zero (Admit 1 ∷ Queue 1 1 [] ∷ Grant 1 [] ∷ Start 1 [] ∷ Stop 1 [] ∷ Queue 1 2 (hall ∷ []) ∷ Grant 1 (hall ∷ []) ∷ Start 1 (hall ∷ []) ∷ Stop 1 (hall ∷ []) ∷ Free 1 3 [] ∷ Free 1 4 (hall ∷ []) ∷ Commit 1 ∷ [])
unfolding step enabled_labels drive
oldest_takes_first = refl

newest_takes_last : drive trips 1 1 newest 40 0 (start_state begin alone_down)
    ≡ at_zero (Admit 1 ∷ Queue 1 1 [] ∷ Grant 1 [] ∷ Start 1 [] ∷ Stop 1 [] ∷ Free 1 3 [] ∷ Queue 1 2 (hall ∷ []) ∷ Grant 1 (hall ∷ []) ∷ Start 1 (hall ∷ []) ∷ Stop 1 (hall ∷ []) ∷ Commit 1 ∷ Free 1 4 (hall ∷ []) ∷ [])
unfolding step enabled_labels drive
newest_takes_last = refl

-- of two tickets the oldest rule goes on with the lower one, the newest rule with the higher one where it can
abbrev two_down : List (List Trip)
two_down = (trip (hall ∷ []) Adds ∷ trip (hall ∷ []) Adds ∷ []) ∷ []

oldest_takes_least : drive trips 1 1 oldest 9 0 (start_state begin two_down)
    ≡ at_zero (Admit 1 ∷ Queue 1 1 [] ∷ Grant 1 [] ∷ Start 1 [] ∷ Stop 1 [] ∷ Queue 1 2 (hall ∷ []) ∷ Grant 1 (hall ∷ []) ∷ Start 1 (hall ∷ []) ∷ Stop 1 (hall ∷ []) ∷ [])
unfolding step enabled_labels drive
oldest_takes_least = refl

newest_takes_greatest : drive trips 1 1 newest 12 0 (start_state begin two_down)
    ≡ at_zero (Admit 1 ∷ Admit 2 ∷ Queue 2 1 [] ∷ Queue 1 1 [] ∷ Grant 1 [] ∷ Start 1 [] ∷ Stop 1 [] ∷ Free 1 3 [] ∷ Grant 2 [] ∷ Start 2 [] ∷ Stop 2 [] ∷ Free 2 3 [] ∷ [])
unfolding step enabled_labels drive
newest_takes_greatest = refl

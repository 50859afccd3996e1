-- What the rules pick from lists in which two labels could be picked.
use Rattle.std.proofs.Common.{◌≡◌, ℕ, true, false, List, [], ◌∷◌, Some, None, refl}
use Rattle.std.specs.Prelude.{map}
use Rattle.wave_states.specs.Labels.{Act, Label, Admit, Queue, Grant, Visit, Start, Stop, Free, Pass, Land, Commit, ticket_of, takes_mail}
use Rattle.wave_states.specs.Begins.{start_state}
use Rattle.wave_states.specs.Runs.{movers, mail_last, oldest, newest, seed}
use Rattle.wave_states.specs.States.{State}
use Rattle.wave_states.proofs.Trips.{Trip, Told, Adds, Moves_to, trip, is_move, hall, away}

abbrev label : ℕ → Act → Label
label host a = record { worker = 0; host = host; act = a }

-- after seven earlier tickets: 8 and 11 visit the hall, 9 and 10 move it
abbrev state : State Trip ℕ Told Trip
state = start_state away ((trip (hall ∷ []) Adds ∷ trip (hall ∷ []) (Moves_to 1) ∷ trip (hall ∷ []) (Moves_to 0) ∷ trip (hall ∷ []) Adds ∷ []) ∷ [])

-- ---- movers

-- Of two labels of moves the first in the list is taken: not the last, not that of the lower ticket. And 8 is no move, though the second job is.
first_mover : movers is_move 3 state (label 0 (Queue 8 1 []) ∷ label 1 (Start 10 []) ∷ label 0 (Grant 9 []) ∷ label 0 (Commit 8) ∷ []) ≡ (3, Some (label 1 (Start 10 [])))
first_mover = refl

-- the same with the tickets the other way round
first_mover_again : movers is_move 3 state (label 0 (Grant 11 []) ∷ label 0 (Grant 9 []) ∷ label 1 (Start 10 []) ∷ []) ≡ (3, Some (label 0 (Grant 9 [])))
first_mover_again = refl

-- without a move the first of all, and not the last
no_mover : movers is_move 3 state (label 0 (Queue 11 1 []) ∷ label 0 (Commit 8) ∷ []) ≡ (3, Some (label 0 (Queue 11 1 [])))
no_mover = refl

-- a ticket whose job is not known is no move
not_known : movers is_move 3 state (label 0 (Commit 8) ∷ label 0 (Admit 12) ∷ []) ≡ (3, Some (label 0 (Commit 8)))
not_known = refl

nothing_to_move : movers is_move 3 state [] ≡ (3, None)
nothing_to_move = refl

-- ---- mail last

-- Of two that take no mail the first, behind a Queue and before a Free
first_without_mail : mail_last 3 state (label 0 (Queue 8 1 []) ∷ label 1 (Start 9 []) ∷ label 0 (Grant 8 []) ∷ label 0 (Free 8 2 []) ∷ []) ≡ (3, Some (label 1 (Start 9 [])))
first_without_mail = refl

-- where all take mail the last, and not the first
all_take_mail : mail_last 3 state (label 0 (Queue 8 1 []) ∷ label 0 (Visit 9 2 []) ∷ label 1 (Free 8 2 []) ∷ []) ≡ (3, Some (label 1 (Free 8 2 [])))
all_take_mail = refl

no_mail : mail_last 3 state [] ≡ (3, None)
no_mail = refl

-- the five kinds that take a mail, and the five that don't
with_mail : map takes_mail (Queue 8 1 [] ∷ Visit 8 1 [] ∷ Free 8 1 [] ∷ Pass 8 1 [] 0 ∷ Land 8 1 [] ∷ []) ≡ true ∷ true ∷ true ∷ true ∷ true ∷ []
with_mail = refl

without_mail : map takes_mail (Admit 8 ∷ Grant 8 [] ∷ Start 8 [] ∷ Stop 8 [] ∷ Commit 8 ∷ []) ≡ false ∷ false ∷ false ∷ false ∷ false ∷ []
without_mail = refl

-- a label's ticket, and not the number of its mail or its host
tickets : map ticket_of (Admit 8 ∷ Queue 8 1 [] ∷ Grant 8 [] ∷ Visit 8 1 [] ∷ Start 8 [] ∷ Stop 8 [] ∷ Free 8 1 [] ∷ Pass 8 1 [] 0 ∷ Land 8 1 [] ∷ Commit 8 ∷ []) ≡ 8 ∷ 8 ∷ 8 ∷ 8 ∷ 8 ∷ 8 ∷ 8 ∷ 8 ∷ 8 ∷ 8 ∷ []
tickets = refl

-- ---- oldest and newest

-- 9, 8, 8, 10: of the two of the least ticket the first
two_oldest : oldest 3 state (label 0 (Queue 9 1 []) ∷ label 0 (Queue 8 1 []) ∷ label 1 (Free 8 2 []) ∷ label 0 (Commit 10) ∷ []) ≡ (3, Some (label 0 (Queue 8 1 [])))
two_oldest = refl

-- 9, 10, 10, 8: of the two of the greatest ticket the last
two_newest : newest 3 state (label 0 (Queue 9 1 []) ∷ label 0 (Queue 10 1 []) ∷ label 1 (Free 10 2 []) ∷ label 0 (Commit 8) ∷ []) ≡ (3, Some (label 1 (Free 10 2 [])))
two_newest = refl

none_oldest : oldest 3 state [] ≡ (3, None)
none_oldest = refl

none_newest : newest 3 state [] ≡ (3, None)
none_newest = refl

-- ---- by a seed

abbrev three : List Label
three = label 0 (Queue 8 1 []) ∷ label 0 (Grant 9 []) ∷ label 0 (Commit 8) ∷ []

-- From 1 the draw is 908834774, by 3 there remain 2: the third of three. From a seed of 0 the multiplier would be no matter.
third_of_three : seed 1 state three ≡ (7806831264735756412, Some (label 0 (Commit 8)))
third_of_three = refl

-- from 5 it is 1724882992, by 3 there remains 1; and by 2 none
second_of_three : seed 5 state three ≡ (14816632086413376816, Some (label 0 (Grant 9 [])))
second_of_three = refl

first_of_two : seed 5 state (label 0 (Grant 9 []) ∷ label 0 (Commit 8) ∷ []) ≡ (14816632086413376816, Some (label 0 (Grant 9 [])))
first_of_two = refl

-- with one label there is no draw, and with none
only_one : seed 5 state (label 0 (Grant 9 []) ∷ []) ≡ (5, Some (label 0 (Grant 9 [])))
only_one = refl

no_label : seed 5 state [] ≡ (5, None)
no_label = refl

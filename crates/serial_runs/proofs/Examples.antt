-- Computed examples: which lists are serial; a serial drive and another one of the same plan, which end in one state and are no
-- reordering of one another; which neighbours change places; and where a line stands.
use Rattle.std.proofs.Common.{◌≡◌, ◌≤◌, ℕ, nat_lt, true, Option, Some, None, List, [], ◌∷◌, length, refl, arith}
use Rattle.std.specs.Prelude.{if◌then◌else◌, ◌++◌, Bool, false, is_some, map, nat_eq, option_map, option_and_then}
use Rattle.wave_base.specs.Kids.{child_at}
use Rattle.wave_states.specs.Begins.{start_state}
use Rattle.wave_states.specs.Canonical.{enabled_labels}
use Rattle.wave_states.specs.Labels.{Act, Label, Admit, Queue, Grant, Start, Stop, Free, Commit, ticket_of}
use Rattle.wave_states.specs.Runs.{run, drive, newest, oldest, Rule}
use Rattle.wave_states.specs.States.{Entry, Event, Mark, State}
use Rattle.wave_states.specs.Steps.{step}
use Rattle.wave_states.proofs.Trips.{Trip, Told, begin, hall, moves, passes, trips}
use Rattle.serial_runs.specs.Origins.{line_at}
use Rattle.serial_runs.specs.Serial.{IsSerial}

abbrev at_zero : Act → Label
at_zero a = record { worker = 0; host = 0; act = a }

-- ---- serial

-- all of ticket 1, and then of ticket 3: a ticket may have several labels, and one may have none
one_after_the_other : IsSerial (at_zero (Admit 1) ∷ at_zero (Start 1 []) ∷ at_zero (Commit 1) ∷ at_zero (Admit 3) ∷ [])
one_after_the_other = ((omega arith, (omega arith, (omega arith, tt))), ((omega arith, (omega arith, tt)), ((omega arith, tt), (tt, tt))))

-- a label of ticket 1 behind one of ticket 2, next to it or later
not_next : IsSerial (at_zero (Admit 1) ∷ at_zero (Admit 2) ∷ at_zero (Free 1 2 []) ∷ []) → ⊥
not_next r = (let l : 2 ≤ 1 = r.1.0.0 in omega (arith, l))

not_later : IsSerial (at_zero (Admit 2) ∷ at_zero (Admit 3) ∷ at_zero (Commit 1) ∷ []) → ⊥
not_later r = (let l : 2 ≤ 1 = r.0.1.0 in omega (arith, l))

-- ---- two drives of one plan: two visits and two moves of the hall

abbrev driven : Rule Trip ℕ Told Trip → List Label
driven rule = drive trips 4 2 rule 200 0 (start_state begin moves)

-- the tickets of labels, each once where it stands several times in a row
abbrev without : ℕ → List ℕ → List ℕ
without t [] = t ∷ []
without t (u ∷ ts) = if nat_eq t u then u ∷ ts else t ∷ u ∷ ts

abbrev stretches : List Label → List ℕ
stretches [] = []
stretches (l ∷ ls) = without (ticket_of l.act) (stretches ls)

-- by the oldest rule one ticket comes after the other
oldest_is_serial : stretches (driven oldest) ≡ 1 ∷ 2 ∷ 3 ∷ 4 ∷ []
unfolding step run enabled_labels drive
oldest_is_serial = refl

-- by the newest one they go on in turn
newest_is_not : nat_lt 4 (length (stretches (driven newest))) ≡ true
unfolding step run enabled_labels drive
newest_is_not = refl

-- how many labels, and how many Passes among them
abbrev counts : List Label → ℕ × ℕ
counts ls = (length ls, passes ls)

-- The serial drive passes two Enters to the hall, which has moved by then; the other one passes none, so it has two labels fewer.
no_reordering : map counts (driven oldest ∷ driven newest ∷ []) ≡ (50, 2) ∷ (48, 0) ∷ []
unfolding step run enabled_labels drive
no_reordering = refl

-- what they end in: of the hall its marks, by host, its moves and how many it served; and how many numbers the root gave for it
abbrev seen : State Trip ℕ Told Trip → List (Option (ℕ × ℕ)) × Option (ℕ × ℕ) × Option (ℕ × ℕ)
seen s = (
  map (λ h. option_map (λ (m : Mark). (m.to, m.number)) ((s.columns (hall ∷ [])).gone h)) (0 ∷ 1 ∷ []),
  option_map (λ (e : Entry ℕ). (e.moves, e.served)) ((s.columns (hall ∷ [])).store 0),
  option_and_then (λ (e : Entry ℕ). option_and_then (λ r. option_map (λ c. (c.given, c.birth.0)) (child_at r.children hall)) e.body) ((s.columns []).store 0),
)

ends_in_one : map (λ ls. option_map seen (run trips 4 (start_state begin moves) ls)) (driven oldest ∷ driven newest ∷ [])
    ≡ Some (None ∷ Some (0, 2) ∷ [], Some (2, 4), Some (4, 0)) ∷ Some (None ∷ Some (0, 2) ∷ [], Some (2, 4), Some (4, 0)) ∷ []
unfolding step run enabled_labels drive
ends_in_one = refl

-- ---- neighbours

abbrev by_worker : ℕ → Act → Label
by_worker w a = record { worker = w; host = 0; act = a }

-- ticket 1 is at the root by worker 0, which has just put back what it ran
abbrev first_visit : List Label
first_visit = map (by_worker 0) (Admit 1 ∷ Queue 1 1 [] ∷ Grant 1 [] ∷ Start 1 [] ∷ [])

-- of the first two tickets whether they have an actor at home and how many mails they sent, and how many were admitted
abbrev under_way : State Trip ℕ Told Trip → ℕ × List (Option (Bool × ℕ))
under_way s = (s.admitted, map (λ t. option_map (λ (e : Event Trip). (is_some e.actor, e.sent)) (s.cells t).event) (1 ∷ 2 ∷ []))

abbrev ways : List (List Label) → List (Option (ℕ × List (Option (Bool × ℕ))))
ways ls = map (λ l. option_map under_way (run trips 4 (start_state begin moves) (first_visit ++ l))) ls

-- a Stop and another worker's Admit: ticket 1 has sent its first Enter, one to the hall and a Release of the root
change_places : ways ((by_worker 0 (Stop 1 []) ∷ by_worker 1 (Admit 2) ∷ []) ∷ (by_worker 1 (Admit 2) ∷ by_worker 0 (Stop 1 []) ∷ []) ∷ [])
    ≡ Some (2, Some (true, 3) ∷ Some (true, 1) ∷ []) ∷ Some (2, Some (true, 3) ∷ Some (true, 1) ∷ []) ∷ []
unfolding step run
change_places = refl

-- an Admit of the worker that stops: it has to stop first
keep_places : ways ((by_worker 0 (Stop 1 []) ∷ by_worker 0 (Admit 2) ∷ []) ∷ (by_worker 0 (Admit 2) ∷ by_worker 0 (Stop 1 []) ∷ []) ∷ [])
    ≡ Some (2, Some (true, 3) ∷ Some (true, 1) ∷ []) ∷ None ∷ []
unfolding step run
keep_places = refl

-- two Admits: each takes the next ticket
one_by_one : ways ((by_worker 1 (Admit 2) ∷ by_worker 2 (Admit 3) ∷ []) ∷ (by_worker 2 (Admit 3) ∷ by_worker 1 (Admit 2) ∷ []) ∷ [])
    ≡ Some (3, Some (false, 1) ∷ Some (true, 1) ∷ []) ∷ None ∷ []
unfolding step run
one_by_one = refl

-- ---- lines

-- by batch and by place in it, both from 0; and none past the end of a batch, or past the last one
abbrev batches : List (List ℕ)
batches = (5 ∷ 6 ∷ []) ∷ (7 ∷ []) ∷ []

lines : line_at batches 0 1 ∷ line_at batches 1 0 ∷ line_at batches 1 1 ∷ line_at batches 2 0 ∷ [] ≡ Some 6 ∷ Some 7 ∷ None ∷ None ∷ []
lines = refl

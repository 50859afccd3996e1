-- What a run begins with where parents and children are on different hosts.
use Rattle.std.proofs.Common.{◌≡◌, ℕ, List, [], ◌∷◌, Option, Some, None, pos, refl}
use Rattle.std.specs.Prelude.{map, option_map}
use Rattle.wave_base.specs.declared.children.Child.{Child}
use Rattle.wave_base.specs.declared.path.Path.{Path}
use Rattle.wave_base.specs.declared.path.Step.{Step}
use Rattle.wave_states.specs.Begins.{Begin, child_at_start, entry_at_start, column_at_start, start_state}
use Rattle.wave_states.specs.Canonical.{enabled_labels}
use Rattle.wave_states.specs.Labels.{Label}
use Rattle.wave_states.specs.Runs.{run, drive, oldest}
use Rattle.wave_states.specs.States.{State, Entry, Record}
use Rattle.wave_states.specs.Steps.{step}
use Rattle.wave_states.proofs.Trips.{Trip, Told, Sum, Adds, trip, trips, hall, stall}

-- host by path: the root on 2, the hall on 1, the stall in it on 0
abbrev host_of : Path → ℕ
host_of [] = 2
host_of (s ∷ []) = 1
host_of (s ∷ t ∷ p) = 0

-- after seven earlier tickets; each context has a number of its own
abbrev number_of : Path → ℕ
number_of [] = 40
number_of (s ∷ []) = 50
number_of (s ∷ t ∷ p) = 60

abbrev paths : List Path
paths = [] ∷ (hall ∷ []) ∷ (hall ∷ stall ∷ []) ∷ []

abbrev apart : Begin ℕ
apart = record {
  tree = record { paths = paths; fields = number_of };
  places = record { paths = paths; fields = host_of };
  before = 7;
}

-- the hall was born on its own host, and not on the root's; the stall on its own, and not on the hall's
birth_of_hall : child_at_start apart [] hall ≡ (hall, record { given = 0; birth = record { 0 = 1 } })
birth_of_hall = refl

birth_of_stall : child_at_start apart (hall ∷ []) stall ≡ (stall, record { given = 0; birth = record { 0 = 0 } })
birth_of_stall = refl

-- what an entry shows: its fields, its children with how many numbers were given for them and their hosts of birth, how many it served, and its moves
pub record Seen : Type 0 where
  pub fields : ℕ
  pub births : List (ℕ × ℕ)
  pub served : ℕ
  pub moves : ℕ

abbrev in_record : Option (Record ℕ) → ℕ × List (ℕ × ℕ)
in_record None = (0, [])
in_record (Some r) = (r.fields, map (λ (x : Step × Child). (x.1.given, x.1.birth.0)) r.children)

abbrev seen : Entry ℕ → Seen
seen e = record { fields = (in_record e.body).0; births = (in_record e.body).1; served = e.served; moves = e.moves }

-- the root has its one child, which is the hall and not the stall; the tickets before count as served there; and it counts as moved from host 0
root_at_start : seen (entry_at_start apart []) ≡ record { fields = 40; births = (0, 1) ∷ []; served = 7; moves = 1 }
root_at_start = refl

-- below the root nothing was served and nothing moved
hall_at_start : seen (entry_at_start apart (hall ∷ [])) ≡ record { fields = 50; births = (0, 0) ∷ []; served = 0; moves = 0 }
hall_at_start = refl

-- by host: where it is stored, and where a mark tells that it went
abbrev stored : Path → List (Option Seen)
stored p = map (λ h. option_map seen ((column_at_start apart p).store h)) (0 ∷ 1 ∷ 2 ∷ [])

abbrev marks : Path → List (Option (ℕ × ℕ))
marks p = map (λ h. option_map {U = ℕ × ℕ} (λ m. (m.to, m.number)) ((column_at_start apart p).gone h)) (0 ∷ 1 ∷ 2 ∷ [])

root_stored : stored [] ≡ None ∷ None ∷ Some (record { fields = 40; births = (0, 1) ∷ []; served = 7; moves = 1 }) ∷ []
root_stored = refl

root_marks : marks [] ≡ Some (2, 1) ∷ None ∷ None ∷ []
root_marks = refl

stall_stored : stored (hall ∷ stall ∷ []) ≡ Some (record { fields = 60; births = []; served = 0; moves = 0 }) ∷ None ∷ None ∷ []
stall_stored = refl

hall_marks : marks (hall ∷ []) ≡ None ∷ None ∷ None ∷ []
hall_marks = refl

-- a context that is not there is stored nowhere
nowhere : stored (stall ∷ []) ≡ None ∷ None ∷ None ∷ []
nowhere = refl

-- An event goes down through all three from host to host. Were an Enter sent to the parent's host, another entry would be born there.
abbrev first_state : State Trip ℕ Told Trip
first_state = start_state apart ((trip (hall ∷ stall ∷ []) Adds ∷ []) ∷ [])

abbrev labels : List Label
labels = drive trips 1 3 oldest 40 0 first_state

abbrev after : State Trip ℕ Told Trip → Option Told × List (Option Seen)
after s = ((s.cells 8).result, map (λ h. option_map seen ((s.columns (hall ∷ stall ∷ [])).store h)) (0 ∷ 1 ∷ 2 ∷ []))

goes_down : option_map after (run trips 1 first_state labels) ≡ Some (Some (Sum 61), Some (record { fields = 61; births = []; served = 1; moves = 0 }) ∷ None ∷ None ∷ [])
unfolding step run enabled_labels drive
goes_down = refl

-- A child that is new in the run is born where its parent is: a second stall in the hall, on host 1.
abbrev other : Step
other = record { class = record { 0 = 2 }; key = pos 9 }

abbrev second_state : State Trip ℕ Told Trip
second_state = start_state apart ((trip (hall ∷ other ∷ []) Adds ∷ []) ∷ [])

abbrev hall_after : State Trip ℕ Told Trip → Option Seen
hall_after s = option_map seen ((s.columns (hall ∷ [])).store 1)

-- the stall that was there has no number given, and the new one its first; its birth is the hall's host
born_in_run : option_map hall_after (run trips 1 second_state (drive trips 1 3 oldest 40 0 second_state)) ≡ Some (Some (record { fields = 51; births = (0, 0) ∷ (1, 1) ∷ []; served = 1; moves = 0 }))
unfolding step run enabled_labels drive
born_in_run = refl

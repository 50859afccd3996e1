-- Who may join those that hold a context, and a run in which two events hold one together.
use Rattle.std.proofs.Common.{◌≡◌, ℕ, Bool, true, false, List, [], ◌∷◌, ◌++◌, length, Option, Some, None, refl}
use Rattle.std.specs.Prelude.{map, nat_lt, if◌then◌else◌, option_map}
use Rattle.wave_base.specs.declared.path.Path.{Path}
use Rattle.wave_states.specs.Begins.{start_state}
use Rattle.wave_states.specs.Canonical.{enabled_labels}
use Rattle.wave_states.specs.Labels.{Act, Label, Admit, Queue, Grant, Start, Stop, Free}
use Rattle.wave_states.specs.Runs.{run, drive, first_of, Rule}
use Rattle.wave_states.specs.States.{State, Claim, Entry, Hand}
use Rattle.wave_states.specs.Steps.{step, may_join}
use Rattle.wave_states.proofs.Trips.{Trip, Told, Adds, Looks, trip, trips, begin, hall}

-- ---- one by one

abbrev claim : ℕ → Bool → Claim
claim t peek = record { ticket = t; peek = peek }

-- where nobody holds it anybody may
nobody_holds : map (λ b. may_join b []) (true ∷ false ∷ []) ≡ true ∷ true ∷ []
nobody_holds = refl

-- one that only looks joins one that only looks, and two
joins_peek : may_join true (claim 1 true ∷ []) ≡ true
joins_peek = refl

joins_peeks : may_join true (claim 1 true ∷ claim 2 true ∷ []) ≡ true
joins_peeks = refl

-- one that doesn't only look joins nobody
joins_no_peek : may_join false (claim 1 true ∷ []) ≡ false
joins_no_peek = refl

-- nobody joins one that holds it alone
alone_for_a_peek : may_join true (claim 1 false ∷ []) ≡ false
alone_for_a_peek = refl

alone_for_another : may_join false (claim 1 false ∷ []) ≡ false
alone_for_another = refl

-- nor where it is one of several, the first or the last
one_of_several : may_join true (claim 1 false ∷ claim 2 true ∷ []) ∷ may_join true (claim 1 true ∷ claim 2 false ∷ []) ∷ [] ≡ false ∷ false ∷ []
one_of_several = refl

-- ---- a run, label by label

abbrev at_zero : ℕ → List Act → List Label
at_zero w acts = map (λ a. record { worker = w; host = 0; act = a }) acts

-- two events that look at the hall, and one that adds there
abbrev first_state : State Trip ℕ Told Trip
first_state = start_state begin ((trip (hall ∷ []) Looks ∷ trip (hall ∷ []) Looks ∷ trip (hall ∷ []) Adds ∷ []) ∷ [])

abbrev after : List Label → Option (State Trip ℕ Told Trip)
after ls = run trips 2 first_state ls

abbrev holders : Option (Entry ℕ) → List Claim
holders None = []
holders (Some e) = e.holders

abbrev held : State Trip ℕ Told Trip → List Claim
held s = holders ((s.columns (hall ∷ [])).store 0)

-- an event goes through the root into the hall's line
abbrev down : ℕ → List Act
down t = Queue t 1 [] ∷ Grant t [] ∷ Start t [] ∷ Stop t [] ∷ Free t 3 [] ∷ Queue t 2 (hall ∷ []) ∷ []

abbrev in_line : List Label
in_line = at_zero 0 (Admit 1 ∷ Admit 2 ∷ Admit 3 ∷ down 1 ++ down 2 ++ down 3)

-- Both look at the hall at once: the second is granted it while the first holds it. Where they may not join it is no run.
abbrev together : List Label
together = in_line ++ at_zero 0 (Grant 1 (hall ∷ []) ∷ Grant 2 (hall ∷ []) ∷ [])

both_hold : option_map held (after together) ≡ Some (claim 1 true ∷ claim 2 true ∷ [])
unfolding step run
both_hold = refl

-- both Starts come before either Stop, by two workers
abbrev starts : List Label
starts = together ++ at_zero 0 (Start 1 (hall ∷ []) ∷ []) ++ at_zero 1 (Start 2 (hall ∷ []) ∷ [])

abbrev run_by : Option (Hand Trip ℕ) → Option (ℕ × Path)
run_by o = option_map {U = ℕ × Path} (λ g. (g.ticket, g.path)) o

both_run : option_map (λ s. map (λ w. run_by (s.hands w)) (0 ∷ 1 ∷ [])) (after starts) ≡ Some (Some (1, hall ∷ []) ∷ Some (2, hall ∷ []) ∷ [])
unfolding step run
both_run = refl

-- and the record stays where it is, for others to look at
record_stays : option_map (λ s. option_map (λ e. option_map (λ r. r.fields) e.body) ((s.columns (hall ∷ [])).store 0)) (after starts) ≡ Some (Some (Some 0))
unfolding step run
record_stays = refl

-- the third doesn't join them
third_waits : after (together ++ at_zero 0 (Grant 3 (hall ∷ []) ∷ [])) ≡ None
unfolding step run
third_waits = refl

-- ---- a drive

-- the first label of the canonical list
abbrev first_label : Rule Trip ℕ Told Trip
first_label x s ls = (x, first_of ls)

-- the most that hold the hall at once, over these labels
abbrev most : State Trip ℕ Told Trip → List Label → ℕ
most s ls = over (Some s) ls
  where
    now : Option (State Trip ℕ Told Trip) → ℕ
    now None = 0
    now (Some s) = length (held s)

    next : Option (State Trip ℕ Told Trip) → Label → Option (State Trip ℕ Told Trip)
    next None l = None
    next (Some s) l = step trips 2 s l

    larger : ℕ → ℕ → ℕ
    larger m n = if nat_lt m n then n else m

    over : Option (State Trip ℕ Told Trip) → List Label → ℕ
    over o [] = now o
    over o (l ∷ ls) = larger (now o) (over (next o l) ls)

abbrev looks : State Trip ℕ Told Trip
looks = start_state begin ((trip (hall ∷ []) Looks ∷ trip (hall ∷ []) Looks ∷ []) ∷ [])

abbrev adds : State Trip ℕ Told Trip
adds = start_state begin ((trip (hall ∷ []) Adds ∷ trip (hall ∷ []) Adds ∷ []) ∷ [])

-- two at once of those that look; a machine that shares nothing has one
two_at_once : most looks (drive trips 2 1 first_label 40 0 looks) ≡ 2
unfolding step run enabled_labels drive
two_at_once = refl

-- one at a time of those that add; one that shares with all has two
one_at_a_time : most adds (drive trips 2 1 first_label 40 0 adds) ≡ 1
unfolding step run enabled_labels drive
one_at_a_time = refl

-- Small cases of what policies ask for.
use Rattle.std.proofs.Common.{◌≡◌, ℕ, pos, List, [], ◌∷◌, refl}
use Rattle.wave_base.specs.declared.finished.Place.{Place}
use Rattle.wave_base.specs.declared.policy.Policy.TheVariants.{Balance, Drain}
use Rattle.wave_base.specs.declared.script.Line.{Line}
use Rattle.wave_base.specs.declared.script.Line.TheVariants.{Move}
use Rattle.elastic_policy.specs.Moves.{load_on, heaviest, lightest, spread, balance, drain, moves_of, places_moved}

-- a context of the root, on a host, with its load
abbrev at : ℕ → ℕ → ℕ → Place × ℕ
at key host load = (record { path = record { class = record { 0 = 1 }; key = pos key } ∷ []; host = record { 0 = host } }, load)

abbrev moved : ℕ → ℕ → Line
moved key to = Move (record { class = record { 0 = 1 }; key = pos key } ∷ []) (record { 0 = to })

-- all on host 0
abbrev six : List (Place × ℕ)
six = at 0 0 3 ∷ at 1 0 2 ∷ at 2 0 1 ∷ at 3 0 1 ∷ at 4 0 1 ∷ at 5 0 1 ∷ []

all_loads : load_on six 0 ≡ 9
all_loads = refl

-- the first by 9 that may go has load 3; then by 3 the one of load 2
two_moves : balance 2 2 six ≡ moved 0 1 ∷ moved 1 1 ∷ []
two_moves = refl

one_move : moves_of 2 (Balance 1) six ≡ moved 0 1 ∷ []
one_move = refl

spread_after : spread 2 (places_moved six (balance 2 1 six)) ≡ 3
spread_after = refl

-- equal loads: none
equal_loads : balance 2 3 (at 0 0 2 ∷ at 1 1 2 ∷ []) ≡ []
equal_loads = refl

-- of two hosts of greatest load the first, of two of least load the first
first_of_greatest : heaviest 4 (at 0 1 5 ∷ at 1 2 5 ∷ []) ≡ 1
first_of_greatest = refl

first_of_least : lightest 4 (at 0 0 5 ∷ at 1 1 4 ∷ at 2 2 4 ∷ at 3 3 6 ∷ []) ≡ 1
first_of_least = refl

-- a load that is the difference is not moved, and one below it is
whole_difference : balance 2 1 (at 0 0 5 ∷ at 1 1 0 ∷ []) ≡ []
whole_difference = refl

below_difference : balance 2 1 (at 0 0 4 ∷ at 1 0 1 ∷ []) ≡ moved 0 1 ∷ []
below_difference = refl

-- nor one that is 0
no_load : balance 2 1 (at 0 0 0 ∷ at 1 0 1 ∷ at 2 0 1 ∷ []) ≡ moved 1 1 ∷ []
no_load = refl

-- a drain, in path order
in_order : moves_of 3 (Drain (record { 0 = 1 }) (record { 0 = 2 })) (at 0 1 7 ∷ at 1 0 7 ∷ at 2 1 0 ∷ []) ≡ moved 0 2 ∷ moved 2 2 ∷ []
in_order = refl

nothing_there : drain 1 0 (at 0 0 1 ∷ at 1 2 1 ∷ []) ≡ []
nothing_there = refl

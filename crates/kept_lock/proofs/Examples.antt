-- The definitions at small values, where they compute.
use Rattle.std.proofs.Common.{◌≡◌, ℕ, List, [], ◌∷◌, refl}
use Rattle.kept_lock.specs.declared.view.Known.{Known}
use Rattle.kept_lock.specs.History.{entries_of, later_than, longer_history}
use Rattle.kept_lock.specs.Knowing.{first, pass_inside, left_at, counted_on, next_pass, joined_pass}

-- an entry is its owner's number and a note
abbrev Note : Type 0
Note = ℕ × ℕ

abbrev by : Note → ℕ
by e = e.0

abbrev day : List Note
day = (0, 7) ∷ (1, 8) ∷ (0, 9) ∷ []

own_entries : entries_of by 0 day ≡ (0, 7) ∷ (0, 9) ∷ []
own_entries = refl

no_entries : entries_of by 2 day ≡ []
no_entries = refl

what_came_later : later_than ((0, 7) ∷ []) day ≡ (1, 8) ∷ (0, 9) ∷ []
what_came_later = refl

nothing_came_later : later_than day day ≡ []
nothing_came_later = refl

the_longer_one : longer_history ((0, 7) ∷ []) day ≡ day
the_longer_one = refl

the_first_of_two_as_long : longer_history {E = ℕ} (1 ∷ 2 ∷ []) (3 ∷ 4 ∷ []) ≡ 1 ∷ 2 ∷ []
the_first_of_two_as_long = refl

-- the first pass makes two more, which are numbered 1 and 2
numbers_in_turn : (next_pass {E = Note} first).number ≡ 1
numbers_in_turn = refl

the_next_number : (next_pass {E = Note} (counted_on first)).number ≡ 2
the_next_number = refl

-- it enters at what another made, and makes one entry itself
abbrev met : List Note
met = (1, 8) ∷ []

leaves_with_its_own : left_at (pass_inside first met) ((1, 8) ∷ (0, 9) ∷ []) ≡ record { number = 0; seen = (1, 8) ∷ (0, 9) ∷ []; made = (0, 9) ∷ []; passes = 1; accounts = [] }
leaves_with_its_own = refl

-- a pass that has seen less and made one entry is joined to it
abbrev other : Known Note
other = record { number = 1; seen = met; made = met; passes = 0; accounts = [] }

abbrev one : Known Note
one = record { number = 0; seen = (1, 8) ∷ (0, 9) ∷ []; made = (0, 9) ∷ []; passes = 2; accounts = [] }

keeps_number_and_entries : joined_pass one other ≡ record one { accounts = record { number = 1; made = met } ∷ [] }
keeps_number_and_entries = refl

takes_the_longer_history : (joined_pass other one).seen ≡ (1, 8) ∷ (0, 9) ∷ []
takes_the_longer_history = refl

-- Results and the tickets of what each created, in two blocks that are read row by row.
use Rattle.std.specs.Prelude.{◌≡◌, ◌-◌, List, [], ◌∷◌, length, min, vec_capacity}
use Rattle.wave_base.specs.declared.numbers.Ticket.{Ticket}
use Rattle.wave_base.specs.declared.outcome.EventResult.{EventResult}
use Rattle.wave_effects.specs.declared.kept.Settled.{Settled}
use Rattle.wave_effects.specs.declared.settlements.Settlements.TheInside.{Inside}
use Rattle.wave_effects.specs.Settling.{Settling}

abbrev pub rows_of : List EventResult → List (List Ticket) → List Settled
rows_of [] made = []
rows_of (r ∷ rs) [] = []
rows_of (r ∷ rs) (m ∷ ms) = record { result = r; made = m } ∷ rows_of rs ms

abbrev pub settling_of : Inside → Settling
settling_of a = record { items = rows_of a.results.items a.made.items; room = min (vec_capacity a.results - length a.results.items) (vec_capacity a.made - length a.made.items) }

-- both blocks are as long
abbrev pub AreRows : Inside → Type 0
AreRows a = length a.results.items ≡ length a.made.items

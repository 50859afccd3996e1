-- Those who wait and those who only look, as they are kept, and for how many more there is room.
use Rattle.std.specs.Prelude.{ℕ, List, [], ◌∷◌}
use Rattle.std.specs.FinMap as map
use Rattle.std.specs.FinSet as set
use Rattle.std.specs.HashMap.{spare}
use Rattle.std.specs.HashSet as sets
use Rattle.context_queue.specs.declared.peeks.Tickets.{Tickets}
use Rattle.context_queue.specs.declared.peeks.Tickets.TheVariants as tickets
use Rattle.context_queue.specs.declared.waiting.Claim.{Claim}
use Rattle.context_queue.specs.declared.waiting.Claims.{Claims}
use Rattle.context_queue.specs.declared.waiting.Claims.TheVariants as claims
use Rattle.context_queue.specs.Lines.{Group, Line}

-- the tickets that only look; for one there is always room
abbrev pub keys_in : Tickets → List ℕ
keys_in tickets.Nobody = []
keys_in (tickets.One t) = t ∷ []
keys_in (tickets.Many b) = b.value.keys

abbrev pub keys_room : Tickets → ℕ
keys_room tickets.Nobody = 1
keys_room (tickets.One t) = 0
keys_room (tickets.Many b) = sets.spare b.value

abbrev pub group_of : Tickets → Group
group_of o = record { tickets = set.from_list (keys_in o); room = keys_room o }

-- those that wait
abbrev pub entries_in : Claims → List (ℕ × Claim)
entries_in claims.Nobody = []
entries_in (claims.One n c) = (n, c) ∷ []
entries_in (claims.Many b) = b.value.entries

abbrev pub entries_room : Claims → ℕ
entries_room claims.Nobody = 1
entries_room (claims.One n c) = 0
entries_room (claims.Many b) = spare b.value

abbrev pub line_in : Claims → Line
line_in o = record { claims = map.from_entries (entries_in o); room = entries_room o }

-- Which moves a policy asks for. The contexts come in path order, each with its host, and beside it with its load.
use Rattle.std.specs.Prelude.{ℕ, zero, suc, ◌+◌, ◌-◌, ◌==◌, ◌&&◌, nat_lt, Bool, if◌then◌else◌, List, [], ◌∷◌, map, take, Option, Some, None}
use Rattle.std.specs.List.{filter, find}
use Rattle.wave_base.specs.declared.finished.Place.{Place}
use Rattle.wave_base.specs.declared.limits.TheConstants.{EVENT_LINES}
use Rattle.wave_base.specs.declared.path.Path.{Path}
use Rattle.wave_base.specs.declared.policy.Policy.{Policy}
use Rattle.wave_base.specs.declared.policy.Policy.TheVariants.{Balance, Drain}
use Rattle.wave_base.specs.declared.script.Line.{Line}
use Rattle.wave_base.specs.declared.script.Line.TheVariants.{Request, Move, Snapshot}
use Rattle.wave_base.specs.Paths.{path_eq}

-- the context is on this host
abbrev pub is_on : ℕ → Place × ℕ → Bool
is_on h x = x.0.host.0 == h

-- the load of a host is the sum of the loads of its contexts
abbrev pub load_on : List (Place × ℕ) → ℕ → ℕ
load_on [] h = 0
load_on (x ∷ xs) h = (if is_on h x then x.1 else 0) + load_on xs h

-- of two hosts the one of greater load; the first where the loads are equal
abbrev pub heavier_host : (ℕ → ℕ) → ℕ → ℕ → ℕ
heavier_host load i j = if nat_lt (load i) (load j) then j else i

-- of two hosts the one of less load; the first where the loads are equal
abbrev pub lighter_host : (ℕ → ℕ) → ℕ → ℕ → ℕ
lighter_host load i j = if nat_lt (load j) (load i) then j else i

-- the first host of greatest load among so many, from 0
abbrev pub first_greatest : (ℕ → ℕ) → ℕ → ℕ
first_greatest load zero = 0
first_greatest load (suc n) = heavier_host load (first_greatest load n) n

-- the first host of least load among so many, from 0
abbrev pub first_least : (ℕ → ℕ) → ℕ → ℕ
first_least load zero = 0
first_least load (suc n) = lighter_host load (first_least load n) n

abbrev pub heaviest : ℕ → List (Place × ℕ) → ℕ
heaviest hosts xs = first_greatest (load_on xs) hosts

abbrev pub lightest : ℕ → List (Place × ℕ) → ℕ
lightest hosts xs = first_least (load_on xs) hosts

-- by how much the greatest load is above the least
abbrev pub spread : ℕ → List (Place × ℕ) → ℕ
spread hosts xs = load_on xs (heaviest hosts xs) - load_on xs (lightest hosts xs)

-- a context may leave a host where its load is above 0 and below this difference
abbrev pub may_go : ℕ → ℕ → Place × ℕ → Bool
may_go h d x = is_on h x && (nat_lt 0 x.1 && nat_lt x.1 d)

-- the first context, in path order, that may leave the host of greatest load
abbrev pub mover : ℕ → List (Place × ℕ) → Option (Place × ℕ)
mover hosts xs = find (may_go (heaviest hosts xs) (spread hosts xs)) xs

-- the same context on another host
abbrev pub on_host : ℕ → Place × ℕ → Place × ℕ
on_host to x = (record { path = x.0.path; host = record { 0 = to } }, x.1)

-- the context of this path is set on a host, and the others stay where they are
abbrev pub places_with : List (Place × ℕ) → Path → ℕ → List (Place × ℕ)
places_with xs path to = map (λ x. if path_eq path x.0.path then on_host to x else x) xs

abbrev pub move_to : ℕ → Place × ℕ → Line
move_to to x = Move x.0.path (record { 0 = to })

-- at most so many times a context moves from the host of greatest load to that of least; where none may go it ends
abbrev pub balance : ℕ → ℕ → List (Place × ℕ) → List Line
balance hosts zero xs = []
balance hosts (suc n) xs = elim (mover hosts xs) [ None ↦ [] | Some x ↦ move_to (lightest hosts xs) x ∷ balance hosts n (places_with xs x.0.path (lightest hosts xs)) ]

-- a move of each context on the one host to the other, as many as a script may have
abbrev pub drain : ℕ → ℕ → List (Place × ℕ) → List Line
drain from to xs = take EVENT_LINES (map (move_to to) (filter (is_on from) xs))

-- what a policy asks for, of so many hosts
abbrev pub moves_of : ℕ → Policy → List (Place × ℕ) → List Line
moves_of hosts (Balance most) xs = balance hosts most xs
moves_of hosts (Drain from to) xs = drain from.0 to.0 xs

-- none where no policy stands
abbrev pub policy_moves : ℕ → Option Policy → List (Place × ℕ) → List Line
policy_moves hosts None xs = []
policy_moves hosts (Some p) xs = moves_of hosts p xs

-- the contexts after a line of a script: a move alone changes them
abbrev pub after_line : List (Place × ℕ) → Line → List (Place × ℕ)
after_line xs (Request call) = xs
after_line xs (Move path to) = places_with xs path to.0
after_line xs Snapshot = xs

-- after all lines, one after the other
abbrev pub places_moved : List (Place × ℕ) → List Line → List (Place × ℕ)
places_moved xs [] = xs
places_moved xs (m ∷ ms) = places_moved (after_line xs m) ms

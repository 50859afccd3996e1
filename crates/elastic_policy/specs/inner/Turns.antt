-- Contexts in the course of a balance: their hosts stand apart from their paths.
use Rattle.std.specs.Prelude.{◌≡◌, ◌<◌, ℕ, ◌+◌, ◌-◌, ◌==◌, ◌&&◌, nat_lt, Bool, if◌then◌else◌, List, [], ◌∷◌, map, take, length, Option, Some, None, slice_index, position}
use Rattle.std.specs.List.{filter}
use Rattle.wave_base.specs.declared.finished.Place.{Place}
use Rattle.wave_base.specs.declared.limits.TheConstants.{EVENT_LINES}
use Rattle.wave_base.specs.declared.numbers.Host.{Host}
use Rattle.wave_base.specs.declared.script.Line.{Line}
use Rattle.wave_base.specs.declared.script.Line.TheVariants.{Move}
use Rattle.elastic_policy.specs.declared.turn.Turn.{Turn}
use Rattle.elastic_policy.specs.Moves.{first_greatest, first_least}

-- a context on a host may go where its load is above 0 and below the difference
abbrev pub goes : ℕ → ℕ → Host × ℕ → Bool
goes h d x = (x.0.0 == h) && (nat_lt 0 x.1 && nat_lt x.1 d)

-- contexts, each on the host that is given for it, with their loads
abbrev pub under_way : List Place → List Host → List ℕ → List (Place × ℕ)
under_way [] hosts loads = []
under_way (p ∷ places) [] loads = []
under_way (p ∷ places) (h ∷ hosts) [] = []
under_way (p ∷ places) (h ∷ hosts) (l ∷ loads) = (record { path = p.path; host = h }, l) ∷ under_way places hosts loads

-- the moves of a drain, of contexts without their loads
abbrev pub drained_moves : ℕ → ℕ → List Place → List Line
drained_moves from to places = take EVENT_LINES (map (λ (x : Place). Move x.path (record { 0 = to })) (filter (λ (x : Place). x.host.0 == from) places))

-- loads of hosts, after a load left one of them for another
abbrev pub IsShifted : List ℕ → List ℕ → ℕ → ℕ → ℕ → Type 0
IsShifted old new from to load = (h : ℕ) → h < length old → slice_index new h + (if from == h then load else 0) ≡ slice_index old h + (if to == h then load else 0)

-- the first of greatest load among so many hosts, the first of least, and the difference
abbrev pub top_of : ℕ → List ℕ → ℕ
top_of hosts sums = first_greatest (slice_index sums) hosts

abbrev pub bottom_of : ℕ → List ℕ → ℕ
bottom_of hosts sums = first_least (slice_index sums) hosts

abbrev pub apart_by : ℕ → List ℕ → ℕ
apart_by hosts sums = slice_index sums (top_of hosts sums) - slice_index sums (bottom_of hosts sums)

-- which of some contexts, each with its host and its load, moves next
abbrev pub next_index : ℕ → List ℕ → List (Host × ℕ) → Option ℕ
next_index hosts sums xs = position (goes (top_of hosts sums) (apart_by hosts sums)) xs

-- it is told where it goes from and to
abbrev pub IsTurn : ℕ → List ℕ → List (Host × ℕ) → Option Turn → Type 0
IsTurn hosts sums xs None = next_index hosts sums xs ≡ None
IsTurn hosts sums xs (Some turn) = (next_index hosts sums xs ≡ Some turn.index) × (turn.from.0 ≡ top_of hosts sums) × (turn.to.0 ≡ bottom_of hosts sums)

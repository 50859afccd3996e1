-- Listings of small runs, computed.
use Rattle.std.proofs.Common.{◌≡◌, ℕ, pos, true, false, List, [], ◌∷◌, ◌++◌, None, Some, refl}
use Rattle.std.specs.Prelude.{codes}
use Rattle.std.specs.Fmt.{digits}
use Rattle.wave_base.specs.declared.finished.Finished.{Finished}
use Rattle.wave_base.specs.declared.outcome.Outcome.TheVariants.{Reply, Trapped, Moved, Shots}
use Rattle.wave_base.specs.declared.path.Path.{Path}
use Rattle.wave_base.specs.declared.shape.Shape.{Shape}
use Rattle.wave_base.specs.declared.trap.TrapKind.TheVariants.{Overflow}
use Rattle.wave_base.specs.declared.value.Value.TheVariants.{Int, Map}
use Rattle.path_text.specs.Sample.{market_class, hall_class}
use Rattle.listing_out.specs.Listing.{listing, result_lines}

abbrev market : Shape
market = record { classes = market_class ∷ hall_class ∷ []; events = record { name = codes "buy"; params = []; reply = None } ∷ [] }

abbrev hall : Path
hall = record { class = record { 0 = 1 }; key = pos 1 } ∷ []

abbrev nothing : Finished
nothing = record { results = []; made = []; names = []; places = []; shots = []; loads = [] }

-- a reply and a message
abbrev one_buy : Finished
one_buy = record {
  results = record { outcome = Reply (Int (pos 7)); messages = record { label = codes "till"; value = Int (pos 3) } ∷ []; created = [] } ∷ [];
  made = [] ∷ [];
  names = Some 0 ∷ [];
  places = record { path = hall; host = record { 0 = 1 } } ∷ [];
  shots = [];
  loads = [];
}

abbrev lines : List (List ℕ) → List ℕ
lines [] = []
lines (l ∷ ls) = l ++ 10 ∷ lines ls

no_ticket : listing market 7 nothing true ≡ lines (codes "done 6" ∷ [])
unfolding digits
no_ticket = refl

one_ticket : listing market 1 one_buy false ≡ lines (codes "#1 buy = 7" ∷ (codes "#1 send " ++ 34 ∷ codes "till" ++ 34 ∷ codes " 3") ∷ codes "done 1" ∷ [])
unfolding digits
one_ticket = refl

with_places : listing market 40 one_buy true ≡ lines (codes "#40 buy = 7" ∷ (codes "#40 send " ++ 34 ∷ codes "till" ++ 34 ∷ codes " 3") ∷ codes "place /Hall[1] 1" ∷ codes "done 40" ∷ [])
unfolding digits
with_places = refl

trapped : result_lines market 1 (Some 0) (record { outcome = Trapped (record { kind = Overflow; at = record { line = 8; col = 26 } }); messages = []; created = [] }) [] ≡ (codes "#1 buy trap Overflow at 8:26" ++ 10 ∷ []) ∷ []
unfolding digits
trapped = refl

two_created : result_lines market 1 (Some 0) (record { outcome = Reply (Map ((pos 1, pos 5) ∷ (pos 2, pos 6) ∷ [])); messages = []; created = [] }) (record { 0 = 3 } ∷ record { 0 = 4 } ∷ [])
    ≡ (codes "#1 buy = {1: 5, 2: 6}" ++ 10 ∷ []) ∷ (codes "#1 made #3" ++ 10 ∷ []) ∷ (codes "#1 made #4" ++ 10 ∷ []) ∷ []
unfolding digits
two_created = refl

moved : result_lines market 2 None (record { outcome = Moved hall (record { 0 = 1 }); messages = []; created = [] }) [] ≡ (codes "#2 moved /Hall[1] to 1" ++ 10 ∷ []) ∷ []
unfolding digits
moved = refl

snapshot : result_lines market 2 None (record { outcome = Shots (record { path = []; fields = [] } ∷ record { path = hall; fields = [] } ∷ []); messages = []; created = [] }) []
    ≡ (codes "#2 snapshot 2" ++ 10 ∷ []) ∷ (codes "#2 at /" ++ 10 ∷ []) ∷ (codes "#2 at /Hall[1]" ++ 10 ∷ []) ∷ []
unfolding digits
snapshot = refl

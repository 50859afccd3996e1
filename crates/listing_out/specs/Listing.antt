-- The listing of a run: its lines in the order of the tickets, the places of the contexts where they are asked for, and the
-- last line.
use Rattle.std.specs.Prelude.{ℕ, ◌+◌, ◌-◌, Bool, true, false, List, [], ◌∷◌, ◌++◌, length, map, Option, Some, None, slice_get}
use Rattle.std.specs.List.{concat}
use Rattle.std.specs.Option.{option_and_then, option_map_or}
use Rattle.wave_base.specs.declared.finished.Finished.{Finished}
use Rattle.wave_base.specs.declared.finished.Place.{Place}
use Rattle.wave_base.specs.declared.numbers.Ticket.{Ticket}
use Rattle.wave_base.specs.declared.outcome.EventResult.{EventResult}
use Rattle.wave_base.specs.declared.outcome.Outcome.{Outcome}
use Rattle.wave_base.specs.declared.outcome.Outcome.TheVariants.{Shots}
use Rattle.wave_base.specs.declared.shape.Shape.{Shape}
use Rattle.wave_base.specs.declared.shot.Shot.{Shot}
use Rattle.wave_base.specs.declared.shown.Shown.{Shown}
use Rattle.path_text.specs.ShotTexts.{shot_text}
use Rattle.listing_out.specs.LineTexts.{ticket_line, outcome_text, message_text, made_text, place_line, done_line}

-- the contexts that a snapshot lists
abbrev pub shots_in : Outcome → List Shot
shots_in (Shots shots) = shots
shots_in _ = []

-- the lines of ticket n: its outcome, the contexts of a snapshot, its messages, and what it created
abbrev pub result_lines : Shape → ℕ → Option ℕ → EventResult → List Ticket → List (List ℕ)
result_lines shape n name r made =
    ticket_line n (outcome_text shape name r.outcome)
    ∷ (map (λ s. ticket_line n (shot_text shape s)) (shots_in r.outcome)
    ++ map (λ m. ticket_line n (message_text m)) r.messages
    ++ map (λ t. ticket_line n (made_text t)) made)

-- the lines of these tickets, of which the first is n
abbrev pub lines_from : Shape → ℕ → List Shown → List (List ℕ)
lines_from shape n [] = []
lines_from shape n (x ∷ xs) = result_lines shape n x.name x.result x.made ++ lines_from shape (n + 1) xs

-- the event of the i-th result, where it is one of the service's
abbrev pub name_at : Finished → ℕ → Option ℕ
name_at done i = option_and_then (λ name. name) (slice_get done.names i)

-- the tickets of what the i-th result created
abbrev pub made_at : Finished → ℕ → List Ticket
made_at done i = option_map_or (λ made. made) (slice_get done.made i) []

-- these results, which are those from the i-th on, as they are shown
abbrev pub shown_from : Finished → ℕ → List EventResult → List Shown
shown_from done i [] = []
shown_from done i (r ∷ rs) = record { name = name_at done i; result = r; made = made_at done i } ∷ shown_from done (i + 1) rs

-- all tickets of a run as they are shown
abbrev pub shown_of : Finished → List Shown
shown_of done = shown_from done 0 done.results

abbrev pub place_lines : Shape → Option (List Place) → List (List ℕ)
place_lines shape None = []
place_lines shape (Some places) = map (place_line shape) places

abbrev pub end_lines : Shape → Option (List Place) → ℕ → List (List ℕ)
end_lines shape places last = place_lines shape places ++ done_line last ∷ []

-- the places, where they are asked for
abbrev pub places_of : Finished → Bool → Option (List Place)
places_of done false = None
places_of done true = Some done.places

-- the last ticket, or the one before the first where there is none
abbrev pub last_ticket : ℕ → Finished → ℕ
last_ticket first done = first + length done.results - 1

-- the bytes of the listing, from the first ticket on
abbrev pub listing : Shape → ℕ → Finished → Bool → List ℕ
listing shape first done with_map = concat (lines_from shape first (shown_of done) ++ end_lines shape (places_of done with_map) (last_ticket first done))

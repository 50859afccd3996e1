-- The lines of a listing, one by one.
use Rattle.std.specs.Prelude.{ℕ, List, [], ◌∷◌, ◌++◌, codes, length, Option, Some, None, slice_get}
use Rattle.std.specs.Fmt.{decimal}
use Rattle.std.specs.Option.{option_map_or}
use Rattle.wave_base.specs.declared.call.Message.{Message}
use Rattle.wave_base.specs.declared.finished.Place.{Place}
use Rattle.wave_base.specs.declared.numbers.Ticket.{Ticket}
use Rattle.wave_base.specs.declared.outcome.Outcome.{Outcome}
use Rattle.wave_base.specs.declared.outcome.Outcome.TheVariants.{Done, Reply, Trapped, Moved, Absent, Shots}
use Rattle.wave_base.specs.declared.shape.EventInfo.{EventInfo}
use Rattle.wave_base.specs.declared.shape.Shape.{Shape}
use Rattle.wave_base.specs.declared.trap.TrapKind.{TrapKind}
use Rattle.wave_base.specs.declared.trap.TrapKind.TheVariants.{Overflow, DivZero, Absent as AbsentKey, Full, TooLong, Require, Ticks, Sends, Spawns, Generation, Reach}
use Rattle.wave_text.specs.Places.{place_text}
use Rattle.wave_text.specs.ValueTexts.{value_text}
use Rattle.wave_base.specs.Text.{quoted_text}
use Rattle.path_text.specs.PathTexts.{path_text}

abbrev pub trap_name : TrapKind → List ℕ
trap_name Overflow = codes "Overflow"
trap_name DivZero = codes "DivZero"
trap_name AbsentKey = codes "Absent"
trap_name Full = codes "Full"
trap_name TooLong = codes "TooLong"
trap_name Require = codes "Require"
trap_name Ticks = codes "Ticks"
trap_name Sends = codes "Sends"
trap_name Spawns = codes "Spawns"
trap_name Generation = codes "Generation"
trap_name Reach = codes "Reach"

-- the name of an event by its number
abbrev pub event_name : Shape → Option ℕ → List ℕ
event_name shape None = []
event_name shape (Some e) = option_map_or (λ (info : EventInfo). info.name) (slice_get shape.events e) []

-- what became of a ticket: a reply, an end without one, a trap with its kind and place; a move, or that its context is not
-- there; how many contexts a snapshot lists
abbrev pub outcome_text : Shape → Option ℕ → Outcome → List ℕ
outcome_text shape name (Reply v) = event_name shape name ++ codes " = " ++ value_text v
outcome_text shape name Done = event_name shape name ++ codes " ok"
outcome_text shape name (Trapped t) = event_name shape name ++ codes " trap " ++ trap_name t.kind ++ codes " at " ++ place_text t.at
outcome_text shape name (Moved p to) = codes "moved " ++ path_text shape p ++ codes " to " ++ decimal to.0
outcome_text shape name (Absent p) = codes "absent " ++ path_text shape p
outcome_text shape name (Shots shots) = codes "snapshot " ++ decimal (length shots)

-- send "label" value
abbrev pub message_text : Message → List ℕ
message_text m = codes "send " ++ quoted_text m.label ++ codes " " ++ value_text m.value

-- made #m
abbrev pub made_text : Ticket → List ℕ
made_text t = codes "made #" ++ decimal t.0

-- a line of ticket n, with its line feed
abbrev pub ticket_line : ℕ → List ℕ → List ℕ
ticket_line n text = codes "#" ++ decimal n ++ codes " " ++ text ++ 10 ∷ []

-- place path host
abbrev pub place_line : Shape → Place → List ℕ
place_line shape x = codes "place " ++ path_text shape x.path ++ codes " " ++ decimal x.host.0 ++ 10 ∷ []

-- done N
abbrev pub done_line : ℕ → List ℕ
done_line last = codes "done " ++ decimal last ++ 10 ∷ []

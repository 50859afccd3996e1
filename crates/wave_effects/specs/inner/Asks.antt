-- What the mail of an Enter asks for, and the mark that it follows.
use Rattle.std.specs.Prelude.{ℕ, Option, Some, None}
use Rattle.event_cells.specs.declared.outbox.Envelope.{Envelope}
use Rattle.host_map.specs.declared.store.Found.{Found}
use Rattle.host_map.specs.declared.store.Found.TheVariants.{Here, Gone, Unknown}
use Rattle.migration_core.specs.Letters.{ask_of}
use Rattle.wave_states.specs.States.{Ask}

abbrev pub asked_in : Option Envelope → Option Ask
asked_in None = None
asked_in (Some e) = ask_of e.letter

-- the number of the mark that was found
abbrev pub number_in : Found → Option ℕ
number_in Here = None
number_in (Gone m) = Some m.number
number_in Unknown = None

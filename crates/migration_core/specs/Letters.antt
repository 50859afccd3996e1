-- Letters, mails and routes, and what they stand for in the machine's theory.
use Rattle.std.specs.Prelude.{◌≡◌, List, Option, Some, None}
use Rattle.wave_base.specs.declared.value.Value.{Value}
use Rattle.context_queue.specs.Entries.{StandsFor}
use Rattle.migration_core.specs.declared.mail.Letter.{Letter}
use Rattle.migration_core.specs.declared.mail.Letter.TheVariants.{Enter, Visit, Back, Release, Transfer}
use Rattle.migration_core.specs.declared.mail.Route.{Route}
use Rattle.migration_core.specs.declared.mail.Route.TheVariants.{Deliver, Born, Forward, Wait}
use Rattle.wave_states.specs.States as theory
use Rattle.wave_states.specs.Steps as steps

-- what an Enter asks for
abbrev pub ask_of : Letter → Option theory.Ask
ask_of (Enter number followed peek) = Some (record { number = number; followed = followed; peek = peek })
ask_of Visit = None
ask_of Back = None
ask_of Release = None
ask_of (Transfer e) = None

-- a letter stands for one of the theory: a Transfer's entry for its entry, the others for one alone
abbrev pub Says : Letter → theory.Letter (List Value) → Type 0
Says (Enter number followed peek) l = l ≡ theory.Enter (record { number = number; followed = followed; peek = peek })
Says Visit l = l ≡ theory.Visit
Says Back l = l ≡ theory.Back
Says Release l = l ≡ theory.Release
Says (Transfer e) (theory.Transfer en) = StandsFor e en
Says (Transfer e) l = ⊥

-- the route that the theory has
abbrev pub route_of : Route → steps.Route
route_of Deliver = steps.Deliver
route_of Born = steps.Born
route_of Wait = steps.Wait
route_of (Forward g) = steps.Forward g.0

-- The label that the rule picks that takes moves first.
use Rattle.std.specs.Prelude.{List, Option}
use Rattle.std.specs.List.{filter}
use Rattle.wave_states.specs.Labels.{Label, ticket_of}
use Rattle.wave_states.specs.Runs.{first_of, or_else}
use Rattle.wave_effects.specs.Machines.{Kept}
use Rattle.wave_machine.specs.Movers.{moves_in}

-- the first label of a move, else the first
abbrev pub first_move : Kept → List Label → Option Label
first_move m ls = or_else (first_of (filter (λ l. moves_in m (ticket_of l.act)) ls)) (first_of ls)

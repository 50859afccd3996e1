-- Resolved services as contracts see them: no pointers.
use Rattle.std.specs.Prelude.{map}
use Rattle.std.specs.Option.{option_map}
use Rattle.resolved_service.specs.declared.service.Last.{Last}
use Rattle.resolved_service.specs.declared.service.Method.{Method}
use Rattle.resolved_service.specs.declared.service.Phase.{Phase}
use Rattle.resolved_service.specs.declared.service.Event.{Event}
use Rattle.resolved_service.specs.declared.service.Resolved.{Resolved}
use Rattle.resolved_service.specs.Steps.{steps_in}
use Rattle.resolved_service.specs.View.{tree_of}
use Rattle.type_rules.specs.Functions.{LastView, MethodView, PhaseView, EventView}
use Rattle.type_rules.specs.Services.{ResolvedView}

abbrev pub last_view : Last → LastView
last_view l = record { at = l.at; value = tree_of l.value }

abbrev pub method_view : Method → MethodView
method_view m = record { at = m.at; name = m.name; class = m.class.0; params = m.params; result = m.result; locals = m.locals; body = steps_in m.body; last = option_map last_view m.last }

abbrev pub phase_view : Phase → PhaseView
phase_view p = record { at = p.at; class = p.class.0; key = tree_of p.key; body = steps_in p.body }

abbrev pub event_view : Event → EventView
event_view e = record { at = e.at; locals = e.locals; here = steps_in e.here; phases = map phase_view e.phases; last = option_map last_view e.last }

abbrev pub resolved_view : Resolved → ResolvedView
resolved_view r = record { methods = map method_view r.methods; events = map event_view r.events }

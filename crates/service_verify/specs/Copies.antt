-- The same segments with the copies that the event keeps of what stands above it.
use Rattle.std.specs.Prelude.{ℕ, zero, suc, List, [], Option, Some, None}
use Rattle.wave_base.specs.declared.call.Call.{Call}
use Rattle.wave_base.specs.declared.outcome.EventResult.{EventResult}
use Rattle.wave_base.specs.Tree.{Tree}
use Rattle.downgrade_views.specs.Levels.{Level}
use Rattle.service_code.specs.declared.program.Program.{Program}
use Rattle.service_verify.specs.Segments.{Left, event_segment}
use Rattle.service_verify.specs.Tours.{Fields, Tour, tour_at_pause, first_tour}

pub record Trip : Type 0 where
  pub tour : Tour
  pub levels : List Level

abbrev pub trip_with : Trip → Option Left → Trip
trip_with t None = t
trip_with t (Some l) = record { tour = tour_at_pause t.tour l.event.box l.fields l.pause; levels = l.event.levels }

module _ (program : Program) where
  abbrev pub trip_if : Trip → Option EventResult → Trip
  trip_if t (Some r) = t
  trip_if t None = trip_with t (event_segment program (record { box = t.tour.box; levels = t.levels }) (t.tour.tree.fields t.tour.box.path))

  -- one segment more, unless it is over
  abbrev pub next_trip : Trip → Trip
  next_trip t = trip_if t t.tour.result

  unfoldable pub trip_after : ℕ → Trip → Trip
  trip_after zero t = t
  trip_after (suc n) t = next_trip (trip_after n t)

  -- at the root it has left nothing
  abbrev pub first_trip : Call → Tree Fields → Trip
  first_trip call tree = record { tour = first_tour program call tree; levels = [] }

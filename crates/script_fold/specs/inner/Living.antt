-- How a Start is kept.
use Rattle.std.specs.Prelude.{map}
use Rattle.script_fold.specs.declared.live.LiveStart.TheInside.{Inside}
use Rattle.script_fold.specs.Lives.{Live}
use Rattle.script_fold.specs.inner.Visiting.{AreInOrder, place_in, loads_in}

abbrev pub live_of : Inside → Live
live_of a = record { start = record { shots = a.contexts.shots; places = map place_in a.visits.hosts.entries; next = a.next }; loads = loads_in a.visits }

abbrev pub IsLive : Inside → Type 0
IsLive a = AreInOrder a.visits

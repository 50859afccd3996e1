-- What the end of a mover, and what a walker copied, are as the result of a job: no messages and no calls.
use Rattle.std.specs.Prelude.{ℕ, List, [], map}
use Rattle.wave_base.specs.declared.outcome.EventResult.{EventResult}
use Rattle.wave_base.specs.declared.outcome.Outcome.TheVariants as out
use Rattle.wave_base.specs.declared.path.Path.{Path}
use Rattle.wave_base.specs.declared.shot.Shot.{Shot}
use Rattle.wave_base.specs.declared.value.Value.{Value}
use Rattle.wave_states.specs.Movers.{MoveEnd, Moved, Absent}

-- Moved where it came to its context, else Absent
abbrev pub end_of : MoveEnd → EventResult
end_of (Moved p h) = record { outcome = out.Moved p (record { 0 = h }); messages = []; created = [] }
end_of (Absent p) = record { outcome = out.Absent p; messages = []; created = [] }

-- a context with its fields
abbrev pub as_shot : Path × List Value → Shot
as_shot c = record { path = c.0; fields = c.1 }

-- the copies are the shots of a snapshot
abbrev pub shots_of : List (Path × List Value) → EventResult
shots_of copied = record { outcome = out.Shots (map as_shot copied); messages = []; created = [] }

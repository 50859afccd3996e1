-- What a checkpoint may be.
use Rattle.std.specs.Prelude.{◌≤◌}
use Rattle.wave_base.specs.declared.limits.TheConstants.{EVENT_LINES, HOSTS, SAVED_TICKET}
use Rattle.wave_base.specs.declared.shape.Shape.{Shape}
use Rattle.wave_base.specs.Starts.{IsStart}
use Rattle.checkpoint_store.specs.declared.numbers.Numbers.{Numbers}
use Rattle.checkpoint_store.specs.declared.point.Checkpoint.{Checkpoint}

-- so many hosts, event lines behind, and this ticket next
pub record AreInRange (n : Numbers) : Type 0 where
  pub some_host : 1 ≤ n.hosts
  pub few_hosts : n.hosts ≤ HOSTS
  pub few_lines : n.lines ≤ EVENT_LINES
  pub first_next : 1 ≤ n.next
  pub last_next : n.next ≤ SAVED_TICKET

abbrev pub numbers_of : Checkpoint → Numbers
numbers_of p = record { hosts = p.hosts; lines = p.lines; next = p.start.next.0 }

-- a point of a run of this shape
pub record IsPoint (shape : Shape) (p : Checkpoint) : Type 0 where
  pub numbers : AreInRange (numbers_of p)
  pub fits : IsStart shape p.hosts p.start

-- What a worker brings back of a segment.
use Rattle.wave_base.specs.declared.pause.Pause.{Pause}
use Rattle.wave_effects.specs.declared.lease.Lease.{Lease}

-- the lease as the segment left it, and why it paused
pub record Ran : Type 0 where
  pub lease : Lease
  pub pause : Pause

-- this lease with this pause
abbrev pub ran : Lease → Pause → Ran
ran lease pause = record { lease = lease; pause = pause }

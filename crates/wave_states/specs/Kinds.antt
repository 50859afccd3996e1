-- A kind of actors: how they run, and what fits them.
use Rattle.std.specs.Prelude.{ℕ}
use Rattle.wave_base.specs.declared.path.Path.{Path}
use Rattle.wave_states.specs.Actors.{Actors}

pub record Kind (A F R J : Type 0) : Type 1 where
  -- how they run
  pub system : Actors A F R J
  -- how many hosts there are, to which a job may move a context
  pub hosts : ℕ
  -- a context at the path may have these fields
  pub fits : Path → F → Type 0
  -- the job may stand in a script
  pub is_job : J → Type 0
  -- the actor may run a segment at the path, with so many calls open
  pub may_run : A → Path → ℕ → Type 0

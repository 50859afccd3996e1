-- What runs: for each ticket an actor, which goes from context to context, in segments.
use Rattle.std.specs.Prelude.{ℕ, Bool, List, Option}
use Rattle.wave_base.specs.declared.path.Step.{Step}
use Rattle.wave_base.specs.declared.path.Path.{Path}
use Rattle.wave_base.specs.Tree.{Tree}

-- why a segment came to its end: the actor goes on in a child for good, or for a call; it goes back from such a call; or it is over, with a result
pub data Pause (R : Type 0) : Type 0 where
  Go Down : Step → Pause R
  Back : Pause R
  Over : R → Pause R

-- what a segment leaves
pub record Left (A F R : Type 0) : Type 0 where
  pub actor : A
  pub fields : F
  pub pause : Pause R

pub record Actors (A F R J : Type 0) : Type 0 where
  -- the actor of a job and its ticket
  pub make : J → ℕ → A
  -- one segment, on the fields of the context and the steps to its children, in their order
  pub segment : A → F → List Step → Left A F R
  -- whether all that is left of it only looks at the one context where it is, or where it goes next
  pub peeks : A → Bool
  -- what a context begins with
  pub initial : Path → F
  -- the jobs that a result creates, and the context that it moves, with the host
  pub created : R → List J
  pub moved : R → Option (Path × ℕ)
  -- so many segments are enough for the job of the ticket on the tree
  pub enough : J → ℕ → Tree F → ℕ
  -- the result of what never ends, which no job's is
  pub unended : R

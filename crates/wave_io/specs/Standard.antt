-- What the standard source and sink are seen as.
use Rattle.std.specs.Prelude.{ℕ}

-- a reader or writer of the system, and how often it has failed
pub record Counted (X : Type 0) : Type 0 where
  pub inner : X
  pub faults : ℕ

-- An event alone, as the machine has it, beside what its code means.
use Rattle.std.specs.Prelude.{◌≡◌, ℕ, Some, None}
use Rattle.wave_base.specs.declared.outcome.EventResult.{EventResult}
use Rattle.wave_base.specs.declared.path.Path.{Path}
use Rattle.wave_base.specs.Fold.{Ran}
use Rattle.service_verify.specs.Copies.{Trip}
use Rattle.service_verify.specs.Segments.{Event}
use Rattle.service_verify.specs.Steps.{is_held}
use Rattle.service_verify.specs.Tours.{Tour}
use Rattle.wave_states.specs.Alone.{Alone, has}
use Rattle.code_actor.specs.CodeActors.{Fields}

-- After as many segments both are at one place, in one tree, with the same copies, and have entered the same paths; and until it
-- is over the event itself holds what the machine says that it holds.
pub record Follows (x : Alone Event Fields EventResult) (t : Trip) : Type 0 where
  pub actor : x.actor ≡ record { box = t.tour.box; levels = t.levels }
  pub at : x.at ≡ t.tour.box.path
  pub held : x.result ≡ None → (q : Path) → has x.held q ≡ is_held t.tour.box.held q
  pub entered : x.entered ≡ t.tour.entered
  pub tree : x.tree ≡ t.tour.tree
  pub result : x.result ≡ t.tour.result

-- a whole run, and how many segments it had
pub record IsWhole (ran : Ran Fields EventResult) (count : ℕ) (tour : Tour) : Type 0 where
  pub result : tour.result ≡ Some ran.result
  pub tree : ran.tree ≡ tour.tree
  pub entered : ran.entered ≡ tour.entered
  pub segments : count ≡ tour.segments

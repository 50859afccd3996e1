-- What it is for code to mean what its service means.
use Rattle.std.specs.Prelude.{◌≡◌, suc, Some}
use Rattle.resolved_service.specs.Jobs.{Meant}
use Rattle.service_verify.specs.Tours.{Tour}

-- the segments of an event, run on one tree, give its result, its tree and the paths that it entered; and there is one segment
-- more than it changed its place
pub record Means (tour : Tour) (meant : Meant) : Type 0 where
  pub result : tour.result ≡ Some meant.ran.result
  pub tree : tour.tree ≡ meant.ran.tree
  pub entered : tour.entered ≡ meant.ran.entered
  pub segments : tour.segments ≡ suc meant.changes

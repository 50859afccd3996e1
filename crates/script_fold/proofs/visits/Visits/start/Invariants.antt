use Rattle.std.proofs.Common.{◌≡◌, map, take}
use Rattle.script_fold.proofs.PlaceLemmas.{kept_at}
use Rattle.script_fold.proofs.visits.Visits.start.Given as goal

abbrev pub invariant-loop-place : goal.invariant-loop-place
invariant-loop-place l = l.hosts.entries ≡ map kept_at (take l.place-index l.places)

use Rattle.std.proofs.Common.{◌≡◌, ◌+◌, take}
use Rattle.snapshot_text.specs.Shots.{paths_of}
use Rattle.checkpoint_store.specs.inner.Steps.{HasPlaces}
use Rattle.checkpoint_store.proofs.StopLemmas.{Passes}
use Rattle.checkpoint_store.proofs.TailLemmas.{place_dues}
use Rattle.checkpoint_store.proofs.tail.read_tail.Given as goal

abbrev pub invariant-loop-shot : goal.invariant-loop-shot
invariant-loop-shot l = record {
  places : HasPlaces l.shape l.hosts (paths_of (take l.shot-index l.shots)) l.places l.text l.rest;
  passed : Passes l.shape l.hosts (place_dues (paths_of (take l.shot-index l.shots))) l.text l.rest;
  number : l.number ≡ l.before + l.shot-index;
}

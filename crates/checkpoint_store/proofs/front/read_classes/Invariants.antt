use Rattle.std.proofs.Common.{◌≡◌, ◌+◌, take}
use Rattle.checkpoint_store.proofs.FrontLemmas.{class_dues}
use Rattle.checkpoint_store.proofs.StopLemmas.{Passes}
use Rattle.checkpoint_store.proofs.front.read_classes.Given as goal

abbrev pub invariant-loop-class : goal.invariant-loop-class
invariant-loop-class l = record {
  passed : Passes l.shape 0 (class_dues (take l.class-index l.classes)) l.text l.rest;
  number : l.number ≡ 4 + l.class-index;
}

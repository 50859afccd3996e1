use Rattle.std.proofs.Common.{◌≡◌, drop}
use Rattle.std.specs.List.{list_all}
use Rattle.eventwave.specs.inner.Light.{is_single}
use Rattle.eventwave.proofs.light.are_single.Given as goal

-- it depends on those to come
abbrev pub invariant-loop-batch : goal.invariant-loop-batch
invariant-loop-batch l = list_all is_single l.fn.batches ≡ list_all is_single (drop l.batch-index l.fn.batches)

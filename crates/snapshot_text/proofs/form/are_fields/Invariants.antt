use Rattle.std.proofs.Common.{length}
use Rattle.snapshot_text.specs.inner.Fronts.{IsFieldsText}
use Rattle.snapshot_text.proofs.form.are_fields.Given as goal

abbrev pub invariant-loop-rest : goal.invariant-loop-rest
invariant-loop-rest l = record {
  up : IsFieldsText l.rest → IsFieldsText l.text;
  down : IsFieldsText l.text → IsFieldsText l.rest;
}

abbrev pub decreases-loop-rest : goal.decreases-loop-rest
decreases-loop-rest l = length l.rest

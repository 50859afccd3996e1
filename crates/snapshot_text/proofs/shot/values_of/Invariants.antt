use Rattle.snapshot_text.proofs.FieldLemmas.{AreReadTo}
use Rattle.snapshot_text.proofs.shot.values_of.Given as goal

abbrev pub invariant-loop-field : goal.invariant-loop-field
invariant-loop-field l = AreReadTo l.fields l.text l.field-index l.values l.rest

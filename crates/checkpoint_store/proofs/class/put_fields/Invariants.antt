use Rattle.std.proofs.Common.{◌≡◌, ◌++◌, drop}
use Rattle.checkpoint_store.specs.CheckpointTexts.{fields_text}
use Rattle.checkpoint_store.proofs.LineLemmas.{kinds_of}
use Rattle.checkpoint_store.proofs.class.put_fields.Given as goal

abbrev pub invariant-loop-field : goal.invariant-loop-field
invariant-loop-field l = l.out.items ++ fields_text (kinds_of (drop l.field-index l.fields)) ≡ l.fn.out.items ++ fields_text (kinds_of l.fields)

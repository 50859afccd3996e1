use Rattle.std.proofs.Common.{◌≡◌, ◌++◌, drop}
use Rattle.path_text.specs.ShotTexts.{fields_text}
use Rattle.path_text.proofs.put.put_fields.Given as goal

abbrev pub invariant-loop-field : goal.invariant-loop-field
invariant-loop-field l = l.out.items ++ fields_text (drop l.field-index l.fields) l.values ≡ l.fn.out.items ++ fields_text l.fields l.fn.values

use Rattle.std.proofs.Common.{◌≡◌, take, map}
use Rattle.wave_base.proofs.record.Record.initial.Given as goal

abbrev pub invariant-loop-field : goal.invariant-loop-field
invariant-loop-field l = l.fields.items ≡ map (λ f. f.initial) (take l.field-index l.field-items)

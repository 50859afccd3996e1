use Rattle.std.proofs.Common.{◌≡◌, drop}
use Rattle.std.specs.List.{position_from}
use Rattle.wave_base.specs.Names.{same_bytes}
use Rattle.type_tables.proofs.tables.Tables.field.Given as goal

abbrev pub invariant-loop-i : goal.invariant-loop-i
invariant-loop-i l = position_from (λ f. same_bytes f.name l.name) 0 l.field-items ≡ position_from (λ f. same_bytes f.name l.name) l.i (drop l.i l.field-items)

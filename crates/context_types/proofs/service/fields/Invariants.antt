use Rattle.std.proofs.Common.{◌≡◌, take, None}
use Rattle.type_rules.specs.Demands.{first_wrong}
use Rattle.type_rules.specs.Services.{field_asks}
use Rattle.context_types.proofs.Lists.{next_number}
use Rattle.context_types.proofs.Walking.{walk}
use Rattle.context_types.proofs.service.fields.Given as goal

abbrev pub invariant-loop-i : goal.invariant-loop-i
invariant-loop-i l = first_wrong (walk next_number (field_asks l.tables l.class) 0 (take l.i l.vars)) ≡ None

use Rattle.std.proofs.Common.{take}
use Rattle.name_table.specs.Numbers.{TellsFirst}
use Rattle.script_reader.specs.Judged.{has_name}
use Rattle.script_reader.proofs.named.event_names.Given as goal

abbrev pub invariant-loop-i : goal.invariant-loop-i
invariant-loop-i l = TellsFirst has_name (take l.i l.events) l.names

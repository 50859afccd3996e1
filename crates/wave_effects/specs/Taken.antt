-- The parts that were made for a label.
use Rattle.std.specs.Prelude.{List, Option, Some, None}
use Rattle.std.specs.Global.{Box}
use Rattle.wave_base.specs.declared.call.Call.{Call}
use Rattle.wave_base.specs.declared.record.Record.{Record}
use Rattle.context_queue.specs.declared.entry.Entry.{Entry}
use Rattle.event_cells.specs.declared.cell.Cell.{Cell}
use Rattle.wave_effects.specs.declared.actor.Actor.{Actor}
use Rattle.wave_effects.specs.declared.prepared.Prepared.{Prepared}
use Rattle.wave_effects.specs.declared.prepared.Prepared.TheVariants as part

-- what a box has, where there is one
abbrev pub unboxed_value : {X : Type 0} → Option (Box X) → Option X
unboxed_value None = None
unboxed_value (Some b) = Some b.value

abbrev pub cell_in : Prepared → Option (Cell Actor)
cell_in (part.Event c) = Some c
cell_in _ = None

abbrev pub entry_in : Prepared → Option (Option Entry)
entry_in (part.Entry e) = Some (unboxed_value e)
entry_in _ = None

abbrev pub copy_in : Prepared → Option (Option Record)
copy_in (part.Copy r) = Some (unboxed_value r)
copy_in _ = None

abbrev pub calls_in : Prepared → Option (List Call)
calls_in (part.Created calls) = Some calls
calls_in _ = None

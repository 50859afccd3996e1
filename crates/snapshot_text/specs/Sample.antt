-- A small shape that the tests use.
use Rattle.std.specs.Prelude.{pos, false, [], ◌∷◌, Some, None, codes}
use Rattle.wave_base.specs.declared.shape.ClassInfo.{ClassInfo}
use Rattle.wave_base.specs.declared.shape.FieldInfo.{FieldInfo}
use Rattle.wave_base.specs.declared.shape.Shape.{Shape}
use Rattle.wave_base.specs.declared.value.Kind.TheVariants as k
use Rattle.wave_base.specs.declared.value.Value.TheVariants as v

abbrev pub seen_field : FieldInfo
seen_field = record { name = codes "seen"; kind = k.Int; initial = v.Int (pos 0) }

abbrev pub count_field : FieldInfo
count_field = record { name = codes "count"; kind = k.Int; initial = v.Int (pos 0) }

abbrev pub open_field : FieldInfo
open_field = record { name = codes "open"; kind = k.Bool; initial = v.Bool false }

abbrev pub label_field : FieldInfo
label_field = record { name = codes "label"; kind = k.Text; initial = v.Str [] }

abbrev pub best_field : FieldInfo
best_field = record { name = codes "best"; kind = k.Map; initial = v.Map [] }

abbrev pub market_class : ClassInfo
market_class = record { name = codes "Market"; parent = None; fields = seen_field ∷ [] }

abbrev pub hall_class : ClassInfo
hall_class = record { name = codes "Hall"; parent = Some (record { 0 = 0 }); fields = count_field ∷ [] }

abbrev pub stall_class : ClassInfo
stall_class = record { name = codes "Stall"; parent = Some (record { 0 = 1 }); fields = open_field ∷ label_field ∷ best_field ∷ [] }

abbrev pub cell_class : ClassInfo
cell_class = record { name = codes "Cell"; parent = Some (record { 0 = 0 }); fields = [] }

-- a root, a Hall in it, a Stall in that, and a Cell in the root
abbrev pub market_shape : Shape
market_shape = record { classes = market_class ∷ hall_class ∷ stall_class ∷ cell_class ∷ []; events = [] }

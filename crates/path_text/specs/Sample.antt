-- A small shape that the tests use.
use Rattle.std.specs.Prelude.{[], ◌∷◌, Some, None, codes}
use Rattle.wave_base.specs.declared.shape.ClassInfo.{ClassInfo}
use Rattle.wave_base.specs.declared.shape.Shape.{Shape}

abbrev pub market_class : ClassInfo
market_class = record { name = codes "Market"; parent = None; fields = [] }

abbrev pub hall_class : ClassInfo
hall_class = record { name = codes "Hall"; parent = Some (record { 0 = 0 }); fields = [] }

-- a root, and a Hall in it
abbrev pub hall_shape : Shape
hall_shape = record { classes = market_class ∷ hall_class ∷ []; events = [] }

-- The kinds of values, and what each begins with.
use Rattle.std.specs.Prelude.{pos, false, []}
use Rattle.wave_base.specs.declared.value.Kind.{Kind}
use Rattle.wave_base.specs.declared.value.Kind.TheVariants as k
use Rattle.wave_base.specs.declared.value.Value.{Value}
use Rattle.wave_base.specs.declared.value.Value.TheVariants.{Int, Bool, Str, Map}

abbrev pub kind_of : Value → Kind
kind_of (Int n) = k.Int
kind_of (Bool b) = k.Bool
kind_of (Str t) = k.Text
kind_of (Map m) = k.Map

-- what a local of a kind begins with
abbrev pub blank_of : Kind → Value
blank_of k.Int = Int (pos 0)
blank_of k.Bool = Bool false
blank_of k.Text = Str []
blank_of k.Map = Map []

-- the kinds whose values take memory of their own
abbrev pub TakesMemory : Kind → Type 0
TakesMemory k.Text = Unit {0}
TakesMemory k.Map = Unit {0}
TakesMemory _ = ⊥

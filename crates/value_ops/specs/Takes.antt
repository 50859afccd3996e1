-- The lists of kinds that rows take.
use Rattle.std.specs.Prelude.{List, [], ◌∷◌}
use Rattle.wave_base.specs.declared.value.Kind.{Kind}
use Rattle.wave_base.specs.declared.value.Kind.TheVariants.{Int, Bool, Text, Map}
use Rattle.value_ops.specs.declared.takes.Takes.{Takes}
use Rattle.value_ops.specs.declared.takes.Takes.TheVariants as o

abbrev pub kinds_in : Takes → List Kind
kinds_in o.Int = Int ∷ []
kinds_in o.Ints = Int ∷ Int ∷ []
kinds_in o.Bool = Bool ∷ []
kinds_in o.Bools = Bool ∷ Bool ∷ []
kinds_in o.Text = Text ∷ []
kinds_in o.Texts = Text ∷ Text ∷ []
kinds_in o.TextIntInt = Text ∷ Int ∷ Int ∷ []
kinds_in o.Map = Map ∷ []
kinds_in o.MapInt = Map ∷ Int ∷ []
kinds_in o.MapIntInt = Map ∷ Int ∷ Int ∷ []

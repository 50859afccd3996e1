-- The values of a kind, and functions of such values.
use Rattle.std.specs.Prelude.{ℕ, ℤ, Bool, List, [], ◌∷◌, Result, Ok, Err}
use Rattle.wave_base.specs.declared.trap.TrapKind.{TrapKind}
use Rattle.wave_base.specs.declared.trap.TrapKind.TheVariants.{Absent}
use Rattle.wave_base.specs.declared.value.Kind.{Kind}
use Rattle.wave_base.specs.declared.value.Kind.TheVariants as k
use Rattle.wave_base.specs.declared.value.Value.{Value}
use Rattle.wave_base.specs.declared.value.Value.TheVariants.{Int, Bool as Flag, Str, Map}

-- a value, or why there is none
abbrev pub Answer : Type 0 → Type 0
Answer A = Result A TrapKind

-- what values of a kind are
abbrev pub Of : Kind → Type 0
Of k.Int = ℤ
Of k.Bool = Bool
Of k.Text = List ℕ
Of k.Map = List (ℤ × ℤ)

abbrev pub value_of : (kind : Kind) → Of kind → Value
value_of k.Int n = Int n
value_of k.Bool b = Flag b
value_of k.Text t = Str t
value_of k.Map m = Map m

abbrev pub answer_of : (kind : Kind) → Answer (Of kind) → Answer Value
answer_of kind (Ok x) = Ok (value_of kind x)
answer_of kind (Err trap) = Err trap

-- functions of values of these kinds, one after the other
abbrev pub From : List Kind → Type 0 → Type 0
From [] A = A
From (kind ∷ kinds) A = Of kind → From kinds A

-- what such a function gives of these values; of values of other kinds, or of another number of them, nothing
abbrev pub at_values : {A : Type 0} → (kinds : List Kind) → From kinds (Answer A) → List Value → Answer A
at_values [] f [] = f
at_values (k.Int ∷ kinds) f (Int n ∷ values) = at_values kinds (f n) values
at_values (k.Bool ∷ kinds) f (Flag b ∷ values) = at_values kinds (f b) values
at_values (k.Text ∷ kinds) f (Str t ∷ values) = at_values kinds (f t) values
at_values (k.Map ∷ kinds) f (Map m ∷ values) = at_values kinds (f m) values
at_values _ f _ = Err Absent

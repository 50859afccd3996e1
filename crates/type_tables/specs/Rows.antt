-- Rows of the operator table.
use Rattle.std.specs.Prelude.{◌<◌, ℕ, Bool, is_none, List, [], ◌∷◌, length, Option, Some, None}
use Rattle.wave_base.specs.declared.value.Kind.{Kind}
use Rattle.wave_base.specs.declared.operators.TheConstants.{OPERATORS}
use Rattle.type_rules.specs.declared.known.Known.{Known}
use Rattle.type_rules.specs.declared.meant.Callee.{Callee}
use Rattle.type_rules.specs.declared.meant.Callee.TheVariants as callee
use Rattle.type_rules.specs.Kinds.{has_kind}

abbrev pub IsRow : ℕ → Type 0
IsRow row = row < OPERATORS

-- one operand, or two
abbrev pub operands : Kind → Option Kind → List Kind
operands a None = a ∷ []
operands a (Some b) = a ∷ b ∷ []

-- such an operand, or none
abbrev pub fits : Option Kind → Option Kind → Bool
fits kind None = is_none kind
fits kind (Some given) = has_kind kind given

-- the kinds before the first that isn't there
abbrev pub front : Option Kind → Option Kind → Option Kind → List Kind
front None b c = []
front (Some a) None c = a ∷ []
front (Some a) (Some b) None = a ∷ b ∷ []
front (Some a) (Some b) (Some c) = a ∷ b ∷ c ∷ []

-- a row of the table, or a method that is declared
abbrev pub IsCallable : Known → Callee → Type 0
IsCallable known (callee.Builtin row) = IsRow row
IsCallable known (callee.Method m) = m < length known.methods

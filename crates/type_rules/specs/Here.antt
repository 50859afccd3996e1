-- What a name stands for at a place of the text.
use Rattle.std.specs.Prelude.{ℕ, Bool, true, nat_lt, List, [], ◌∷◌, ◌++◌, length, find, Option, Some, None, option_map, option_and_then}
use Rattle.wave_base.specs.declared.value.Kind.{Kind}
use Rattle.wave_base.specs.declared.value.Kind.TheVariants as k
use Rattle.wave_base.specs.declared.version.Version.{Version}
use Rattle.wave_base.specs.declared.version.Version.TheVariants.{First, Second}
use Rattle.wave_base.specs.Names.{same_bytes}
use Rattle.wave_base.specs.Shapes.{is_child_class}
use Rattle.value_ops.specs.Operators.{takes_of, gives_of}
use Rattle.value_ops.specs.Rows.{Row, wave_rows, wave_rows_2, first_builtin}
use Rattle.type_rules.specs.declared.known.Known.{Known}
use Rattle.type_rules.specs.declared.meant.Local.{Local}
use Rattle.type_rules.specs.declared.meant.Variable.{Variable}
use Rattle.type_rules.specs.declared.meant.Variable.TheVariants as var
use Rattle.type_rules.specs.declared.meant.Callee.{Callee}
use Rattle.type_rules.specs.declared.meant.Callee.TheVariants as callee
use Rattle.type_rules.specs.Known.{class_named, field_named, field_kind, method_named, level_of, signature_at}

-- a method or an event, and what it gives, if anything
pub data Function : Type 0 where
  OfMethod OfEvent : Option Kind → Function

-- where a statement or an expression stands: in a class, in a method or an event with a number, behind the locals that
-- may be named; and the kinds of all slots that the function has given so far
pub record Here : Type 0 where
  pub known : Known
  pub class : ℕ
  pub function : ℕ
  pub within : Function
  pub locals : List Local
  pub slots : List Kind

-- where a method or an event begins
abbrev pub start : Known → ℕ → ℕ → Function → Here
start known class function within = record { known = known; class = class; function = function; within = within; locals = []; slots = [] }

-- ---- slots: one for a parameter or a `let`, three for a `for`

-- one more local, in a slot of its own
abbrev pub with_local : Here → List ℕ → Kind → Here
with_local h name kind = record h { locals = h.locals ++ record { name = name; kind = kind; slot = length h.slots } ∷ []; slots = h.slots ++ kind ∷ [] }

-- the counter and the bound of a loop have slots and no names; the loop's name has the slot behind them
abbrev pub with_counter : Here → List ℕ → Here
with_counter h name = with_local (record h { slots = h.slots ++ k.Int ∷ k.Int ∷ [] }) name k.Int

-- behind a block the locals are those before it; the slots stay given
abbrev pub behind : Here → Here → Here
behind before h = record h { locals = before.locals }

-- in another class
abbrev pub in_class : Here → ℕ → Here
in_class h class = record h { class = class }

-- ---- names

abbrev pub local_named : Here → List ℕ → Option Local
local_named h name = find (λ l. same_bytes l.name name) h.locals

abbrev pub of_local : Local → Variable
of_local l = var.Local l.slot l.kind

abbrev pub own_field : Here → List ℕ → Option Variable
own_field h name = option_map (λ f. var.Field f (field_kind h.known h.class f)) (field_named h.known h.class name)

abbrev pub or_else : {A : Type 0} → Option A → Option A → Option A
or_else (Some x) other = Some x
or_else None other = other

-- a local in scope, else an own field
abbrev pub variable : Here → List ℕ → Option Variable
variable h name = or_else (option_map of_local (local_named h name)) (own_field h name)

abbrev pub variable_kind : Variable → Kind
variable_kind (var.Local slot kind) = kind
variable_kind (var.Field field kind) = kind

-- the operator table of a version
abbrev pub version_rows : Version → List Row
version_rows First = wave_rows
version_rows Second = wave_rows_2

abbrev pub rows_of : Known → List Row
rows_of known = version_rows known.version

-- a builtin, else a method of the context here
abbrev pub callee_named : Here → List ℕ → Option Callee
callee_named h name = or_else (option_map callee.Builtin (first_builtin (rows_of h.known) name)) (option_map callee.Method (method_named h.known h.class name))

abbrev pub takes : Known → Callee → List Kind
takes known (callee.Builtin row) = takes_of row
takes known (callee.Method m) = (signature_at known m).params

abbrev pub gives : Known → Callee → Option Kind
gives known (callee.Builtin row) = Some (gives_of row)
gives known (callee.Method m) = (signature_at known m).result

-- a builtin, or an earlier method
abbrev pub is_earlier : Here → Callee → Bool
is_earlier h (callee.Builtin row) = true
is_earlier h (callee.Method m) = nat_lt m h.function

-- ---- classes

-- a class that is a child of the class here
abbrev pub is_child : Here → ℕ → Bool
is_child h class = is_child_class h.known.shape h.class class

-- the level of a class, where it is an ancestor of the class here
abbrev pub level_above : Here → List ℕ → Option ℕ
level_above h class = option_and_then (λ c. level_of h.known h.class c) (class_named h.known class)

-- a field of a class
abbrev pub field_in : Here → List ℕ → List ℕ → Option ℕ
field_in h class name = option_and_then (λ c. field_named h.known c name) (class_named h.known class)

abbrev pub kind_in : Here → List ℕ → List ℕ → Option Kind
kind_in h class name = option_and_then (λ c. option_map (λ f. field_kind h.known c f) (field_named h.known c name)) (class_named h.known class)

-- a method of a class
abbrev pub method_in : Here → List ℕ → List ℕ → Option ℕ
method_in h class name = option_and_then (λ c. method_named h.known c name) (class_named h.known class)

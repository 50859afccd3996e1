-- What a service declares, from its text alone; and what a name stands for among all that is declared. Of equal names
-- the first one counts.
use Rattle.std.specs.Prelude.{ℕ, ◌+◌, ◌==◌, ◌&&◌, Bool, true, nat_le, List, [], ◌∷◌, ◌++◌, map, position, get_or, Option, Some, None}
use Rattle.std.specs.Int.{w64, int_wrapping_neg}
use Rattle.wave_base.specs.declared.path.Class.{Class}
use Rattle.wave_base.specs.declared.shape.FieldInfo.{FieldInfo}
use Rattle.wave_base.specs.declared.shape.ClassInfo.{ClassInfo}
use Rattle.wave_base.specs.declared.shape.EventInfo.{EventInfo}
use Rattle.wave_base.specs.declared.shape.Shape.{Shape}
use Rattle.wave_base.specs.declared.value.Kind.{Kind}
use Rattle.wave_base.specs.declared.value.Kind.TheVariants as k
use Rattle.wave_base.specs.declared.value.Value.{Value}
use Rattle.wave_base.specs.declared.value.Value.TheVariants as v
use Rattle.wave_base.specs.Names.{same_bytes}
use Rattle.wave_base.specs.Shapes.{declared_fields}
use Rattle.mace_ast.specs.declared.name.Name.{Name}
use Rattle.mace_ast.specs.declared.field.Literal.{Literal}
use Rattle.mace_ast.specs.declared.field.Literal.TheVariants.{Number, Minus, Text, Bool as Truth, Empty}
use Rattle.mace_ast.specs.declared.field.VarDecl.{VarDecl}
use Rattle.mace_ast.specs.declared.method.Param.{Param}
use Rattle.mace_ast.specs.Decls.{MethodTree, EventTree, ContextTree, ContextTrees, Context, no_contexts, context_and, contexts_of, ServiceTree}
use Rattle.type_rules.specs.declared.known.Known.{Known}
use Rattle.type_rules.specs.declared.known.Signature.{Signature}
use Rattle.mace_ast.specs.Counts.{class_count}

-- ---- fields, methods and events

-- the value that a field begins with; what stands behind a minus is no number below 0, so that nothing wraps
abbrev pub value_of : Literal → Value
value_of (Number n) = v.Int n
value_of (Minus n) = v.Int (int_wrapping_neg w64 n)
value_of (Text t) = v.Str t
value_of (Truth b) = v.Bool b
value_of Empty = v.Map []

abbrev pub field_info : VarDecl → FieldInfo
field_info f = record { name = f.name.text; kind = f.kind; initial = value_of f.initial.value }

abbrev pub kinds_of : List Param → List Kind
kinds_of params = map (λ p. p.kind) params

abbrev pub signature : ℕ → MethodTree → Signature
signature class m = record { class = class; name = m.name.text; params = kinds_of m.params; result = m.result }

abbrev pub event_info : EventTree → EventInfo
event_info e = record { name = e.name.text; params = kinds_of e.params; reply = e.result }

-- ---- classes, numbered in text order

-- a class, and those that it lies in, the root first
pub record Entry : Type 0 where
  pub info : ClassInfo
  pub above : List ℕ

abbrev pub entry : List ℕ → Option Class → Name → List VarDecl → Entry
entry above parent name vars = record { info = record { name = name.text; parent = parent; fields = map field_info vars }; above = above }

abbrev mutual
  -- the classes of a context whose own number is n: its own, and then those inside it
  pub classes_of : List ℕ → ℕ → ℕ → ContextTree → List Entry
  classes_of above parent n (Context at name vars contexts methods) =
      entry above (Some (record { 0 = parent })) name vars ∷ classes_in (above ++ n ∷ []) n (n + 1) contexts

  -- the classes of the contexts in a class, numbered from n on
  pub classes_in : List ℕ → ℕ → ℕ → ContextTrees → List Entry
  classes_in above parent n no_contexts = []
  classes_in above parent n (context_and c cs) = classes_of above parent n c ++ classes_in above parent (n + class_count c) cs

abbrev pub service_classes : ServiceTree → List Entry
service_classes s = entry [] None s.name s.vars ∷ classes_in (0 ∷ []) 0 1 (contexts_of s.contexts)

-- ---- methods, in text order: those of the contexts inside come before a context's own

abbrev mutual
  pub methods_of : ℕ → ContextTree → List Signature
  methods_of n (Context at name vars contexts methods) = methods_in (n + 1) contexts ++ map (signature n) methods

  pub methods_in : ℕ → ContextTrees → List Signature
  methods_in n no_contexts = []
  methods_in n (context_and c cs) = methods_of n c ++ methods_in (n + class_count c) cs

abbrev pub service_methods : ServiceTree → List Signature
service_methods s = methods_in 1 (contexts_of s.contexts) ++ map (signature 0) s.methods

-- ---- all of it

unfoldable pub shape_of : ServiceTree → Shape
shape_of s = record { classes = map (λ c. c.info) (service_classes s); events = map event_info s.events }

unfoldable pub known_of : ServiceTree → Known
known_of s = record { version = s.version; shape = shape_of s; above = map (λ c. c.above) (service_classes s); methods = service_methods s }

-- ---- what a name stands for

-- the class of a name
abbrev pub class_named : Known → List ℕ → Option ℕ
class_named known name = position (λ c. same_bytes c.name name) known.shape.classes

-- the event of a name
abbrev pub event_named : Known → List ℕ → Option ℕ
event_named known name = position (λ e. same_bytes e.name name) known.shape.events

-- the field of a name in a class
abbrev pub field_named : Known → ℕ → List ℕ → Option ℕ
field_named known class name = position (λ f. same_bytes f.name name) (declared_fields known.shape class)

-- the method of a name in a class
abbrev pub method_named : Known → ℕ → List ℕ → Option ℕ
method_named known class name = position (λ m. m.class == class && same_bytes m.name name) known.methods

-- the classes that a class lies in, the root first
abbrev pub above_of : Known → ℕ → List ℕ
above_of known class = get_or known.above class []

-- the level of a class above another, the root's being 0
abbrev pub level_of : Known → ℕ → ℕ → Option ℕ
level_of known class ancestor = position (λ c. c == ancestor) (above_of known class)

abbrev pub field_kind : Known → ℕ → ℕ → Kind
field_kind known class field = get_or (map (λ f. f.kind) (declared_fields known.shape class)) field k.Int

abbrev pub no_signature : Signature
no_signature = record { class = 0; name = []; params = []; result = None }

abbrev pub signature_at : Known → ℕ → Signature
signature_at known method = get_or known.methods method no_signature

abbrev pub event_params : Known → ℕ → List Kind
event_params known event = get_or (map (λ e. e.params) known.shape.events) event []

-- nothing before the n-th has the name that the first of its holders is found for
abbrev pub none_before : ℕ → Option ℕ → Bool
none_before n None = true
none_before n (Some first) = nat_le n first

-- A service: what is asked of it, and what it is with each name resolved.
use Rattle.std.specs.Prelude.{◌≡◌, ℕ, ◌+◌, nat_lt, nat_le, List, [], ◌∷◌, ◌++◌, map, length, None}
use Rattle.wave_base.specs.declared.limits.TheConstants.{CLASS_DEPTH, FIELDS}
use Rattle.wave_base.specs.Values.{kind_of}
use Rattle.mace_ast.specs.declared.field.VarDecl.{VarDecl}
use Rattle.mace_ast.specs.declared.name.Name.{Name}
use Rattle.mace_ast.specs.Decls.{MethodTree, EventTree, ContextTree, ContextTrees, Context, no_contexts, context_and, contexts_of, ServiceTree}
use Rattle.type_rules.specs.declared.error.TypeError.TheVariants.{Duplicate, Mismatch, Limit}
use Rattle.type_rules.specs.declared.error.Which.TheVariants.{Nesting, Fields}
use Rattle.type_rules.specs.declared.known.Known.{Known}
use Rattle.type_rules.specs.Demands.{Demand, ask, first_wrong}
use Rattle.type_rules.specs.Kinds.{same_kind}
use Rattle.type_rules.specs.Known.{value_of, class_named, field_named, above_of, none_before, methods_of, methods_in, known_of}
use Rattle.mace_ast.specs.Counts.{class_count}
use Rattle.type_rules.specs.Functions.{MethodView, EventView, method_demands, resolve_method, event_demands, resolve_event}

-- ---- demands

-- a class with a number
abbrev pub name_asks : Known → ℕ → Name → List Demand
name_asks known class name =
    ask (none_before class (class_named known name.text)) (Duplicate name.at)
    ∷ ask (nat_le (length (above_of known class)) CLASS_DEPTH) (Limit Nesting name.at)
    ∷ []

-- a class's field with a number
abbrev pub field_asks : Known → ℕ → ℕ → VarDecl → List Demand
field_asks known class field f =
    ask (none_before field (field_named known class f.name.text)) (Duplicate f.name.at)
    ∷ ask (nat_lt field FIELDS) (Limit Fields f.name.at)
    ∷ ask (same_kind (kind_of (value_of f.initial.value)) f.kind) (Mismatch f.initial.at)
    ∷ []

-- a class's fields from a number on
abbrev pub fields_demands : Known → ℕ → ℕ → List VarDecl → List Demand
fields_demands known class field [] = []
fields_demands known class field (f ∷ fs) = field_asks known class field f ++ fields_demands known class (field + 1) fs

-- a class's methods, the first of which has a number among all methods
abbrev pub methods_demands : Known → ℕ → ℕ → List MethodTree → List Demand
methods_demands known class method [] = []
methods_demands known class method (m ∷ ms) = method_demands known class method m ++ methods_demands known class (method + 1) ms

abbrev mutual
  -- a context, whose class has a number, and whose methods, those inside first, are numbered from another one on
  pub context_demands : Known → ℕ → ℕ → ContextTree → List Demand
  context_demands known class method (Context at name vars contexts methods) =
      name_asks known class name
      ++ (fields_demands known class 0 vars
      ++ (contexts_demands known (class + 1) method contexts
      ++ methods_demands known class (method + length (methods_in (class + 1) contexts)) methods))

  pub contexts_demands : Known → ℕ → ℕ → ContextTrees → List Demand
  contexts_demands known class method no_contexts = []
  contexts_demands known class method (context_and c cs) =
      context_demands known class method c
      ++ contexts_demands known (class + class_count c) (method + length (methods_of class c)) cs

-- events from a number on
abbrev pub events_demands : Known → ℕ → List EventTree → List Demand
events_demands known event [] = []
events_demands known event (e ∷ es) = event_demands known event e ++ events_demands known (event + 1) es

-- all that is asked of a service, where what it declares is known
abbrev pub demands_with : Known → ServiceTree → List Demand
demands_with known s =
    name_asks known 0 s.name
    ++ (fields_demands known 0 0 s.vars
    ++ (contexts_demands known 1 0 (contexts_of s.contexts)
    ++ (methods_demands known 0 (length (methods_in 1 (contexts_of s.contexts))) s.methods
    ++ events_demands known 0 s.events)))

unfoldable pub service_demands : ServiceTree → List Demand
service_demands s = demands_with (known_of s) s

-- a service is typed where every demand holds
abbrev pub IsTyped : ServiceTree → Type 0
IsTyped s = first_wrong (service_demands s) ≡ None

-- ---- with each name resolved

-- a class's methods, the first of which has a number among all methods
abbrev pub resolve_methods : Known → ℕ → ℕ → List MethodTree → List MethodView
resolve_methods known class method [] = []
resolve_methods known class method (m ∷ ms) = resolve_method known class method m ∷ resolve_methods known class (method + 1) ms

abbrev mutual
  pub resolve_context : Known → ℕ → ℕ → ContextTree → List MethodView
  resolve_context known class method (Context at name vars contexts methods) =
      resolve_contexts known (class + 1) method contexts
      ++ resolve_methods known class (method + length (methods_in (class + 1) contexts)) methods

  pub resolve_contexts : Known → ℕ → ℕ → ContextTrees → List MethodView
  resolve_contexts known class method no_contexts = []
  resolve_contexts known class method (context_and c cs) =
      resolve_context known class method c
      ++ resolve_contexts known (class + class_count c) (method + length (methods_of class c)) cs

-- the methods of a service in text order, and its events
pub record ResolvedView : Type 0 where
  pub methods : List MethodView
  pub events : List EventView

abbrev pub resolve_with : Known → ServiceTree → ResolvedView
resolve_with known s = record {
  methods = resolve_contexts known 1 0 (contexts_of s.contexts) ++ resolve_methods known 0 (length (methods_in 1 (contexts_of s.contexts))) s.methods;
  events = map (resolve_event known) s.events;
}

unfoldable pub resolve_service : ServiceTree → ResolvedView
resolve_service s = resolve_with (known_of s) s

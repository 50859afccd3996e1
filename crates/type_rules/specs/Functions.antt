-- Methods and events of a service: what is asked of them, and what they are with each name resolved.
use Rattle.std.specs.Prelude.{ℕ, ◌&&◌, Bool, not, false, nat_lt, List, [], ◌∷◌, ◌++◌, length, Option, Some, None, is_none}
use Rattle.std.specs.Option.{option_map, option_map_or}
use Rattle.wave_base.specs.declared.limits.TheConstants.{PARAMS}
use Rattle.wave_base.specs.declared.span.Span.{Span}
use Rattle.wave_base.specs.declared.value.Kind.{Kind}
use Rattle.wave_base.specs.declared.value.Kind.TheVariants as k
use Rattle.mace_ast.specs.declared.name.Name.{Name}
use Rattle.mace_ast.specs.declared.method.Param.{Param}
use Rattle.mace_ast.specs.Decls.{LastTree, MethodTree, PhaseTree, EventTree}
use Rattle.mace_ast.specs.Stmts.{StmtTrees, no_stmts, stmts_of}
use Rattle.value_ops.specs.Rows.{first_builtin}
use Rattle.resolved_service.specs.Steps.{Steps, surely_ends}
use Rattle.resolved_service.specs.View.{Tree}
use Rattle.type_rules.specs.declared.error.TypeError.TheVariants.{Duplicate, Mismatch, MissingReply, Limit}
use Rattle.type_rules.specs.declared.error.Which.TheVariants.{Params}
use Rattle.type_rules.specs.declared.known.Known.{Known}
use Rattle.type_rules.specs.Demands.{Demand, ask}
use Rattle.type_rules.specs.Kinds.{same_kind}
use Rattle.type_rules.specs.Known.{kinds_of, class_named, event_named, method_named, none_before}
use Rattle.type_rules.specs.Here.{Here, OfMethod, OfEvent, rows_of, start, with_local, in_class, local_named}
use Rattle.type_rules.specs.Exprs.{or_zero, resolve, class_asks, demands_as}
use Rattle.type_rules.specs.Stmts.{after_all, resolve_stmts, stmts_demands, reach_asks}

-- ---- parameters

abbrev pub after_params : Here → List Param → Here
after_params h [] = h
after_params h (p ∷ ps) = after_params (with_local h p.name.text p.kind) ps

abbrev pub param_asks : Here → Param → List Demand
param_asks h p =
    ask (nat_lt (length h.slots) PARAMS) (Limit Params p.name.at)
    ∷ ask (is_none (local_named h p.name.text)) (Duplicate p.name.at)
    ∷ []

-- an event takes no map
abbrev pub no_map : Param → List Demand
no_map p = ask (not (same_kind p.kind k.Map)) (Mismatch p.name.at) ∷ []

abbrev pub method_params_demands : Here → List Param → List Demand
method_params_demands h [] = []
method_params_demands h (p ∷ ps) = param_asks h p ++ method_params_demands (with_local h p.name.text p.kind) ps

abbrev pub event_params_demands : Here → List Param → List Demand
event_params_demands h [] = []
event_params_demands h (p ∷ ps) = (param_asks h p ++ no_map p) ++ event_params_demands (with_local h p.name.text p.kind) ps

-- ---- the end of a function, by its type and by what is written there

-- what stands there, behind statements that surely end, or not: nothing comes to a value behind those that do
abbrev pub last_demands : Here → Name → Bool → Option Kind → Option LastTree → List Demand
last_demands h name ended None None = []
last_demands h name ended (Some kind) None = ask ended (MissingReply name.at) ∷ []
last_demands h name ended None (Some last) = reach_asks ended last.at ++ ask false (Mismatch last.at) ∷ []
last_demands h name ended (Some kind) (Some last) = reach_asks ended last.at ++ demands_as h kind last.value

pub record LastView : Type 0 where
  pub at : Span
  pub value : Tree

abbrev pub resolve_last : Here → LastTree → LastView
resolve_last h last = record { at = last.at; value = resolve h last.value }

-- ---- methods

pub record MethodView : Type 0 where
  pub at : Span
  pub name : List ℕ
  pub class : ℕ
  pub params : List Kind
  pub result : Option Kind
  pub locals : List Kind
  pub body : Steps
  pub last : Option LastView

-- where the body of a method begins
abbrev pub method_start : Known → ℕ → ℕ → MethodTree → Here
method_start known class number m = after_params (start known class number (OfMethod m.result)) m.params

abbrev pub method_end : Known → ℕ → ℕ → MethodTree → Here
method_end known class number m = after_all (method_start known class number m) (stmts_of m.body)

-- the body of a method, resolved
abbrev pub method_body : Known → ℕ → ℕ → MethodTree → Steps
method_body known class number m = resolve_stmts (method_start known class number m) (stmts_of m.body)

-- of a class's method with a number among all methods
abbrev pub method_demands : Known → ℕ → ℕ → MethodTree → List Demand
method_demands known class number m =
    ask (none_before number (method_named known class m.name.text) && is_none (first_builtin (rows_of known) m.name.text)) (Duplicate m.name.at)
    ∷ (method_params_demands (start known class number (OfMethod m.result)) m.params
    ++ (stmts_demands (method_start known class number m) (stmts_of m.body)
    ++ last_demands (method_end known class number m) m.name (surely_ends (method_body known class number m)) m.result m.last))

abbrev pub resolve_method : Known → ℕ → ℕ → MethodTree → MethodView
resolve_method known class number m = record {
  at = m.at;
  name = m.name.text;
  class = class;
  params = kinds_of m.params;
  result = m.result;
  locals = (method_end known class number m).slots;
  body = method_body known class number m;
  last = option_map (resolve_last (method_end known class number m)) m.last;
}

-- ---- events

pub record PhaseView : Type 0 where
  pub at : Span
  pub class : ℕ
  pub key : Tree
  pub body : Steps

pub record EventView : Type 0 where
  pub at : Span
  pub locals : List Kind
  pub here : Steps
  pub phases : List PhaseView
  pub last : Option LastView

-- all methods come before an event
abbrev pub event_start : Known → EventTree → Here
event_start known e = after_params (start known 0 (length known.methods) (OfEvent e.result)) e.params

-- the first phase, at the root, is empty where none is written
abbrev pub here_stmts : EventTree → StmtTrees
here_stmts e = option_map_or stmts_of e.here no_stmts

-- below `down`
abbrev pub phase_here : Here → PhaseTree → Here
phase_here h p = in_class h (or_zero (class_named h.known p.class))

abbrev pub phase_end : Here → PhaseTree → Here
phase_end h p = after_all (phase_here h p) (stmts_of p.body)

abbrev pub event_end : Here → List PhaseTree → Here
event_end h [] = h
event_end h (p ∷ ps) = event_end (phase_end h p) ps

abbrev pub phase_body : Here → PhaseTree → Steps
phase_body h p = resolve_stmts (phase_here h p) (stmts_of p.body)

-- the key belongs to the phase before, behind which something can come
abbrev pub phase_demands : Here → Bool → PhaseTree → List Demand
phase_demands h ended p = reach_asks ended p.at ++ (class_asks h p.at p.class ++ (demands_as h k.Int p.key ++ stmts_demands (phase_here h p) (stmts_of p.body)))

abbrev pub phases_demands : Here → Bool → List PhaseTree → List Demand
phases_demands h ended [] = []
phases_demands h ended (p ∷ ps) = phase_demands h ended p ++ phases_demands (phase_end h p) (surely_ends (phase_body h p)) ps

-- whether the last phase surely ends
abbrev pub ended_behind : Here → Bool → List PhaseTree → Bool
ended_behind h ended [] = ended
ended_behind h ended (p ∷ ps) = ended_behind (phase_end h p) (surely_ends (phase_body h p)) ps

abbrev pub here_end : Known → EventTree → Here
here_end known e = after_all (event_start known e) (here_stmts e)

-- the first phase, resolved
abbrev pub here_body : Known → EventTree → Steps
here_body known e = resolve_stmts (event_start known e) (here_stmts e)

abbrev pub event_ended : Known → EventTree → Bool
event_ended known e = ended_behind (here_end known e) (surely_ends (here_body known e)) e.phases

-- of the event with a number among all events
abbrev pub event_demands : Known → ℕ → EventTree → List Demand
event_demands known number e =
    ask (none_before number (event_named known e.name.text)) (Duplicate e.name.at)
    ∷ (event_params_demands (start known 0 (length known.methods) (OfEvent e.result)) e.params
    ++ (stmts_demands (event_start known e) (here_stmts e)
    ++ (phases_demands (here_end known e) (surely_ends (here_body known e)) e.phases
    ++ last_demands (event_end (here_end known e) e.phases) e.name (event_ended known e) e.result e.last)))

abbrev pub resolve_phase : Here → PhaseTree → PhaseView
resolve_phase h p = record { at = p.at; class = or_zero (class_named h.known p.class); key = resolve h p.key; body = phase_body h p }

abbrev pub resolve_phases : Here → List PhaseTree → List PhaseView
resolve_phases h [] = []
resolve_phases h (p ∷ ps) = resolve_phase h p ∷ resolve_phases (phase_end h p) ps

abbrev pub resolve_event : Known → EventTree → EventView
resolve_event known e = record {
  at = e.at;
  locals = (event_end (here_end known e) e.phases).slots;
  here = here_body known e;
  phases = resolve_phases (here_end known e) e.phases;
  last = option_map (resolve_last (event_end (here_end known e) e.phases)) e.last;
}

-- The rules for lists, as one walk from place to place.
use Rattle.std.proofs.Common.{◌≡◌, ◌<◌, ◌+◌, ℕ, Bool, false, suc, List, [], ◌∷◌, ◌++◌, length, map, get_or, take, refl, ap, ◌∙◌, arith}
use Rattle.std.proofs.lemmas.List.{length-take-le}
use Rattle.wave_base.specs.declared.value.Kind.{Kind}
use Rattle.wave_base.specs.declared.value.Kind.TheVariants as k
use Rattle.mace_ast.specs.declared.expr.Expr.{Expr}
use Rattle.mace_ast.specs.declared.stmt.Stmt.{Stmt}
use Rattle.mace_ast.specs.declared.field.VarDecl.{VarDecl}
use Rattle.mace_ast.specs.declared.method.Param.{Param}
use Rattle.mace_ast.specs.declared.method.MethodDecl.{MethodDecl}
use Rattle.mace_ast.specs.declared.event.Phase.{Phase}
use Rattle.mace_ast.specs.declared.event.EventDecl.{EventDecl}
use Rattle.mace_ast.specs.Exprs.{expr_tree, exprs_of}
use Rattle.mace_ast.specs.Stmts.{stmt_tree, stmts_of}
use Rattle.mace_ast.specs.Decls.{method_tree, phase_tree, event_tree}
use Rattle.resolved_service.specs.Steps.{Step, steps_of, step, is_end, surely_ends}
use Rattle.resolved_service.specs.View.{Tree, trees_of, tree}
use Rattle.type_rules.specs.declared.known.Known.{Known}
use Rattle.type_rules.specs.Demands.{Demand, first_wrong}
use Rattle.type_rules.specs.Here.{Here, with_local}
use Rattle.type_rules.specs.Exprs.{count, resolve, resolve_all, demands_as, args_demands}
use Rattle.type_rules.specs.Stmts.{after, after_all, resolve_stmt, resolve_stmts, start_of, reach_asks, stmt_demands, stmts_demands, behind_demands}
use Rattle.type_rules.specs.Functions.{MethodView, PhaseView, EventView, after_params, param_asks, no_map, method_params_demands, event_params_demands, phase_body, phase_end, event_end, ended_behind, phase_demands, phases_demands, resolve_phase, resolve_phases, method_demands, resolve_method, event_demands, resolve_event}
use Rattle.type_rules.specs.Services.{field_asks, fields_demands, methods_demands, events_demands, resolve_methods}
use Rattle.context_types.proofs.Walking.{ends, walk, makes}

-- ---- parameters

abbrev pub next_param : Here → Param → Here
next_param h p = with_local h p.name.text p.kind

abbrev pub event_param_asks : Here → Param → List Demand
event_param_asks h p = param_asks h p ++ no_map p

pub method_params_walk : (h : Here) (ps : List Param) → method_params_demands h ps ≡ walk next_param param_asks h ps
method_params_walk h [] = refl
method_params_walk h (p ∷ ps) = ap (λ ds. param_asks h p ++ ds) (method_params_walk (next_param h p) ps)

pub event_params_walk : (h : Here) (ps : List Param) → event_params_demands h ps ≡ walk next_param event_param_asks h ps
event_params_walk h [] = refl
event_params_walk h (p ∷ ps) = ap (λ ds. event_param_asks h p ++ ds) (event_params_walk (next_param h p) ps)

pub params_ends : (h : Here) (ps : List Param) → after_params h ps ≡ ends next_param h ps
params_ends h [] = refl
params_ends h (p ∷ ps) = params_ends (next_param h p) ps

-- ---- statements, each with whether the one before it surely ends

abbrev pub next_stmt : Here × Bool → Stmt → Here × Bool
next_stmt p s = (after p.0 (stmt_tree s), is_end (resolve_stmt p.0 (stmt_tree s)))

abbrev pub stmt_asks : Here × Bool → Stmt → List Demand
stmt_asks p s = reach_asks p.1 (start_of (stmt_tree s)) ++ stmt_demands p.0 (stmt_tree s)

abbrev pub stmt_made : Here × Bool → Stmt → Step
stmt_made p s = resolve_stmt p.0 (stmt_tree s)

behind_walk : (h : Here) (b : Bool) (ss : List Stmt) → behind_demands h b (stmts_of (map stmt_tree ss)) ≡ walk next_stmt stmt_asks (h, b) ss
behind_walk h b [] = refl
behind_walk h b (s ∷ ss) = ap (λ ds. stmt_asks (h, b) s ++ ds) (behind_walk (after h (stmt_tree s)) (is_end (resolve_stmt h (stmt_tree s))) ss)

pub stmts_walk : (h : Here) (ss : List Stmt) → first_wrong (stmts_demands h (stmts_of (map stmt_tree ss))) ≡ first_wrong (walk next_stmt stmt_asks (h, false) ss)
stmts_walk h [] = refl
stmts_walk h (s ∷ ss) = ap (λ ds. first_wrong (stmt_demands h (stmt_tree s) ++ ds)) (behind_walk (after h (stmt_tree s)) (is_end (resolve_stmt h (stmt_tree s))) ss)

pub stmts_ends : (h : Here) (b : Bool) (ss : List Stmt) → after_all h (stmts_of (map stmt_tree ss)) ≡ (ends next_stmt (h, b) ss).0
stmts_ends h b [] = refl
stmts_ends h b (s ∷ ss) = stmts_ends (after h (stmt_tree s)) (is_end (resolve_stmt h (stmt_tree s))) ss

pub stmts_made : (h : Here) (b : Bool) (ss : List Stmt) → resolve_stmts h (stmts_of (map stmt_tree ss)) ≡ steps_of (makes next_stmt stmt_made (h, b) ss)
stmts_made h b [] = refl
stmts_made h b (s ∷ ss) = ap (λ l. step (stmt_made (h, b) s) l) (stmts_made (after h (stmt_tree s)) (is_end (resolve_stmt h (stmt_tree s))) ss)

-- ---- phases, each with whether the one before it surely ends

abbrev pub next_phase : Here × Bool → Phase → Here × Bool
next_phase g p = (phase_end g.0 (phase_tree p), surely_ends (phase_body g.0 (phase_tree p)))

abbrev pub phase_asks : Here × Bool → Phase → List Demand
phase_asks g p = phase_demands g.0 g.1 (phase_tree p)

abbrev pub phase_made : Here × Bool → Phase → PhaseView
phase_made g p = resolve_phase g.0 (phase_tree p)

pub phases_walk : (h : Here) (b : Bool) (ps : List Phase) → phases_demands h b (map phase_tree ps) ≡ walk next_phase phase_asks (h, b) ps
phases_walk h b [] = refl
phases_walk h b (p ∷ ps) = ap (λ ds. phase_asks (h, b) p ++ ds) (phases_walk (phase_end h (phase_tree p)) (surely_ends (phase_body h (phase_tree p))) ps)

pub phases_ends : (h : Here) (b : Bool) (ps : List Phase) → event_end h (map phase_tree ps) ≡ (ends next_phase (h, b) ps).0
phases_ends h b [] = refl
phases_ends h b (p ∷ ps) = phases_ends (phase_end h (phase_tree p)) (surely_ends (phase_body h (phase_tree p))) ps

pub phases_ended : (h : Here) (b : Bool) (ps : List Phase) → ended_behind h b (map phase_tree ps) ≡ (ends next_phase (h, b) ps).1
phases_ended h b [] = refl
phases_ended h b (p ∷ ps) = phases_ended (phase_end h (phase_tree p)) (surely_ends (phase_body h (phase_tree p))) ps

pub phases_made : (h : Here) (b : Bool) (ps : List Phase) → resolve_phases h (map phase_tree ps) ≡ makes next_phase phase_made (h, b) ps
phases_made h b [] = refl
phases_made h b (p ∷ ps) = ap (λ l. phase_made (h, b) p ∷ l) (phases_made (phase_end h (phase_tree p)) (surely_ends (phase_body h (phase_tree p))) ps)

-- ---- what is numbered

abbrev pub next_number : {X : Type 0} → ℕ → X → ℕ
next_number n x = n + 1

pub numbers_end : {X : Type 0} (n : ℕ) (xs : List X) → ends next_number n xs ≡ n + length xs
numbers_end n [] = omega arith
numbers_end n (x ∷ xs) = let e = numbers_end (n + 1) xs in omega arith

pub number_at : {X : Type 0} (n : ℕ) (xs : List X) (i : ℕ) → i < length xs → ends next_number n (take i xs) ≡ n + i
number_at n xs i l = numbers_end n (take i xs) ∙ ap (λ m. n + m) (length-take-le i xs (omega arith))

pub at_number : {X : Type 0} (xs : List X) (i : ℕ) → i < length xs → ends next_number 0 (take i xs) ≡ i
at_number xs i l = let e : 0 + i ≡ i = omega arith in number_at 0 xs i l ∙ e

module _ (known : Known) (class : ℕ) where
  pub fields_walk : (n : ℕ) (fs : List VarDecl) → fields_demands known class n fs ≡ walk next_number (field_asks known class) n fs
  fields_walk n [] = refl
  fields_walk n (f ∷ fs) = ap (λ ds. field_asks known class n f ++ ds) (fields_walk (n + 1) fs)

  abbrev pub method_asks_at : ℕ → MethodDecl → List Demand
  method_asks_at n m = method_demands known class n (method_tree m)

  abbrev pub method_made : ℕ → MethodDecl → MethodView
  method_made n m = resolve_method known class n (method_tree m)

  pub methods_walk : (n : ℕ) (ms : List MethodDecl) → methods_demands known class n (map method_tree ms) ≡ walk next_number method_asks_at n ms
  methods_walk n [] = refl
  methods_walk n (m ∷ ms) = ap (λ ds. method_asks_at n m ++ ds) (methods_walk (n + 1) ms)

  pub methods_made : (n : ℕ) (ms : List MethodDecl) → resolve_methods known class n (map method_tree ms) ≡ makes next_number method_made n ms
  methods_made n [] = refl
  methods_made n (m ∷ ms) = ap (λ l. method_made n m ∷ l) (methods_made (n + 1) ms)

module _ (known : Known) where
  abbrev pub event_asks : ℕ → EventDecl → List Demand
  event_asks n e = event_demands known n (event_tree e)

  abbrev pub event_made : ℕ → EventDecl → EventView
  event_made n e = resolve_event known (event_tree e)

  pub events_walk : (n : ℕ) (es : List EventDecl) → events_demands known n (map event_tree es) ≡ walk next_number event_asks n es
  events_walk n [] = refl
  events_walk n (e ∷ es) = ap (λ ds. event_asks n e ++ ds) (events_walk (n + 1) es)

  pub events_made : (n : ℕ) (es : List EventDecl) → map (resolve_event known) (map event_tree es) ≡ makes next_number event_made n es
  events_made n [] = refl
  events_made n (e ∷ es) = ap (λ l. event_made n e ∷ l) (events_made (n + 1) es)

-- ---- arguments, where there are as many as kinds

module _ (h : Here) (kinds : List Kind) where
  abbrev pub arg_asks : ℕ → Expr → List Demand
  arg_asks n a = demands_as h (get_or kinds n k.Int) (expr_tree a)

  abbrev pub arg_made : ℕ → Expr → Tree
  arg_made n a = resolve h (expr_tree a)

  pub args_made : (n : ℕ) (es : List Expr) → resolve_all h (exprs_of (map expr_tree es)) ≡ trees_of (makes next_number arg_made n es)
  args_made n [] = refl
  args_made n (a ∷ es) = ap (λ l. tree (resolve h (expr_tree a)) l) (args_made (n + 1) es)

  args_walk_from : (n : ℕ) (ks : List Kind) (es : List Expr) → ((j : ℕ) → j < length ks → get_or ks j k.Int ≡ get_or kinds (n + j) k.Int) → length ks ≡ length es
      → args_demands h ks (exprs_of (map expr_tree es)) ≡ walk next_number arg_asks n es
  args_walk_from n [] [] same l = refl
  args_walk_from n [] (a ∷ es) same l = absurd (omega arith)
  args_walk_from n (kind ∷ ks) [] same l = absurd (omega arith)
  args_walk_from n (kind ∷ ks) (a ∷ es) same l =
      let z : n + 0 ≡ n = omega arith in
      let here : kind ≡ get_or kinds n k.Int = same 0 (omega arith) ∙ ap (λ m. get_or kinds m k.Int) z in
      (λ i. demands_as h (here i) (expr_tree a) ++ args_demands h ks (exprs_of (map expr_tree es)))
      ∙ ap (λ ds. arg_asks n a ++ ds) (args_walk_from (n + 1) ks es (λ j s. let e : n + suc j ≡ n + 1 + j = omega arith in same (suc j) (omega arith) ∙ ap (λ m. get_or kinds m k.Int) e) (omega arith))

  pub args_walk : (es : List Expr) → length kinds ≡ length es → args_demands h kinds (exprs_of (map expr_tree es)) ≡ walk next_number arg_asks 0 es
  args_walk es l = args_walk_from 0 kinds es (λ j s. let e : j ≡ 0 + j = omega arith in ap (λ m. get_or kinds m k.Int) e) l

pub count_args : (es : List Expr) → count (exprs_of (map expr_tree es)) ≡ length es
count_args [] = refl
count_args (a ∷ es) = ap suc (count_args es)

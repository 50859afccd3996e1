-- A typed function has no more slots than it may have.
use Rattle.std.proofs.Common.{◌≡◌, ◌+◌, ◌≤◌, ◌<◌, ℕ, Bool, nat_lt, nat_le, List, [], ◌∷◌, ◌++◌, length, None, arith}
use Rattle.std.proofs.lemmas.Bool.{leb-true, ltb-true}
use Rattle.std.proofs.lemmas.List.{length-append}
use Rattle.wave_base.specs.declared.limits.TheConstants.{PARAMS, LOCALS}
use Rattle.wave_base.specs.declared.value.Kind.{Kind}
use Rattle.wave_base.specs.declared.value.Kind.TheVariants as k
use Rattle.mace_ast.specs.declared.name.Name.{Name}
use Rattle.mace_ast.specs.declared.method.Param.{Param}
use Rattle.mace_ast.specs.Decls.{PhaseTree}
use Rattle.mace_ast.specs.Stmts as s
use Rattle.mace_ast.specs.Stmts.{StmtTree, StmtTrees, ElseTree, no_stmts, stmt_and, no_else, otherwise, stmts_of}
use Rattle.resolved_service.specs.Steps.{is_end, surely_ends}
use Rattle.type_rules.specs.Demands.{first_wrong}
use Rattle.type_rules.specs.Here.{Here, with_local, with_counter, behind}
use Rattle.type_rules.specs.Exprs.{demands, demands_as, class_asks}
use Rattle.type_rules.specs.Stmts.{after, after_all, after_else, local_asks, reach_asks, start_of, resolve_stmt, stmt_demands, stmts_demands, behind_demands, else_demands}
use Rattle.type_rules.specs.Functions.{after_params, param_asks, no_map, method_params_demands, event_params_demands, phase_here, phase_end, event_end, phase_body, phase_demands, phases_demands}
use Rattle.type_rules.proofs.First.{first_wrong_parts}
use Rattle.type_laws.proofs.Sound.{all_hold}

abbrev pub HasFew : Here → Type 0
HasFew h = length h.slots ≤ LOCALS

-- ---- parameters

one_param : (h : Here) (p : Param) → first_wrong (param_asks h p) ≡ None → length (with_local h p.name.text p.kind).slots ≤ PARAMS
one_param h p d =
    let l = ltb-true (length h.slots) PARAMS (all_hold (param_asks h p) d).0 in
    let e = length-append h.slots (p.kind ∷ []) in
    omega arith

pub method_params_few : (h : Here) (ps : List Param) → first_wrong (method_params_demands h ps) ≡ None → length h.slots ≤ PARAMS → length (after_params h ps).slots ≤ PARAMS
method_params_few h [] d few = few
method_params_few h (p ∷ ps) d few =
    let next = with_local h p.name.text p.kind in
    let a = first_wrong_parts (param_asks h p) (method_params_demands next ps) d in
    method_params_few next ps a.1 (one_param h p a.0)

pub event_params_few : (h : Here) (ps : List Param) → first_wrong (event_params_demands h ps) ≡ None → length h.slots ≤ PARAMS → length (after_params h ps).slots ≤ PARAMS
event_params_few h [] d few = few
event_params_few h (p ∷ ps) d few =
    let next = with_local h p.name.text p.kind in
    let a = first_wrong_parts (param_asks h p ++ no_map p) (event_params_demands next ps) d in
    event_params_few next ps a.1 (one_param h p (first_wrong_parts (param_asks h p) (no_map p) a.0).0)

pub params_within : (n : ℕ) → n ≤ PARAMS → n ≤ LOCALS
params_within n few = omega arith

-- ---- statements

one_local : (h : Here) (name : Name) (kind : Kind) → first_wrong (local_asks h name 1) ≡ None → HasFew (with_local h name.text kind)
one_local h name kind d =
    let l = leb-true (length h.slots + 1) LOCALS (all_hold (local_asks h name 1) d).1.0 in
    let e = length-append h.slots (kind ∷ []) in
    omega arith

three_locals : (h : Here) (name : Name) → first_wrong (local_asks h name 3) ≡ None → HasFew (with_counter h name.text)
three_locals h name d =
    let l = leb-true (length h.slots + 3) LOCALS (all_hold (local_asks h name 3) d).1.0 in
    let e = length-append h.slots (k.Int ∷ k.Int ∷ []) in
    let f = length-append (h.slots ++ k.Int ∷ k.Int ∷ []) (k.Int ∷ []) in
    omega arith

mutual
  after_few : (h : Here) (a : StmtTree) → first_wrong (stmt_demands h a) ≡ None → HasFew h → HasFew (after h a)
  after_few h (s.Let at name value) d few = one_local h name _ (first_wrong_parts (demands h value) (local_asks h name 1) d).1
  after_few h (s.If at test body other) d few =
      let next = behind h (after_all h body) in
      let a = first_wrong_parts (demands_as h k.Bool test) (stmts_demands h body ++ else_demands next other) d in
      let b = first_wrong_parts (stmts_demands h body) (else_demands next other) a.1 in
      else_few next other b.1 (all_few h body b.0 few)
  after_few h (s.While at test body) d few = all_few h body (first_wrong_parts (demands_as h k.Bool test) (stmts_demands h body) d).1 few
  after_few h (s.For at name low high body) d few =
      let inner = with_counter h name.text in
      let a = first_wrong_parts (demands_as h k.Int low) (demands_as h k.Int high ++ (local_asks h name 3 ++ stmts_demands inner body)) d in
      let b = first_wrong_parts (demands_as h k.Int high) (local_asks h name 3 ++ stmts_demands inner body) a.1 in
      let c = first_wrong_parts (local_asks h name 3) (stmts_demands inner body) b.1 in
      all_few inner body c.1 (three_locals h name c.0)
  after_few h (s.Require at test) d few = few
  after_few h (s.Send at label value) d few = few
  after_few h (s.Spawn at event args) d few = few
  after_few h (s.Cut at target key) d few = few
  after_few h (s.Set at target key value) d few = few
  after_few h (s.Call at name args) d few = few
  after_few h (s.ChildCall at class key name args) d few = few
  after_few h (s.Return at value) d few = few
  after_few h (s.Finish at value) d few = few

  pub all_few : (h : Here) (ss : StmtTrees) → first_wrong (stmts_demands h ss) ≡ None → HasFew h → HasFew (after_all h ss)
  all_few h no_stmts d few = few
  all_few h (stmt_and a ss) d few =
      let p = first_wrong_parts (stmt_demands h a) (behind_demands (after h a) (is_end (resolve_stmt h a)) ss) d in
      rest_few (after h a) (is_end (resolve_stmt h a)) ss p.1 (after_few h a p.0 few)

  -- statements behind another one
  rest_few : (h : Here) (ended : Bool) (ss : StmtTrees) → first_wrong (behind_demands h ended ss) ≡ None → HasFew h → HasFew (after_all h ss)
  rest_few h ended no_stmts d few = few
  rest_few h ended (stmt_and a ss) d few =
      let tail = behind_demands (after h a) (is_end (resolve_stmt h a)) ss in
      let p = first_wrong_parts (reach_asks ended (start_of a)) (stmt_demands h a ++ tail) d in
      let q = first_wrong_parts (stmt_demands h a) tail p.1 in
      rest_few (after h a) (is_end (resolve_stmt h a)) ss q.1 (after_few h a q.0 few)

  else_few : (h : Here) (other : ElseTree) → first_wrong (else_demands h other) ≡ None → HasFew h → HasFew (after_else h other)
  else_few h no_else d few = few
  else_few h (otherwise ss) d few = all_few h ss d few

-- ---- phases

pub phases_few : (h : Here) (ended : Bool) (ps : List PhaseTree) → first_wrong (phases_demands h ended ps) ≡ None → HasFew h → HasFew (event_end h ps)
phases_few h ended [] d few = few
phases_few h ended (p ∷ ps) d few =
    let on = surely_ends (phase_body h p) in
    let body = stmts_demands (phase_here h p) (stmts_of p.body) in
    let a = first_wrong_parts (phase_demands h ended p) (phases_demands (phase_end h p) on ps) d in
    let b = first_wrong_parts (reach_asks ended p.at) (class_asks h p.at p.class ++ (demands_as h k.Int p.key ++ body)) a.0 in
    let c = first_wrong_parts (class_asks h p.at p.class) (demands_as h k.Int p.key ++ body) b.1 in
    let e = first_wrong_parts (demands_as h k.Int p.key) body c.1 in
    phases_few (phase_end h p) on ps a.1 (all_few (phase_here h p) (stmts_of p.body) e.1 few)

-- Statements at a place of the text: what may be named behind them, what is asked of them, and what they are with each
-- name resolved.
use Rattle.std.specs.Prelude.{ℕ, ◌+◌, ◌==◌, Bool, not, false, nat_le, List, [], ◌∷◌, ◌++◌, length, Option, Some, None, is_some, is_none, unwrap_or}
use Rattle.std.specs.Option.{option_map, option_map_or}
use Rattle.wave_base.specs.declared.limits.TheConstants.{LOCALS}
use Rattle.wave_base.specs.declared.span.Span.{Span}
use Rattle.wave_base.specs.declared.value.Kind.{Kind}
use Rattle.wave_base.specs.declared.value.Kind.TheVariants as k
use Rattle.mace_ast.specs.declared.name.Name.{Name}
use Rattle.mace_ast.specs.declared.stmt.Target.{Target}
use Rattle.mace_ast.specs.Exprs.{ExprTree, exprs_of}
use Rattle.mace_ast.specs.Stmts.{StmtTree, StmtTrees, ElseTree, Let, If, While, For, Require, Send, Spawn, Cut, Set, Call, ChildCall, Return, Finish, no_stmts, stmt_and, no_else, otherwise}
use Rattle.resolved_service.specs.Steps as r
use Rattle.resolved_service.specs.Steps.{Step, Steps, Else, no_steps, step, is_end}
use Rattle.resolved_service.specs.View.{Tree}
use Rattle.type_rules.specs.declared.error.TypeError.TheVariants.{UnknownName, Duplicate, Mismatch, ArgCount, NotDownward, Limit, Unreachable}
use Rattle.type_rules.specs.declared.error.Which.TheVariants.{Locals}
use Rattle.type_rules.specs.declared.meant.Variable.{Variable}
use Rattle.type_rules.specs.declared.meant.Variable.TheVariants as var
use Rattle.type_rules.specs.Demands.{Demand, ask}
use Rattle.type_rules.specs.Kinds.{has_kind}
use Rattle.type_rules.specs.Known.{class_named, event_named, event_params}
use Rattle.type_rules.specs.Here.{Here, Function, OfMethod, OfEvent, with_local, with_counter, behind, local_named, variable, variable_kind, callee_named}
use Rattle.type_rules.specs.Exprs.{kind_of, resolve, resolve_all, or_zero, call_tree, child_tree, demands, demands_as, args_demands, call_demands, child_demands}

-- ---- what may be named behind a statement

-- the kind of a value; where it has none, a demand tells it
abbrev pub kind_or_int : Option Kind → Kind
kind_or_int o = unwrap_or o k.Int

abbrev mutual
  pub after : Here → StmtTree → Here
  after h (Let at name value) = with_local h name.text (kind_or_int (kind_of h value))
  after h (If at test body other) = after_else (behind h (after_all h body)) other
  after h (While at test body) = behind h (after_all h body)
  after h (For at name low high body) = behind h (after_all (with_counter h name.text) body)
  after h _ = h

  pub after_all : Here → StmtTrees → Here
  after_all h no_stmts = h
  after_all h (stmt_and s ss) = after_all (after h s) ss

  pub after_else : Here → ElseTree → Here
  after_else h no_else = h
  after_else h (otherwise ss) = behind h (after_all h ss)

-- ---- with each name resolved

-- what is written or cut: a local or an own field; `C.f` is neither
abbrev pub own_variable : Here → Option (List ℕ) → List ℕ → Option Variable
own_variable h None name = variable h name
own_variable h (Some class) name = None

abbrev pub target_variable : Here → Target → Option Variable
target_variable h target = own_variable h target.above target.name

abbrev pub set_step : Span → Option Variable → Option Tree → Tree → Step
set_step at (Some (var.Local slot kind)) None value = r.SetLocal at slot value
set_step at (Some (var.Local slot kind)) (Some key) value = r.PutLocal at slot key value
set_step at (Some (var.Field field kind)) None value = r.SetField at field value
set_step at (Some (var.Field field kind)) (Some key) value = r.PutField at field key value
set_step at None key value = r.SetLocal at 0 value

abbrev pub cut_step : Span → Option Variable → Tree → Step
cut_step at (Some (var.Local slot kind)) key = r.CutLocal at slot key
cut_step at (Some (var.Field field kind)) key = r.CutField at field key
cut_step at None key = r.CutLocal at 0 key

abbrev mutual
  pub resolve_stmt : Here → StmtTree → Step
  resolve_stmt h (Let at name value) = r.SetLocal at (length h.slots) (resolve h value)
  resolve_stmt h (If at test body other) = r.If at (resolve h test) (resolve_stmts h body) (resolve_else (behind h (after_all h body)) other)
  resolve_stmt h (While at test body) = r.While at (resolve h test) (resolve_stmts h body)
  resolve_stmt h (For at name low high body) = r.For at (length h.slots) (resolve h low) (resolve h high) (resolve_stmts (with_counter h name.text) body)
  resolve_stmt h (Require at test) = r.Require at (resolve h test)
  resolve_stmt h (Send at label value) = r.Send at label (resolve h value)
  resolve_stmt h (Spawn at event args) = r.Spawn at (or_zero (event_named h.known event)) (resolve_all h (exprs_of args))
  resolve_stmt h (Cut at target key) = cut_step at (target_variable h target) (resolve h key)
  resolve_stmt h (Set at target key value) = set_step at (target_variable h target) (option_map (resolve h) key) (resolve h value)
  resolve_stmt h (Call at name args) = r.Do at (call_tree at (callee_named h name) (resolve_all h (exprs_of args)))
  resolve_stmt h (ChildCall at class key name args) = r.Do at (child_tree h at class name (resolve h key) (resolve_all h (exprs_of args)))
  resolve_stmt h (Return at value) = r.Return at (option_map (resolve h) value)
  resolve_stmt h (Finish at value) = r.Finish at (option_map (resolve h) value)

  pub resolve_stmts : Here → StmtTrees → Steps
  resolve_stmts h no_stmts = no_steps
  resolve_stmts h (stmt_and s ss) = step (resolve_stmt h s) (resolve_stmts (after h s) ss)

  pub resolve_else : Here → ElseTree → Else
  resolve_else h no_else = r.no_else
  resolve_else h (otherwise ss) = r.otherwise (resolve_stmts h ss)

-- ---- demands

-- a new local that takes so many slots
abbrev pub local_asks : Here → Name → ℕ → List Demand
local_asks h name slots =
    ask (is_none (local_named h name.text)) (Duplicate name.at)
    ∷ ask (nat_le (length h.slots + slots) LOCALS) (Limit Locals name.at)
    ∷ []

-- `C.f` may be read, and not written
abbrev pub own_asks : Here → Span → Option (List ℕ) → List ℕ → List Demand
own_asks h at None name = ask (is_some (variable h name)) (UnknownName at) ∷ []
own_asks h at (Some class) name = ask (is_some (class_named h.known class)) (UnknownName at) ∷ ask false (NotDownward at) ∷ []

abbrev pub target_asks : Here → Span → Target → List Demand
target_asks h at target = own_asks h at target.above target.name

abbrev pub target_kind : Here → Target → Option Kind
target_kind h target = option_map variable_kind (target_variable h target)

-- `x[k]`, by the kind of x
abbrev pub key_demands : Here → Span → Option Kind → ExprTree → List Demand
key_demands h at of_target key = ask (has_kind of_target k.Map) (Mismatch at) ∷ demands_as h k.Int key

-- `x = e`, or `x[k] = e`
abbrev pub set_demands : Here → Span → Target → Option ExprTree → ExprTree → List Demand
set_demands h at target None value = target_asks h at target ++ demands_as h (kind_or_int (target_kind h target)) value
set_demands h at target (Some key) value = target_asks h at target ++ (key_demands h at (target_kind h target) key ++ demands_as h k.Int value)

abbrev pub spawn_takes : Here → List ℕ → List Kind
spawn_takes h event = option_map_or (event_params h.known) (event_named h.known event) []

abbrev pub spawn_demands : Here → Span → List ℕ → List ExprTree → List Demand
spawn_demands h at event args =
    ask (is_some (event_named h.known event)) (UnknownName at)
    ∷ ask (length (spawn_takes h event) == length args) (ArgCount at)
    ∷ args_demands h (spawn_takes h event) (exprs_of args)

-- a value, where the function gives one, and none, where it gives none
abbrev pub end_demands : Here → Span → Option Kind → Option ExprTree → List Demand
end_demands h at None None = []
end_demands h at (Some kind) (Some value) = demands_as h kind value
end_demands h at _ _ = ask false (Mismatch at) ∷ []

-- `return` ends a method, and `finish` an event
abbrev pub return_demands : Here → Span → Function → Option ExprTree → List Demand
return_demands h at (OfMethod result) value = end_demands h at result value
return_demands h at (OfEvent result) value = ask false (Mismatch at) ∷ []

abbrev pub finish_demands : Here → Span → Function → Option ExprTree → List Demand
finish_demands h at (OfEvent result) value = end_demands h at result value
finish_demands h at (OfMethod result) value = ask false (Mismatch at) ∷ []

-- where a statement starts
abbrev pub start_of : StmtTree → Span
start_of (Let at name value) = at
start_of (If at test body other) = at
start_of (While at test body) = at
start_of (For at name low high body) = at
start_of (Require at test) = at
start_of (Send at label value) = at
start_of (Spawn at event args) = at
start_of (Cut at target key) = at
start_of (Set at target key value) = at
start_of (Call at name args) = at
start_of (ChildCall at class key name args) = at
start_of (Return at value) = at
start_of (Finish at value) = at

-- nothing stands behind what surely ends
abbrev pub reach_asks : Bool → Span → List Demand
reach_asks ended at = ask (not ended) (Unreachable at) ∷ []

abbrev mutual
  pub stmt_demands : Here → StmtTree → List Demand
  stmt_demands h (Let at name value) = demands h value ++ local_asks h name 1
  stmt_demands h (If at test body other) = demands_as h k.Bool test ++ (stmts_demands h body ++ else_demands (behind h (after_all h body)) other)
  stmt_demands h (While at test body) = demands_as h k.Bool test ++ stmts_demands h body
  stmt_demands h (For at name low high body) = demands_as h k.Int low ++ (demands_as h k.Int high ++ (local_asks h name 3 ++ stmts_demands (with_counter h name.text) body))
  stmt_demands h (Require at test) = demands h test ++ ask (has_kind (kind_of h test) k.Bool) (Mismatch at) ∷ []
  stmt_demands h (Send at label value) = demands h value
  stmt_demands h (Spawn at event args) = spawn_demands h at event args
  stmt_demands h (Cut at target key) = target_asks h at target ++ key_demands h at (target_kind h target) key
  stmt_demands h (Set at target key value) = set_demands h at target key value
  stmt_demands h (Call at name args) = call_demands h at name (exprs_of args)
  stmt_demands h (ChildCall at class key name args) = child_demands h at class key name (exprs_of args)
  stmt_demands h (Return at value) = return_demands h at h.within value
  stmt_demands h (Finish at value) = finish_demands h at h.within value

  pub stmts_demands : Here → StmtTrees → List Demand
  stmts_demands h no_stmts = []
  stmts_demands h (stmt_and s ss) = stmt_demands h s ++ behind_demands (after h s) (is_end (resolve_stmt h s)) ss

  -- behind a statement that surely ends, or not
  pub behind_demands : Here → Bool → StmtTrees → List Demand
  behind_demands h ended no_stmts = []
  behind_demands h ended (stmt_and s ss) = reach_asks ended (start_of s) ++ (stmt_demands h s ++ behind_demands (after h s) (is_end (resolve_stmt h s)) ss)

  pub else_demands : Here → ElseTree → List Demand
  else_demands h no_else = []
  else_demands h (otherwise ss) = stmts_demands h ss

-- Statements without blocks, of a typed service, with their names resolved, are typed.
use Rattle.std.proofs.Common.{◌≡◌, ◌==◌, ℕ, inl, inr, true, false, List, [], ◌∷◌, ◌++◌, length, get_or, slice_get, Option, Some, None, is_some, option_and_then, refl, sym, ap, subst, ◌∙◌}
use Rattle.std.specs.Option.{option_map, option_map_or}
use Rattle.std.proofs.lemmas.Bool.{eqb-true}
use Rattle.std.proofs.lemmas.List.{get_or-map}
use Rattle.std.proofs.lemmas.List.Quantifiers.{position-Some}
use Rattle.std.proofs.lemmas.Option.{slice_get-get_or}
use Rattle.wave_base.specs.declared.shape.EventInfo.{EventInfo}
use Rattle.wave_base.specs.declared.span.Span.{Span}
use Rattle.wave_base.specs.declared.value.Kind.{Kind}
use Rattle.wave_base.specs.declared.value.Kind.TheVariants as k
use Rattle.wave_base.specs.Names.{same_bytes}
use Rattle.mace_ast.specs.declared.stmt.Target.{Target}
use Rattle.mace_ast.specs.Exprs as e
use Rattle.mace_ast.specs.Exprs.{ExprTree, ExprTrees, exprs_of}
use Rattle.resolved_service.specs.declared.service.Method.{Method}
use Rattle.resolved_service.specs.View.{Tree}
use Rattle.resolved_service.specs.Steps as st
use Rattle.code_scheme.specs.Typed.{Within, InMethod, InEvent, Gives, IsTypedReturn, IsTypedFinish, IsTypedStep}
use Rattle.type_rules.specs.declared.error.TypeError.TheVariants.{UnknownName, ArgCount, Mismatch}
use Rattle.type_rules.specs.declared.known.Known.{Known}
use Rattle.type_rules.specs.declared.meant.Variable.{Variable}
use Rattle.type_rules.specs.declared.meant.Variable.TheVariants as var
use Rattle.type_rules.specs.Demands.{ask, first_wrong}
use Rattle.type_rules.specs.Kinds.{has_kind}
use Rattle.type_rules.specs.Known.{class_named, event_named, event_params, field_named, field_kind}
use Rattle.type_rules.specs.Here.{Here, Function, OfMethod, OfEvent, variable, variable_kind, callee_named, gives}
use Rattle.type_rules.specs.Exprs.{kind_of, resolve, resolve_all, or_zero, call_tree, child_tree, child_gives, above_asks, kind_asks, demands, args_demands, demands_as, call_demands, child_demands}
use Rattle.type_rules.specs.Stmts.{kind_or_int, own_variable, target_variable, target_kind, own_asks, target_asks, key_demands, set_demands, spawn_demands, end_demands, return_demands, finish_demands, set_step, cut_step}
use Rattle.type_rules.proofs.First.{first_wrong_parts}
use Rattle.type_laws.proofs.Sound.{AllHold, all_hold, none_wrong}
use Rattle.type_laws.proofs.Trees.{absent, count_exprs}
use Rattle.typed_code.proofs.Exprs.{Declared, Named, Has, Have, Calls, IsVariable, variable_is, expr_has, args_have, expr_as, call_is, child_is}
use Rattle.typed_code.proofs.Levels.{LevelsAre}
use Rattle.typed_code.proofs.Rows.{kind_is}

pub some_of : {A : Type 0} (o : Option A) → is_some o ≡ true → (x : A) × (o ≡ Some x)
some_of None h = absurd (absent h)
some_of (Some x) h = (x, refl)

-- an expression of which all that is asked holds has a kind
pub kinded : (h : Here) (a : ExprTree) → first_wrong (demands h a) ≡ None → (kind : Kind) × (kind_of h a ≡ Some kind)
kinded h (e.Number at n) d = (k.Int, refl)
kinded h (e.Text at bytes) d = (k.Text, refl)
kinded h (e.Boolean at b) d = (k.Bool, refl)
kinded h (e.Empty at) d = (k.Map, refl)
kinded h (e.Read at name) d = let x = some_of (variable h name) (all_hold (demands h (e.Read at name)) d).0 in (variable_kind x.0, ap (option_map variable_kind) x.1)
kinded h (e.Above at class name) d = let a = all_hold (above_asks h at class name) d in by (class_named h.known class) a.0 a.1.1.0
  where
    by : (o : Option ℕ) → is_some o ≡ true → is_some (option_and_then (λ c. field_named h.known c name) o) ≡ true → (kind : Kind) × (option_and_then (λ c. option_map (λ f. field_kind h.known c f) (field_named h.known c name)) o ≡ Some kind)
    by None a b = absurd (absent a)
    by (Some c) a b = let f = some_of (field_named h.known c name) b in (field_kind h.known c f.0, ap (option_map (λ f. field_kind h.known c f)) f.1)
kinded h (e.Index at name key) d =
    let a = none_wrong (demands h key ++ kind_asks h (e.Index at name key)) (all_hold (demands h (e.Index at name key)) d).1 in
    some_of (kind_of h (e.Index at name key)) (all_hold (kind_asks h (e.Index at name key)) (first_wrong_parts (demands h key) (kind_asks h (e.Index at name key)) a).1).0
kinded h (e.AboveIndex at class name key) d =
    let a = first_wrong_parts (above_asks h at class name) (demands h key ++ kind_asks h (e.AboveIndex at class name key)) d in
    some_of (kind_of h (e.AboveIndex at class name key)) (all_hold (kind_asks h (e.AboveIndex at class name key)) (first_wrong_parts (demands h key) (kind_asks h (e.AboveIndex at class name key)) a.1).1).0
kinded h (e.Call at name args) d =
    some_of (kind_of h (e.Call at name args)) (all_hold (kind_asks h (e.Call at name args)) (first_wrong_parts (call_demands h at name args) (kind_asks h (e.Call at name args)) d).1).0
kinded h (e.ChildCall at class key name args) d =
    some_of (kind_of h (e.ChildCall at class key name args)) (all_hold (kind_asks h (e.ChildCall at class key name args)) (first_wrong_parts (child_demands h at class key name args) (kind_asks h (e.ChildCall at class key name args)) d).1).0
kinded h (e.Unary at sign operand) d =
    some_of (kind_of h (e.Unary at sign operand)) (all_hold (kind_asks h (e.Unary at sign operand)) (first_wrong_parts (demands h operand) (kind_asks h (e.Unary at sign operand)) d).1).0
kinded h (e.Binary at sign left right) d =
    let a = first_wrong_parts (demands h left) (demands h right ++ kind_asks h (e.Binary at sign left right)) d in
    some_of (kind_of h (e.Binary at sign left right)) (all_hold (kind_asks h (e.Binary at sign left right)) (first_wrong_parts (demands h right) (kind_asks h (e.Binary at sign left right)) a.1).1).0

-- an event that is named is there, with what it takes
event_there : (known : Known) (event : List ℕ) (n : ℕ) → event_named known event ≡ Some n → (info : EventInfo) × (slice_get known.shape.events n ≡ Some info) × (event_params known n ≡ info.params)
event_there known event n g =
    let none : EventInfo = record { name = []; params = []; reply = None } in
    let p = position-Some (λ (x : EventInfo). same_bytes x.name event) known.shape.events n none g in
    (get_or known.shape.events n none, slice_get-get_or known.shape.events n none p.0, get_or-map (λ (x : EventInfo). x.params) known.shape.events n none [] p.0)

-- a method or an event, as the scheme knows it
abbrev pub within_of : Function → Within
within_of (OfMethod gives) = InMethod gives
within_of (OfEvent gives) = InEvent gives

module _ (h : Here) (methods : List Method) (locals : List Kind) (there : Declared h.known methods) (levels : LevelsAre h.known) (named : Named locals h.locals) where
  abbrev pub Step : st.Step → Type 0
  Step s = IsTypedStep h.known.shape methods h.function locals h.class (within_of h.within) s

  pub of_this : (kind : Kind) (a : ExprTree) → first_wrong (demands_as h kind a) ≡ None → Has h methods locals (resolve h a) kind
  of_this kind a d = expr_as h methods locals there levels named kind a d

  pub any : (a : ExprTree) → first_wrong (demands h a) ≡ None → (kind : Kind) × (kind_of h a ≡ Some kind) × Has h methods locals (resolve h a) kind
  any a d = let x = kinded h a d in (x.0, x.1, expr_has h methods locals there levels named a d x.0 x.1)

  pub require_is : (at : Span) (test : ExprTree) → first_wrong (demands h test ++ ask (has_kind (kind_of h test) k.Bool) (Mismatch at) ∷ []) ≡ None → Step (st.Require at (resolve h test))
  require_is at test d =
      let p = first_wrong_parts (demands h test) (ask (has_kind (kind_of h test) k.Bool) (Mismatch at) ∷ []) d in
      expr_has h methods locals there levels named test p.0 k.Bool (kind_is (kind_of h test) k.Bool (all_hold (ask (has_kind (kind_of h test) k.Bool) (Mismatch at) ∷ []) p.1).0)

  pub send_is : (at : Span) (label : List ℕ) (value : ExprTree) → first_wrong (demands h value) ≡ None → Step (st.Send at label (resolve h value))
  send_is at label value d = let x = any value d in (x.0, x.2)

  pub spawn_is : (at : Span) (event : List ℕ) (args : List ExprTree) → first_wrong (spawn_demands h at event args) ≡ None → Step (st.Spawn at (or_zero (event_named h.known event)) (resolve_all h (exprs_of args)))
  spawn_is at event args d = by (event_named h.known event) refl (all_hold (spawn_demands h at event args) d)
    where
      by : (o : Option ℕ) → event_named h.known event ≡ o
          → AllHold (ask (is_some o) (UnknownName at) ∷ ask (length (option_map_or (event_params h.known) o []) == length args) (ArgCount at) ∷ args_demands h (option_map_or (event_params h.known) o []) (exprs_of args))
          → Step (st.Spawn at (or_zero o) (resolve_all h (exprs_of args)))
      by None g d = absurd (absent d.0)
      by (Some n) g d =
          let x = event_there h.known event n g in
          let count = eqb-true _ _ d.1.0 ∙ sym (count_exprs args) in
          let given = args_have h methods locals there levels named (event_params h.known n) (exprs_of args) count (none_wrong (args_demands h (event_params h.known n) (exprs_of args)) d.1.1) in
          (x.0, x.1, subst (Have h methods locals (resolve_all h (exprs_of args))) x.2 given)

  done_is : (at : Span) (t : Tree) (o : Option Kind) → Calls h methods locals t o → Step (st.Do at t)
  done_is at t (Some kind) c = inl (kind, c)
  done_is at t None c = inr c

  pub call_step : (at : Span) (name : List ℕ) (es : ExprTrees) → first_wrong (call_demands h at name es) ≡ None → Step (st.Do at (call_tree at (callee_named h name) (resolve_all h es)))
  call_step at name es d = done_is at (call_tree at (callee_named h name) (resolve_all h es)) (option_and_then (gives h.known) (callee_named h name)) (call_is h methods locals there levels named at name es d)

  pub child_step : (at : Span) (class : List ℕ) (key : ExprTree) (name : List ℕ) (es : ExprTrees) → first_wrong (child_demands h at class key name es) ≡ None → Step (st.Do at (child_tree h at class name (resolve h key) (resolve_all h es)))
  child_step at class key name es d = done_is at (child_tree h at class name (resolve h key) (resolve_all h es)) (child_gives h class name) (child_is h methods locals there levels named at class key name es d)

  -- ---- what is written

  -- what is written is there
  target_is : (at : Span) (target : Target) → first_wrong (target_asks h at target) ≡ None → (x : Variable) × (target_variable h target ≡ Some x) × IsVariable h methods locals (Some x)
  target_is at target d = by target.above (all_hold (target_asks h at target) d)
    where
      by : (above : Option (List ℕ)) → AllHold (own_asks h at above target.name) → (x : Variable) × (own_variable h above target.name ≡ Some x) × IsVariable h methods locals (Some x)
      by None a = let x = some_of (variable h target.name) a.0 in (x.0, x.1, subst (IsVariable h methods locals) x.1 (variable_is h methods locals named target.name))
      by (Some class) a = absurd (absent a.1.0)

  key_is : (at : Span) (o : Option Kind) (key : ExprTree) → first_wrong (key_demands h at o key) ≡ None → (o ≡ Some k.Map) × Has h methods locals (resolve h key) k.Int
  key_is at o key d =
      let a = all_hold (key_demands h at o key) d in
      (kind_is o k.Map a.0, of_this k.Int key (none_wrong (demands_as h k.Int key) a.1))

  set_has : (at : Span) (x : Variable) (value : Tree) → IsVariable h methods locals (Some x) → Has h methods locals value (variable_kind x) → Step (set_step at (Some x) None value)
  set_has at (var.Local slot kind) value is has = (kind, is, has)
  set_has at (var.Field field kind) value is has = (kind, is, has)

  put_has : (at : Span) (x : Variable) (key value : Tree) → IsVariable h methods locals (Some x) → Some (variable_kind x) ≡ Some k.Map → Has h methods locals key k.Int → Has h methods locals value k.Int → Step (set_step at (Some x) (Some key) value)
  put_has at (var.Local slot kind) key value is m a b = (is ∙ m, a, b)
  put_has at (var.Field field kind) key value is m a b = (is ∙ m, a, b)

  cut_has : (at : Span) (x : Variable) (key : Tree) → IsVariable h methods locals (Some x) → Some (variable_kind x) ≡ Some k.Map → Has h methods locals key k.Int → Step (cut_step at (Some x) key)
  cut_has at (var.Local slot kind) key is m a = (is ∙ m, a)
  cut_has at (var.Field field kind) key is m a = (is ∙ m, a)

  pub set_is : (at : Span) (target : Target) (key : Option ExprTree) (value : ExprTree) → first_wrong (set_demands h at target key value) ≡ None → Step (set_step at (target_variable h target) (option_map (resolve h) key) (resolve h value))
  set_is at target None value d =
      let p = first_wrong_parts (target_asks h at target) (demands_as h (kind_or_int (target_kind h target)) value) d in
      let x = target_is at target p.0 in
      let kind = ap (λ o. kind_or_int (option_map variable_kind o)) x.1 in
      subst (λ o. Step (set_step at o None (resolve h value))) (sym x.1)
      (set_has at x.0 (resolve h value) x.2 (subst (Has h methods locals (resolve h value)) kind (of_this (kind_or_int (target_kind h target)) value p.1)))
  set_is at target (Some key) value d =
      let p = first_wrong_parts (target_asks h at target) (key_demands h at (target_kind h target) key ++ demands_as h k.Int value) d in
      let q = first_wrong_parts (key_demands h at (target_kind h target) key) (demands_as h k.Int value) p.1 in
      let x = target_is at target p.0 in
      let y = key_is at (target_kind h target) key q.0 in
      subst (λ o. Step (set_step at o (Some (resolve h key)) (resolve h value))) (sym x.1)
      (put_has at x.0 (resolve h key) (resolve h value) x.2 (ap (option_map variable_kind) (sym x.1) ∙ y.0) y.1 (of_this k.Int value q.1))

  pub cut_is : (at : Span) (target : Target) (key : ExprTree) → first_wrong (target_asks h at target ++ key_demands h at (target_kind h target) key) ≡ None → Step (cut_step at (target_variable h target) (resolve h key))
  cut_is at target key d =
      let p = first_wrong_parts (target_asks h at target) (key_demands h at (target_kind h target) key) d in
      let x = target_is at target p.0 in
      let y = key_is at (target_kind h target) key p.1 in
      subst (λ o. Step (cut_step at o (resolve h key))) (sym x.1) (cut_has at x.0 (resolve h key) x.2 (ap (option_map variable_kind) (sym x.1) ∙ y.0) y.1)

  -- ---- what ends early

  gives_is : (at : Span) (result : Option Kind) (value : Option ExprTree) → first_wrong (end_demands h at result value) ≡ None → Gives h.known.shape methods h.function locals h.class result (option_map (resolve h) value)
  gives_is at None None d = tt
  gives_is at (Some kind) (Some e) d = of_this kind e d
  gives_is at None (Some e) d = absurd (absent (all_hold (ask false (Mismatch at) ∷ []) d).0)
  gives_is at (Some kind) None d = absurd (absent (all_hold (ask false (Mismatch at) ∷ []) d).0)

  pub return_is : (at : Span) (value : Option ExprTree) → first_wrong (return_demands h at h.within value) ≡ None → Step (st.Return at (option_map (resolve h) value))
  return_is at value d = by h.within d
    where
      by : (f : Function) → first_wrong (return_demands h at f value) ≡ None → IsTypedReturn h.known.shape methods h.function locals h.class (within_of f) (option_map (resolve h) value)
      by (OfMethod result) d = gives_is at result value d
      by (OfEvent result) d = absurd (absent (all_hold (ask false (Mismatch at) ∷ []) d).0)

  pub finish_is : (at : Span) (value : Option ExprTree) → first_wrong (finish_demands h at h.within value) ≡ None → Step (st.Finish at (option_map (resolve h) value))
  finish_is at value d = by h.within d
    where
      by : (f : Function) → first_wrong (finish_demands h at f value) ≡ None → IsTypedFinish h.known.shape methods h.function locals h.class (within_of f) (option_map (resolve h) value)
      by (OfEvent result) d = gives_is at result value d
      by (OfMethod result) d = absurd (absent (all_hold (ask false (Mismatch at) ∷ []) d).0)

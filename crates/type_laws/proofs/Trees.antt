-- Expressions of a typed service, with their names resolved, fit.
use Rattle.std.proofs.Common.{◌≡◌, ◌==◌, ◌&&◌, ℕ, suc, ◌<◌, true, false, List, [], ◌∷◌, ◌++◌, length, Option, Some, None, is_some, option_and_then, refl, sym, ap, subst, ◌∙◌, arith}
use Rattle.std.specs.Option.{option_map, option_map_or}
use Rattle.std.proofs.lemmas.Bool.{eqb-true, and_parts}
use Rattle.std.proofs.lemmas.List.Quantifiers.{position-Some}
use Rattle.wave_base.specs.declared.span.Span.{Span}
use Rattle.wave_base.specs.declared.value.Kind.{Kind}
use Rattle.wave_base.specs.declared.value.Kind.TheVariants as k
use Rattle.wave_base.specs.declared.value.Value.TheVariants as v
use Rattle.wave_base.specs.Names.{same_bytes}
use Rattle.mace_ast.specs.declared.expr.BinaryOp.{BinaryOp}
use Rattle.mace_ast.specs.declared.expr.BinaryOp.TheVariants as op
use Rattle.mace_ast.specs.Exprs as e
use Rattle.mace_ast.specs.Exprs.{ExprTree, ExprTrees, no_exprs, expr_and, exprs_of}
use Rattle.value_ops.specs.Rows.{first_builtin}
use Rattle.resolved_service.specs.declared.service.Method.{Method}
use Rattle.resolved_service.specs.Fits.{count_of, IsMethod, IsField, FitsTree, FitsTrees}
use Rattle.resolved_service.specs.View as r
use Rattle.resolved_service.specs.View.{Tree, Trees, no_trees, tree}
use Rattle.type_rules.specs.declared.error.TypeError.TheVariants.{UnknownName, ArgCount, NotDownward, CalleeLater}
use Rattle.type_rules.specs.declared.known.Known.{Known}
use Rattle.type_rules.specs.declared.meant.Local.{Local}
use Rattle.type_rules.specs.declared.meant.Variable.{Variable}
use Rattle.type_rules.specs.declared.meant.Variable.TheVariants as var
use Rattle.type_rules.specs.declared.meant.Callee.{Callee}
use Rattle.type_rules.specs.declared.meant.Callee.TheVariants as callee
use Rattle.type_rules.specs.Demands.{Demand, ask, first_wrong}
use Rattle.type_rules.specs.Known.{class_named, field_named, field_kind, method_named, signature_at, no_signature}
use Rattle.type_rules.specs.Here.{Here, local_named, of_local, or_else, variable, callee_named, takes, is_earlier, is_child, rows_of}
use Rattle.type_rules.specs.Exprs.{kind_of, resolve, resolve_all, or_zero, read_tree, binary_tree, call_tree, child_tree, count, above_asks, class_asks, method_asks, child_takes, kind_asks, of_kind, demands, args_demands, demands_as, call_demands, child_demands}
use Rattle.type_rules.proofs.First.{first_wrong_parts}
use Rattle.type_laws.proofs.Sound.{AllHold, all_hold, none_wrong}

pub absent : false ≡ true → ⊥
absent e = cc

-- each method that is declared is there
abbrev pub There : Known → List Method → Type 0
There known methods = (m : ℕ) → m < length known.methods → IsMethod methods (signature_at known m).class m (length (signature_at known m).params)

count_resolved : (h : Here) (es : ExprTrees) → count_of (resolve_all h es) ≡ count es
count_resolved h no_exprs = refl
count_resolved h (expr_and a es) = ap suc (count_resolved h es)

pub count_exprs : (es : List ExprTree) → count (exprs_of es) ≡ length es
count_exprs [] = refl
count_exprs (a ∷ es) = ap suc (count_exprs es)

module _ (h : Here) (methods : List Method) where
  abbrev Fits : Tree → Type 0
  Fits t = FitsTree h.known.shape methods h.class t

  abbrev FitAll : Trees → Type 0
  FitAll ts = FitsTrees h.known.shape methods h.class ts

  -- a field is there
  abbrev pub FitsVariable : Option Variable → Type 0
  FitsVariable (Some (var.Field field kind)) = IsField h.known.shape h.class field
  FitsVariable (Some (var.Local slot kind)) = Unit {0}
  FitsVariable None = Unit {0}

  pub variable_fits : (name : List ℕ) → FitsVariable (variable h name)
  variable_fits name = by (local_named h name) (field_named h.known h.class name) (λ f is. (position-Some _ _ f (record { name = []; kind = k.Int; initial = v.Bool false }) is).0)
    where
      by : (l : Option Local) (f : Option ℕ) → ((i : ℕ) → f ≡ Some i → IsField h.known.shape h.class i) → FitsVariable (or_else (option_map of_local l) (option_map (λ f. var.Field f (field_kind h.known h.class f)) f))
      by (Some l) f there = tt
      by None (Some f) there = there f refl
      by None None there = tt

  pub read_fits : (at : Span) (o : Option Variable) → FitsVariable o → Fits (read_tree at o)
  read_fits at (Some (var.Field field kind)) is = is
  read_fits at (Some (var.Local slot kind)) is = tt
  read_fits at None is = tt

  binary_fits : (at : Span) (sign : BinaryOp) (ka kb : Option Kind) (a b : Tree) → Fits a → Fits b → Fits (binary_tree at sign ka kb a b)
  binary_fits at op.Or ka kb a b fa fb = (fa, fb)
  binary_fits at op.And ka kb a b fa fb = (fa, fb)
  binary_fits at op.Eq ka kb a b fa fb = (fa, (fb, tt))
  binary_fits at op.Ne ka kb a b fa fb = (fa, (fb, tt))
  binary_fits at op.Lt ka kb a b fa fb = (fa, (fb, tt))
  binary_fits at op.Le ka kb a b fa fb = (fa, (fb, tt))
  binary_fits at op.Gt ka kb a b fa fb = (fa, (fb, tt))
  binary_fits at op.Ge ka kb a b fa fb = (fa, (fb, tt))
  binary_fits at op.Add ka kb a b fa fb = (fa, (fb, tt))
  binary_fits at op.Sub ka kb a b fa fb = (fa, (fb, tt))
  binary_fits at op.Mul ka kb a b fa fb = (fa, (fb, tt))
  binary_fits at op.Div ka kb a b fa fb = (fa, (fb, tt))
  binary_fits at op.Rem ka kb a b fa fb = (fa, (fb, tt))

  module _ (there : There h.known methods) where
    method_there : (class m : ℕ) (name : List ℕ) → method_named h.known class name ≡ Some m → IsMethod methods class m (length (signature_at h.known m).params)
    method_there class m name is =
        let p = position-Some (λ s. s.class == class && same_bytes s.name name) h.known.methods m no_signature is in
        let own = eqb-true _ _ (and_parts _ _ p.1).0 in
        subst (λ c. IsMethod methods c m (length (signature_at h.known m).params)) own (there m p.0)

    -- arguments that are as many as the kinds fit
    abbrev ArgsFit : ExprTrees → Type 0
    ArgsFit es = (kinds : List Kind) → length kinds ≡ count es → first_wrong (args_demands h kinds es) ≡ None → FitAll (resolve_all h es)

    -- what is asked of a call, by what is called
    abbrev Asked : Span → ExprTrees → Option Callee → List Demand
    Asked at es o = ask (is_some o) (UnknownName at) ∷ ask (option_map_or (is_earlier h) o false) (CalleeLater at) ∷ ask (length (option_map_or (takes h.known) o []) == count es) (ArgCount at) ∷ args_demands h (option_map_or (takes h.known) o []) es

    abbrev Callable : Option ℕ → Option ℕ → Option Callee
    Callable b m = or_else (option_map callee.Builtin b) (option_map callee.Method m)

    pub call_fits : (at : Span) (name : List ℕ) (es : ExprTrees) → ArgsFit es → first_wrong (call_demands h at name es) ≡ None → Fits (call_tree at (callee_named h name) (resolve_all h es))
    call_fits at name es args d = by (first_builtin (rows_of h.known) name) (method_named h.known h.class name) refl (all_hold (Asked at es (callee_named h name)) d)
      where
        by : (b m : Option ℕ) → method_named h.known h.class name ≡ m → AllHold (Asked at es (Callable b m)) → Fits (call_tree at (Callable b m) (resolve_all h es))
        by (Some row) m is d = args (takes h.known (callee.Builtin row)) (eqb-true _ _ d.1.1.0) (none_wrong (args_demands h (takes h.known (callee.Builtin row)) es) d.1.1.1)
        by None (Some m) is d =
            let count : length (signature_at h.known m).params ≡ count_of (resolve_all h es) = eqb-true _ _ d.1.1.0 ∙ sym (count_resolved h es) in
            (subst (λ n. IsMethod methods h.class m n) count (method_there h.class m name is), args (takes h.known (callee.Method m)) (eqb-true _ _ d.1.1.0) (none_wrong (args_demands h (takes h.known (callee.Method m)) es) d.1.1.1))
        by None None is d = absurd (absent d.0)

    -- what is asked of a child's method, by which it is
    abbrev AskedChild : Span → ExprTrees → Option ℕ → List Demand
    AskedChild at es m =
        ask (is_some m) (UnknownName at) ∷ ask (length (option_map_or (λ m. (signature_at h.known m).params) m []) == count es) (ArgCount at) ∷ args_demands h (option_map_or (λ m. (signature_at h.known m).params) m []) es

    abbrev AskedClass : Span → Option ℕ → List Demand
    AskedClass at o = ask (is_some o) (UnknownName at) ∷ ask (option_map_or (is_child h) o false) (NotDownward at) ∷ []

    inside : (at : Span) (es : ExprTrees) (name : List ℕ) (n : ℕ) (m : Option ℕ) → ArgsFit es → method_named h.known n name ≡ m → AllHold (AskedChild at es m)
        → IsMethod methods n (or_zero m) (count_of (resolve_all h es)) × FitAll (resolve_all h es)
    inside at es name n (Some m) args is d =
        let count : length (signature_at h.known m).params ≡ count_of (resolve_all h es) = eqb-true _ _ d.1.0 ∙ sym (count_resolved h es) in
        (subst (λ i. IsMethod methods n m i) count (method_there n m name is), args (signature_at h.known m).params (eqb-true _ _ d.1.0) (none_wrong (args_demands h (signature_at h.known m).params es) d.1.1))
    inside at es name n None args is d = absurd (absent d.0)

    pub child_fits : (at : Span) (class : List ℕ) (key : ExprTree) (name : List ℕ) (es : ExprTrees) → (first_wrong (demands h key) ≡ None → Fits (resolve h key)) → ArgsFit es
        → first_wrong (child_demands h at class key name es) ≡ None → Fits (child_tree h at class name (resolve h key) (resolve_all h es))
    child_fits at class key name es key_fits args d =
        let a = first_wrong_parts (class_asks h at class) (demands_as h k.Int key ++ (method_asks h at class name (count es) ++ args_demands h (child_takes h class name) es)) d in
        let b = first_wrong_parts (demands_as h k.Int key) (method_asks h at class name (count es) ++ args_demands h (child_takes h class name) es) a.1 in
        let c = first_wrong_parts (demands h key) (of_kind h k.Int key) b.0 in
        by (class_named h.known class) (key_fits c.0) (all_hold (class_asks h at class) a.0) (all_hold (method_asks h at class name (count es) ++ args_demands h (child_takes h class name) es) b.1)
      where
        by : (o : Option ℕ) → Fits (resolve h key) → AllHold (AskedClass at o) → AllHold (AskedChild at es (option_and_then (λ c. method_named h.known c name) o))
            → Fits (r.Child at (or_zero o) (or_zero (option_and_then (λ c. method_named h.known c name) o)) (resolve h key) (resolve_all h es))
        by (Some n) key_is c d = let i = inside at es name n (method_named h.known n name) args refl d in (c.1.0, i.0, key_is, i.1)
        by None key_is c d = absurd (absent c.0)

    mutual
      pub expr_fits : (a : ExprTree) → first_wrong (demands h a) ≡ None → Fits (resolve h a)
      expr_fits (e.Number at n) d = tt
      expr_fits (e.Text at bytes) d = tt
      expr_fits (e.Boolean at b) d = tt
      expr_fits (e.Empty at) d = tt
      expr_fits (e.Read at name) d = read_fits at (variable h name) (variable_fits name)
      expr_fits (e.Above at class name) d = tt
      expr_fits (e.Index at name key) d =
          let a = all_hold (demands h (e.Index at name key)) d in
          let b = first_wrong_parts (demands h key) (kind_asks h (e.Index at name key)) (none_wrong (demands h key ++ kind_asks h (e.Index at name key)) a.1) in
          (read_fits at (variable h name) (variable_fits name), (expr_fits key b.0, tt))
      expr_fits (e.AboveIndex at class name key) d =
          let a = first_wrong_parts (above_asks h at class name) (demands h key ++ kind_asks h (e.AboveIndex at class name key)) d in
          let b = first_wrong_parts (demands h key) (kind_asks h (e.AboveIndex at class name key)) a.1 in
          (tt, (expr_fits key b.0, tt))
      expr_fits (e.Call at name args) d =
          let a = first_wrong_parts (call_demands h at name args) (kind_asks h (e.Call at name args)) d in
          call_fits at name args (λ kinds l d. args_fit kinds args l d) a.0
      expr_fits (e.ChildCall at class key name args) d =
          let a = first_wrong_parts (child_demands h at class key name args) (kind_asks h (e.ChildCall at class key name args)) d in
          child_fits at class key name args (λ d. expr_fits key d) (λ kinds l d. args_fit kinds args l d) a.0
      expr_fits (e.Unary at sign operand) d = (expr_fits operand (first_wrong_parts (demands h operand) (kind_asks h (e.Unary at sign operand)) d).0, tt)
      expr_fits (e.Binary at sign left right) d =
          let a = first_wrong_parts (demands h left) (demands h right ++ kind_asks h (e.Binary at sign left right)) d in
          let b = first_wrong_parts (demands h right) (kind_asks h (e.Binary at sign left right)) a.1 in
          binary_fits at sign (kind_of h left) (kind_of h right) (resolve h left) (resolve h right) (expr_fits left a.0) (expr_fits right b.0)

      pub args_fit : (kinds : List Kind) (es : ExprTrees) → length kinds ≡ count es → first_wrong (args_demands h kinds es) ≡ None → FitAll (resolve_all h es)
      args_fit kinds no_exprs l d = tt
      args_fit [] (expr_and a es) l d = absurd (omega arith)
      args_fit (kind ∷ kinds) (expr_and a es) l d =
          let p = first_wrong_parts (demands_as h kind a) (args_demands h kinds es) d in
          let q = first_wrong_parts (demands h a) (of_kind h kind a) p.0 in
          (expr_fits a q.0, args_fit kinds es (omega arith) p.1)

-- Statements of a typed service, with their names resolved, fit.
use Rattle.std.proofs.Common.{◌≡◌, ℕ, Bool, false, List, [], ◌∷◌, ◌++◌, length, Option, Some, None, sym, subst, ◌∙◌}
use Rattle.std.specs.Option.{option_map}
use Rattle.std.proofs.lemmas.Bool.{eqb-true}
use Rattle.wave_base.specs.declared.span.Span.{Span}
use Rattle.wave_base.specs.declared.value.Kind.{Kind}
use Rattle.wave_base.specs.declared.value.Kind.TheVariants as k
use Rattle.mace_ast.specs.declared.stmt.Target.{Target}
use Rattle.mace_ast.specs.Exprs.{ExprTree, ExprTrees, exprs_of}
use Rattle.mace_ast.specs.Stmts as s
use Rattle.mace_ast.specs.Stmts.{StmtTree, StmtTrees, ElseTree, no_stmts, stmt_and, no_else, otherwise}
use Rattle.resolved_service.specs.declared.service.Method.{Method}
use Rattle.resolved_service.specs.Fits.{IsField, FitsTree, FitsTrees, FitsMaybe, FitsStep, FitsSteps, FitsElse}
use Rattle.resolved_service.specs.Steps.{is_end}
use Rattle.resolved_service.specs.View.{Tree, Trees}
use Rattle.type_rules.specs.declared.known.Known.{Known}
use Rattle.type_rules.specs.declared.meant.Variable.{Variable}
use Rattle.type_rules.specs.declared.meant.Variable.TheVariants as var
use Rattle.type_rules.specs.declared.error.TypeError.TheVariants.{Mismatch}
use Rattle.type_rules.specs.Kinds.{has_kind}
use Rattle.type_rules.specs.Demands.{ask, first_wrong}
use Rattle.type_rules.specs.Here.{Here, Function, OfMethod, OfEvent, with_counter, behind, variable, callee_named}
use Rattle.type_rules.specs.Exprs.{kind_of, resolve, resolve_all, call_tree, child_tree, count, of_kind, demands, demands_as, args_demands, call_demands, child_demands}
use Rattle.type_rules.specs.Stmts.{kind_or_int, after, after_all, after_else, own_variable, target_variable, target_kind, target_asks, key_demands, set_demands, spawn_takes, spawn_demands, set_step, cut_step, resolve_stmt, resolve_stmts, resolve_else, local_asks, end_demands, return_demands, finish_demands, start_of, reach_asks, stmt_demands, stmts_demands, behind_demands, else_demands}
use Rattle.type_rules.proofs.First.{first_wrong_parts}
use Rattle.type_laws.proofs.Sound.{all_hold, none_wrong}
use Rattle.type_laws.proofs.Trees.{There, absent, count_exprs, FitsVariable, variable_fits, call_fits, child_fits, expr_fits, args_fit}

-- a place in a class, where this is declared
pub record At (known : Known) (class : ℕ) (h : Here) : Type 0 where
  pub same_known : h.known ≡ known
  pub same_class : h.class ≡ class

module _ (known : Known) (class : ℕ) where
  -- statements stay in their class
  mutual
    pub after_at : (h : Here) → At known class h → (a : StmtTree) → At known class (after h a)
    after_at h at (s.Let place name value) = record { same_known = at.same_known; same_class = at.same_class }
    after_at h at (s.If place test body other) =
        let b = after_all_at h at body in
        after_else_at (behind h (after_all h body)) (record { same_known = b.same_known; same_class = b.same_class }) other
    after_at h at (s.While place test body) = let b = after_all_at h at body in record { same_known = b.same_known; same_class = b.same_class }
    after_at h at (s.For place name low high body) =
        let b = after_all_at (with_counter h name.text) (record { same_known = at.same_known; same_class = at.same_class }) body in
        record { same_known = b.same_known; same_class = b.same_class }
    after_at h at (s.Require place test) = at
    after_at h at (s.Send place label value) = at
    after_at h at (s.Spawn place event args) = at
    after_at h at (s.Cut place target key) = at
    after_at h at (s.Set place target key value) = at
    after_at h at (s.Call place name args) = at
    after_at h at (s.ChildCall place child key name args) = at
    after_at h at (s.Return place value) = at
    after_at h at (s.Finish place value) = at

    pub after_all_at : (h : Here) → At known class h → (ss : StmtTrees) → At known class (after_all h ss)
    after_all_at h at no_stmts = at
    after_all_at h at (stmt_and a ss) = after_all_at (after h a) (after_at h at a) ss

    pub after_else_at : (h : Here) → At known class h → (other : ElseTree) → At known class (after_else h other)
    after_else_at h at no_else = at
    after_else_at h at (otherwise ss) = let b = after_all_at h at ss in record { same_known = b.same_known; same_class = b.same_class }

  module _ (methods : List Method) (there : There known methods) where
    abbrev Fits : Tree → Type 0
    Fits t = FitsTree known.shape methods class t

    module _ (h : Here) (at : At known class h) where
      there_at : There h.known methods
      there_at = subst (λ k. There k methods) (sym at.same_known) there

      moved : (t : Tree) → FitsTree h.known.shape methods h.class t → Fits t
      moved t f = subst (λ c. FitsTree known.shape methods c t) at.same_class (subst (λ k. FitsTree k.shape methods h.class t) at.same_known f)

      moved_all : (ts : Trees) → FitsTrees h.known.shape methods h.class ts → FitsTrees known.shape methods class ts
      moved_all ts f = subst (λ c. FitsTrees known.shape methods c ts) at.same_class (subst (λ k. FitsTrees k.shape methods h.class ts) at.same_known f)

      pub tree_at : (a : ExprTree) → first_wrong (demands h a) ≡ None → Fits (resolve h a)
      tree_at a d = moved (resolve h a) (expr_fits h methods there_at a d)

      pub tree_as : (kind : Kind) (a : ExprTree) → first_wrong (demands_as h kind a) ≡ None → Fits (resolve h a)
      tree_as kind a d = tree_at a (first_wrong_parts (demands h a) (of_kind h kind a) d).0

      trees_at : (kinds : List Kind) (es : ExprTrees) → length kinds ≡ count es → first_wrong (args_demands h kinds es) ≡ None → FitsTrees known.shape methods class (resolve_all h es)
      trees_at kinds es l d = moved_all (resolve_all h es) (args_fit h methods there_at kinds es l d)

      call_at : (place : Span) (name : List ℕ) (es : ExprTrees) → first_wrong (call_demands h place name es) ≡ None → Fits (call_tree place (callee_named h name) (resolve_all h es))
      call_at place name es d = moved (call_tree place (callee_named h name) (resolve_all h es)) (call_fits h methods there_at place name es (λ kinds l d. args_fit h methods there_at kinds es l d) d)

      child_at : (place : Span) (child : List ℕ) (key : ExprTree) (name : List ℕ) (es : ExprTrees) → first_wrong (child_demands h place child key name es) ≡ None
          → Fits (child_tree h place child name (resolve h key) (resolve_all h es))
      child_at place child key name es d = moved (child_tree h place child name (resolve h key) (resolve_all h es)) (child_fits h methods there_at place child key name es (λ d. expr_fits h methods there_at key d) (λ kinds l d. args_fit h methods there_at kinds es l d) d)

      -- a field that is written is there
      abbrev Own : Option Variable → Type 0
      Own (Some (var.Field field kind)) = IsField known.shape class field
      Own (Some (var.Local slot kind)) = Unit {0}
      Own None = Unit {0}

      own_moved : (o : Option Variable) → FitsVariable h methods o → Own o
      own_moved (Some (var.Field field kind)) f = subst (λ c. IsField known.shape c field) at.same_class (subst (λ k. IsField k.shape h.class field) at.same_known f)
      own_moved (Some (var.Local slot kind)) f = tt
      own_moved None f = tt

      own_of : (above : Option (List ℕ)) (name : List ℕ) → Own (own_variable h above name)
      own_of None name = own_moved (variable h name) (variable_fits h methods name)
      own_of (Some c) name = tt

      target_own : (target : Target) → Own (target_variable h target)
      target_own target = own_of target.above target.name

      -- what is put into what is written
      abbrev KeyFits : Option Tree → Type 0
      KeyFits None = Unit {0}
      KeyFits (Some t) = Fits t

      set_fits : (place : Span) (o : Option Variable) (key : Option Tree) (value : Tree) → Own o → KeyFits key → Fits value → FitsStep known.shape methods class (set_step place o key value)
      set_fits place (Some (var.Local slot kind)) None value own key_fits value_fits = value_fits
      set_fits place (Some (var.Local slot kind)) (Some key) value own key_fits value_fits = (key_fits, value_fits)
      set_fits place (Some (var.Field field kind)) None value own key_fits value_fits = (own, value_fits)
      set_fits place (Some (var.Field field kind)) (Some key) value own key_fits value_fits = (own, key_fits, value_fits)
      set_fits place None None value own key_fits value_fits = value_fits
      set_fits place None (Some key) value own key_fits value_fits = value_fits

      cut_fits : (place : Span) (o : Option Variable) (key : Tree) → Own o → Fits key → FitsStep known.shape methods class (cut_step place o key)
      cut_fits place (Some (var.Local slot kind)) key own key_fits = key_fits
      cut_fits place (Some (var.Field field kind)) key own key_fits = (own, key_fits)
      cut_fits place None key own key_fits = key_fits

      key_at : (place : Span) (kind : Option Kind) (key : ExprTree) → first_wrong (key_demands h place kind key) ≡ None → Fits (resolve h key)
      key_at place kind key d = tree_as k.Int key (none_wrong (demands_as h k.Int key) (all_hold (key_demands h place kind key) d).1)

      write_fits : (place : Span) (target : Target) (key : Option ExprTree) (value : ExprTree) → first_wrong (set_demands h place target key value) ≡ None
          → FitsStep known.shape methods class (set_step place (target_variable h target) (option_map (resolve h) key) (resolve h value))
      write_fits place target None value d =
          let a = first_wrong_parts (target_asks h place target) (demands_as h (kind_or_int (target_kind h target)) value) d in
          set_fits place (target_variable h target) None (resolve h value) (target_own target) tt (tree_as (kind_or_int (target_kind h target)) value a.1)
      write_fits place target (Some key) value d =
          let a = first_wrong_parts (target_asks h place target) (key_demands h place (target_kind h target) key ++ demands_as h k.Int value) d in
          let b = first_wrong_parts (key_demands h place (target_kind h target) key) (demands_as h k.Int value) a.1 in
          set_fits place (target_variable h target) (Some (resolve h key)) (resolve h value) (target_own target) (key_at place (target_kind h target) key b.0) (tree_as k.Int value b.1)

    -- what a `return` or a `finish` gives, if anything
    maybe_fits : (h : Here) → At known class h → (place : Span) (gives : Option Kind) (value : Option ExprTree) → first_wrong (end_demands h place gives value) ≡ None
        → FitsMaybe known.shape methods class (option_map (resolve h) value)
    maybe_fits h at place gives None d = tt
    maybe_fits h at place None (Some e) d = absurd (absent (all_hold (ask false (Mismatch place) ∷ []) d).0)
    maybe_fits h at place (Some kind) (Some e) d = tree_as h at kind e d

    return_fits : (h : Here) → At known class h → (place : Span) (within : Function) (value : Option ExprTree) → first_wrong (return_demands h place within value) ≡ None
        → FitsMaybe known.shape methods class (option_map (resolve h) value)
    return_fits h at place (OfMethod gives) value d = maybe_fits h at place gives value d
    return_fits h at place (OfEvent gives) value d = absurd (absent (all_hold (ask false (Mismatch place) ∷ []) d).0)

    finish_fits : (h : Here) → At known class h → (place : Span) (within : Function) (value : Option ExprTree) → first_wrong (finish_demands h place within value) ≡ None
        → FitsMaybe known.shape methods class (option_map (resolve h) value)
    finish_fits h at place (OfEvent gives) value d = maybe_fits h at place gives value d
    finish_fits h at place (OfMethod gives) value d = absurd (absent (all_hold (ask false (Mismatch place) ∷ []) d).0)

    mutual
      pub stmt_fits : (h : Here) → At known class h → (a : StmtTree) → first_wrong (stmt_demands h a) ≡ None → FitsStep known.shape methods class (resolve_stmt h a)
      stmt_fits h at (s.Let place name value) d = tree_at h at value (first_wrong_parts (demands h value) (local_asks h name 1) d).0
      stmt_fits h at (s.If place test body other) d =
          let a = first_wrong_parts (demands_as h k.Bool test) (stmts_demands h body ++ else_demands (behind h (after_all h body)) other) d in
          let b = first_wrong_parts (stmts_demands h body) (else_demands (behind h (after_all h body)) other) a.1 in
          let c = after_all_at h at body in
          (tree_as h at k.Bool test a.0, stmts_fit h at body b.0, else_fits (behind h (after_all h body)) (record { same_known = c.same_known; same_class = c.same_class }) other b.1)
      stmt_fits h at (s.While place test body) d =
          let a = first_wrong_parts (demands_as h k.Bool test) (stmts_demands h body) d in
          (tree_as h at k.Bool test a.0, stmts_fit h at body a.1)
      stmt_fits h at (s.For place name low high body) d =
          let a = first_wrong_parts (demands_as h k.Int low) (demands_as h k.Int high ++ (local_asks h name 3 ++ stmts_demands (with_counter h name.text) body)) d in
          let b = first_wrong_parts (demands_as h k.Int high) (local_asks h name 3 ++ stmts_demands (with_counter h name.text) body) a.1 in
          let c = first_wrong_parts (local_asks h name 3) (stmts_demands (with_counter h name.text) body) b.1 in
          (tree_as h at k.Int low a.0, tree_as h at k.Int high b.0, stmts_fit (with_counter h name.text) (record { same_known = at.same_known; same_class = at.same_class }) body c.1)
      stmt_fits h at (s.Require place test) d = tree_at h at test (first_wrong_parts (demands h test) (ask (has_kind (kind_of h test) k.Bool) (Mismatch place) ∷ []) d).0
      stmt_fits h at (s.Send place label value) d = tree_at h at value d
      stmt_fits h at (s.Spawn place event args) d =
          let a = all_hold (spawn_demands h place event args) d in
          trees_at h at (spawn_takes h event) (exprs_of args) (eqb-true _ _ a.1.0 ∙ sym (count_exprs args)) (none_wrong (args_demands h (spawn_takes h event) (exprs_of args)) a.1.1)
      stmt_fits h at (s.Cut place target key) d =
          let a = first_wrong_parts (target_asks h place target) (key_demands h place (target_kind h target) key) d in
          cut_fits h at place (target_variable h target) (resolve h key) (target_own h at target) (key_at h at place (target_kind h target) key a.1)
      stmt_fits h at (s.Set place target key value) d = write_fits h at place target key value d
      stmt_fits h at (s.Call place name args) d = call_at h at place name (exprs_of args) d
      stmt_fits h at (s.ChildCall place child key name args) d = child_at h at place child key name (exprs_of args) d
      stmt_fits h at (s.Return place value) d = return_fits h at place h.within value d
      stmt_fits h at (s.Finish place value) d = finish_fits h at place h.within value d

      pub stmts_fit : (h : Here) → At known class h → (ss : StmtTrees) → first_wrong (stmts_demands h ss) ≡ None → FitsSteps known.shape methods class (resolve_stmts h ss)
      stmts_fit h at no_stmts d = tt
      stmts_fit h at (stmt_and a ss) d =
          let p = first_wrong_parts (stmt_demands h a) (behind_demands (after h a) (is_end (resolve_stmt h a)) ss) d in
          (stmt_fits h at a p.0, behind_fit (after h a) (after_at h at a) (is_end (resolve_stmt h a)) ss p.1)

      behind_fit : (h : Here) → At known class h → (ended : Bool) (ss : StmtTrees) → first_wrong (behind_demands h ended ss) ≡ None → FitsSteps known.shape methods class (resolve_stmts h ss)
      behind_fit h at ended no_stmts d = tt
      behind_fit h at ended (stmt_and a ss) d =
          let q = first_wrong_parts (reach_asks ended (start_of a)) (stmt_demands h a ++ behind_demands (after h a) (is_end (resolve_stmt h a)) ss) d in
          let p = first_wrong_parts (stmt_demands h a) (behind_demands (after h a) (is_end (resolve_stmt h a)) ss) q.1 in
          (stmt_fits h at a p.0, behind_fit (after h a) (after_at h at a) (is_end (resolve_stmt h a)) ss p.1)

      pub else_fits : (h : Here) → At known class h → (other : ElseTree) → first_wrong (else_demands h other) ≡ None → FitsElse known.shape methods class (resolve_else h other)
      else_fits h at no_else d = tt
      else_fits h at (otherwise ss) d = stmts_fit h at ss d

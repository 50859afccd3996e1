-- Statements of a typed service, with their names resolved, are typed.
use Rattle.std.proofs.Common.{◌≡◌, ℕ, Bool, true, false, List, [], ◌∷◌, ◌++◌, Some, None, refl, sym, ap, subst, ◌∙◌}
use Rattle.wave_base.specs.declared.shape.Shape.{Shape}
use Rattle.wave_base.specs.declared.value.Kind.{Kind}
use Rattle.wave_base.specs.declared.value.Kind.TheVariants as k
use Rattle.mace_ast.specs.Exprs.{ExprTree, exprs_of}
use Rattle.mace_ast.specs.Stmts as s
use Rattle.mace_ast.specs.Stmts.{StmtTree, StmtTrees, ElseTree, no_stmts, stmt_and, no_else, otherwise}
use Rattle.resolved_service.specs.declared.service.Method.{Method}
use Rattle.resolved_service.specs.Steps as st
use Rattle.resolved_service.specs.Steps.{is_end}
use Rattle.code_scheme.specs.Typed.{HasKind, NoneBehind, IsTypedStep, AreTyped, IsTypedElse}
use Rattle.type_rules.specs.declared.known.Known.{Known}
use Rattle.type_rules.specs.Demands.{first_wrong}
use Rattle.type_rules.specs.Here.{Here, Function, with_counter, behind}
use Rattle.type_rules.specs.Exprs.{kind_of, resolve, demands, demands_as}
use Rattle.type_rules.specs.Stmts.{kind_or_int, after, after_all, after_else, resolve_stmt, resolve_stmts, resolve_else, local_asks, start_of, reach_asks, stmt_demands, stmts_demands, behind_demands, else_demands}
use Rattle.type_rules.proofs.First.{first_wrong_parts}
use Rattle.typed_code.proofs.Exprs.{Declared, Named}
use Rattle.typed_code.proofs.Levels.{LevelsAre}
use Rattle.typed_code.proofs.Simple.{within_of, of_this, any, require_is, send_is, spawn_is, call_step, child_step, set_is, cut_is, return_is, finish_is}
use Rattle.typed_code.proofs.Slots.{Grows, grows_then, at_place, three_places, after_all_grows, after_else_grows, after_named, declared_named}

-- a place in a class and in a function, where this is declared
pub record At (known : Known) (class function : ℕ) (within : Function) (h : Here) : Type 0 where
  pub same_known : h.known ≡ known
  pub same_class : h.class ≡ class
  pub same_function : h.function ≡ function
  pub same_within : h.within ≡ within

module _ (known : Known) (class function : ℕ) (within : Function) where
  -- the same place, with other locals and slots
  pub placed : (h g : Here) → At known class function within h → g.known ≡ h.known → g.class ≡ h.class → g.function ≡ h.function → g.within ≡ h.within → At known class function within g
  placed h g at a b c d = record { same_known = a ∙ at.same_known; same_class = b ∙ at.same_class; same_function = c ∙ at.same_function; same_within = d ∙ at.same_within }

  mutual
    pub after_at : (h : Here) → At known class function within h → (a : StmtTree) → At known class function within (after h a)
    after_at h at (s.Let place name value) = placed h (after h (s.Let place name value)) at refl refl refl refl
    after_at h at (s.If place test body other) =
        let b = after_all_at h at body in
        after_else_at (behind h (after_all h body)) (placed (after_all h body) (behind h (after_all h body)) b refl refl refl refl) other
    after_at h at (s.While place test body) = placed (after_all h body) (behind h (after_all h body)) (after_all_at h at body) refl refl refl refl
    after_at h at (s.For place name low high body) =
        let start = with_counter h name.text in
        placed (after_all start body) (behind h (after_all start body)) (after_all_at start (placed h start at refl refl refl refl) body) refl refl refl refl
    after_at h at (s.Require place test) = at
    after_at h at (s.Send place label value) = at
    after_at h at (s.Spawn place event args) = at
    after_at h at (s.Cut place target key) = at
    after_at h at (s.Set place target key value) = at
    after_at h at (s.Call place name args) = at
    after_at h at (s.ChildCall place child key name args) = at
    after_at h at (s.Return place value) = at
    after_at h at (s.Finish place value) = at

    pub after_all_at : (h : Here) → At known class function within h → (ss : StmtTrees) → At known class function within (after_all h ss)
    after_all_at h at no_stmts = at
    after_all_at h at (stmt_and a ss) = after_all_at (after h a) (after_at h at a) ss

    pub after_else_at : (h : Here) → At known class function within h → (other : ElseTree) → At known class function within (after_else h other)
    after_else_at h at no_else = at
    after_else_at h at (otherwise ss) = placed (after_all h ss) (behind h (after_all h ss)) (after_all_at h at ss) refl refl refl refl

  module _ (methods : List Method) (locals : List Kind) (there : Declared known methods) (levels : LevelsAre known) where
    abbrev Has : ExprTree → Here → Kind → Type 0
    Has a h kind = HasKind known.shape methods function locals class (resolve h a) kind

    abbrev Step : st.Step → Type 0
    Step t = IsTypedStep known.shape methods function locals class (within_of within) t

    module _ (h : Here) (at : At known class function within h) (named : Named locals h.locals) where
      there_at : Declared h.known methods
      there_at = subst (λ x. Declared x methods) (sym at.same_known) there

      levels_at : LevelsAre h.known
      levels_at = subst LevelsAre (sym at.same_known) levels

      moved : (P : Shape → ℕ → ℕ → Function → Type 0) → P h.known.shape h.function h.class h.within → P known.shape function class within
      moved P p =
          subst (λ c. P known.shape function c within) at.same_class (subst (λ f. P known.shape f h.class within) at.same_function
          (subst (λ w. P known.shape h.function h.class w) at.same_within (subst (λ (x : Known). P x.shape h.function h.class h.within) at.same_known p)))

      step_moved : (t : st.Step) → IsTypedStep h.known.shape methods h.function locals h.class (within_of h.within) t → Step t
      step_moved t p = moved (λ x f c w. IsTypedStep x methods f locals c (within_of w) t) p

      pub tree_as : (kind : Kind) (a : ExprTree) → first_wrong (demands_as h kind a) ≡ None → Has a h kind
      tree_as kind a d = moved (λ x f c w. HasKind x methods f locals c (resolve h a) kind) (of_this h methods locals there_at levels_at named kind a d)

      tree_any : (a : ExprTree) → first_wrong (demands h a) ≡ None → (kind : Kind) × (kind_of h a ≡ Some kind) × Has a h kind
      tree_any a d = let x = any h methods locals there_at levels_at named a d in (x.0, x.1, moved (λ y f c w. HasKind y methods f locals c (resolve h a) x.0) x.2)

    -- behind a statement that surely ends there is none
    none_behind : (h : Here) (ended : Bool) (ss : StmtTrees) → first_wrong (behind_demands h ended ss) ≡ None → NoneBehind ended (resolve_stmts h ss)
    none_behind h true no_stmts d = tt
    none_behind h true (stmt_and a ss) d = cc
    none_behind h false ss d = tt

    -- what is asked of statements at the front
    front : (h : Here) (ss : StmtTrees) → first_wrong (stmts_demands h ss) ≡ None → first_wrong (behind_demands h false ss) ≡ None
    front h no_stmts d = d
    front h (stmt_and a ss) d = d

    mutual
      pub stmt_is : (h : Here) → At known class function within h → Named locals h.locals → (a : StmtTree) → Grows (after h a).slots locals → first_wrong (stmt_demands h a) ≡ None → Step (resolve_stmt h a)
      stmt_is h at named (s.Let place name value) g d =
          let x = tree_any h at named value (first_wrong_parts (demands h value) (local_asks h name 1) d).0 in
          (x.0, at_place h.slots (kind_or_int (kind_of h value)) locals g ∙ ap (λ o. Some (kind_or_int o)) x.1, x.2)
      stmt_is h at named (s.If place test body other) g d =
          let b = behind h (after_all h body) in
          let p = first_wrong_parts (demands_as h k.Bool test) (stmts_demands h body ++ else_demands b other) d in
          let q = first_wrong_parts (stmts_demands h body) (else_demands b other) p.1 in (
            tree_as h at named k.Bool test p.0,
            behind_are h at named false body (grows_then b.slots (after_else b other).slots locals (after_else_grows b other) g) (front h body q.0),
            else_is b (placed (after_all h body) b (after_all_at h at body) refl refl refl refl) named other g q.1,
          )
      stmt_is h at named (s.While place test body) g d =
          let p = first_wrong_parts (demands_as h k.Bool test) (stmts_demands h body) d in
          (tree_as h at named k.Bool test p.0, behind_are h at named false body g (front h body p.1))
      stmt_is h at named (s.For place name low high body) g d =
          let start = with_counter h name.text in
          let pair = record h { slots = h.slots ++ k.Int ∷ k.Int ∷ [] } in
          let p = first_wrong_parts (demands_as h k.Int low) (demands_as h k.Int high ++ (local_asks h name 3 ++ stmts_demands start body)) d in
          let q = first_wrong_parts (demands_as h k.Int high) (local_asks h name 3 ++ stmts_demands start body) p.1 in
          let r = first_wrong_parts (local_asks h name 3) (stmts_demands start body) q.1 in
          let grown : Grows start.slots locals = grows_then start.slots (after_all start body).slots locals (after_all_grows start body) g in
          let slots = three_places h.slots k.Int k.Int k.Int locals grown in (
            slots.0,
            slots.1,
            slots.2,
            tree_as h at named k.Int low p.0,
            tree_as h at named k.Int high q.0,
            behind_are start (placed h start at refl refl refl refl) (declared_named locals pair name.text k.Int named grown) false body g (front start body r.1),
          )
      stmt_is h at named (s.Require place test) g d = step_moved h at named (resolve_stmt h (s.Require place test)) (require_is h methods locals (there_at h at named) (levels_at h at named) named place test d)
      stmt_is h at named (s.Send place label value) g d = step_moved h at named (resolve_stmt h (s.Send place label value)) (send_is h methods locals (there_at h at named) (levels_at h at named) named place label value d)
      stmt_is h at named (s.Spawn place event args) g d = step_moved h at named (resolve_stmt h (s.Spawn place event args)) (spawn_is h methods locals (there_at h at named) (levels_at h at named) named place event args d)
      stmt_is h at named (s.Cut place target key) g d = step_moved h at named (resolve_stmt h (s.Cut place target key)) (cut_is h methods locals (there_at h at named) (levels_at h at named) named place target key d)
      stmt_is h at named (s.Set place target key value) g d = step_moved h at named (resolve_stmt h (s.Set place target key value)) (set_is h methods locals (there_at h at named) (levels_at h at named) named place target key value d)
      stmt_is h at named (s.Call place name args) g d = step_moved h at named (resolve_stmt h (s.Call place name args)) (call_step h methods locals (there_at h at named) (levels_at h at named) named place name (exprs_of args) d)
      stmt_is h at named (s.ChildCall place child key name args) g d =
          step_moved h at named (resolve_stmt h (s.ChildCall place child key name args)) (child_step h methods locals (there_at h at named) (levels_at h at named) named place child key name (exprs_of args) d)
      stmt_is h at named (s.Return place value) g d = step_moved h at named (resolve_stmt h (s.Return place value)) (return_is h methods locals (there_at h at named) (levels_at h at named) named place value d)
      stmt_is h at named (s.Finish place value) g d = step_moved h at named (resolve_stmt h (s.Finish place value)) (finish_is h methods locals (there_at h at named) (levels_at h at named) named place value d)

      behind_are : (h : Here) → At known class function within h → Named locals h.locals → (ended : Bool) (ss : StmtTrees) → Grows (after_all h ss).slots locals → first_wrong (behind_demands h ended ss) ≡ None
          → AreTyped known.shape methods function locals class (within_of within) (resolve_stmts h ss)
      behind_are h at named ended no_stmts g d = tt
      behind_are h at named ended (stmt_and a ss) g d =
          let end = is_end (resolve_stmt h a) in
          let q = first_wrong_parts (reach_asks ended (start_of a)) (stmt_demands h a ++ behind_demands (after h a) end ss) d in
          let p = first_wrong_parts (stmt_demands h a) (behind_demands (after h a) end ss) q.1 in
          let one : Grows (after h a).slots locals = grows_then (after h a).slots (after_all (after h a) ss).slots locals (after_all_grows (after h a) ss) g in
          (stmt_is h at named a one p.0, behind_are (after h a) (after_at h at a) (after_named locals h a named one) end ss g p.1, none_behind (after h a) end ss p.1)

      pub else_is : (h : Here) → At known class function within h → Named locals h.locals → (other : ElseTree) → Grows (after_else h other).slots locals → first_wrong (else_demands h other) ≡ None → IsTypedElse known.shape methods function locals class (within_of within) (resolve_else h other)
      else_is h at named no_else g d = tt
      else_is h at named (otherwise ss) g d = behind_are h at named false ss g (front h ss d)

    pub stmts_are : (h : Here) → At known class function within h → Named locals h.locals → (ss : StmtTrees) → Grows (after_all h ss).slots locals → first_wrong (stmts_demands h ss) ≡ None
        → AreTyped known.shape methods function locals class (within_of within) (resolve_stmts h ss)
    stmts_are h at named ss g d = behind_are h at named false ss g (front h ss d)

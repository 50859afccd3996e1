-- A pair that is put into a map, by what the map is.
use Rattle.std.proofs.Common.{◌≡◌, ◌++◌, Some, None, sym, ap, subst, ◌∙◌}
use Rattle.std.specs.Option.{option_map}
use Rattle.wave_base.specs.declared.span.Span.{Span}
use Rattle.wave_base.specs.declared.value.Kind.TheVariants as k
use Rattle.mace_ast.specs.declared.stmt.Target.{Target}
use Rattle.mace_ast.specs.Exprs.{ExprTree}
use Rattle.mace_ast.specs.Stmts as s
use Rattle.resolved_service.specs.View.{Tree}
use Rattle.type_rules.specs.declared.error.TypeError.{TypeError}
use Rattle.type_rules.specs.declared.meant.Variable.{Variable}
use Rattle.type_rules.specs.Demands.{first_wrong, Fails}
use Rattle.type_rules.specs.Here.{Here, variable_kind}
use Rattle.type_rules.specs.Exprs.{resolve, demands_as}
use Rattle.type_rules.specs.Stmts.{target_variable, target_asks, target_kind, key_demands, set_demands, set_step, resolve_stmt}
use Rattle.type_rules.proofs.First.{fails_front, fails_behind, holds_both}

module _ (h : Here) (at : Span) (target : Target) (key value : ExprTree) (x : Variable) (asks : first_wrong (target_asks h at target) ≡ None) (is : target_variable h target ≡ Some x) where
  kind_is : target_kind h target ≡ Some (variable_kind x)
  kind_is = ap (option_map variable_kind) is

  pub put_key_fails : (e : TypeError) → Fails (key_demands h at (Some (variable_kind x)) key) e → Fails (set_demands h at target (Some key) value) e
  put_key_fails e f =
      fails_behind (target_asks h at target) (key_demands h at (target_kind h target) key ++ demands_as h k.Int value) e asks
      (fails_front (key_demands h at (target_kind h target) key) (demands_as h k.Int value) e (subst (λ kind. Fails (key_demands h at kind key) e) (sym kind_is) f))

  module _ (keyed : first_wrong (key_demands h at (Some (variable_kind x)) key) ≡ None) where
    key_holds : first_wrong (key_demands h at (target_kind h target) key) ≡ None
    key_holds = ap (λ kind. first_wrong (key_demands h at kind key)) kind_is ∙ keyed

    pub put_value_fails : (e : TypeError) → Fails (demands_as h k.Int value) e → Fails (set_demands h at target (Some key) value) e
    put_value_fails e f =
        fails_behind (target_asks h at target) (key_demands h at (target_kind h target) key ++ demands_as h k.Int value) e asks
        (fails_behind (key_demands h at (target_kind h target) key) (demands_as h k.Int value) e key_holds f)

    pub put_holds : first_wrong (demands_as h k.Int value) ≡ None → first_wrong (set_demands h at target (Some key) value) ≡ None
    put_holds v = holds_both (target_asks h at target) (key_demands h at (target_kind h target) key ++ demands_as h k.Int value) asks (holds_both (key_demands h at (target_kind h target) key) (demands_as h k.Int value) key_holds v)

-- by where the map is
module _ (h : Here) (at : Span) (target : Target) (key value : ExprTree) (a b : Tree) (key_is : resolve h key ≡ a) (value_is : resolve h value ≡ b) where
  pub put_made : (x : Variable) → target_variable h target ≡ Some x → resolve_stmt h (s.Set at target (Some key) value) ≡ set_step at (Some x) (Some a) b
  put_made x is = (λ i. set_step at (is i) (Some (key_is i)) (value_is i))

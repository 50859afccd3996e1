-- What statements work on, by the actions that they are.
use Rattle.std.proofs.Common.{◌≡◌, ℕ, ◌⊎◌, inl, inr, List, ◌++◌, Vec, Global, sym, ap, subst, ◌∙◌}
use Rattle.wave_base.specs.declared.span.Span.{Span}
use Rattle.resolved_service.specs.declared.expr.Expr.{Expr}
use Rattle.resolved_service.specs.declared.service.Method.{Method}
use Rattle.resolved_service.specs.declared.stmt.Stmt.{Stmt}
use Rattle.resolved_service.specs.declared.stmt.Action.{Action}
use Rattle.resolved_service.specs.declared.stmt.Action.TheVariants as action
use Rattle.resolved_service.specs.Steps.{Step, action_step}
use Rattle.resolved_service.specs.View.{tree_of}
use Rattle.code_scheme.specs.Texts.{tree_uses}
use Rattle.service_compiler.specs.inner.Drafts.{Draft, Emits, EmitsTree}
use Rattle.service_compiler.specs.inner.Operands.{both_code, bounds_code, operands_code, operands_uses}
use Rattle.service_compiler.proofs.TreeRows.{for_action}

module _ (methods : List Method) (c0 c1 : Draft) (a : Action) (at : Span) where
  abbrev EmitsOperands : Step → Type 0
  EmitsOperands s = Emits c0 c1 (operands_uses s) (λ all n. operands_code methods all n s)

  abbrev IsOn : Expr → Type 0
  IsOn e =
      ((x : ℕ) × (a ≡ action.SetLocal x e)) ⊎ (((x : ℕ) × (a ≡ action.SetField x e)) ⊎ (((x : ℕ) × (a ≡ action.CutLocal x e)) ⊎ (((x : ℕ) × (a ≡ action.CutField x e))
      ⊎ ((a ≡ action.Require e) ⊎ (((x : List ℕ) × (a ≡ action.Send x e)) ⊎ (a ≡ action.Do e))))))

  pub one_operand : (e : Expr) → IsOn e → EmitsTree methods c0 c1 (tree_of e) → EmitsOperands (action_step a at)
  one_operand e (inl h) g = subst (λ b. EmitsOperands (action_step b at)) (sym h.1) g
  one_operand e (inr (inl h)) g = subst (λ b. EmitsOperands (action_step b at)) (sym h.1) g
  one_operand e (inr (inr (inl h))) g = subst (λ b. EmitsOperands (action_step b at)) (sym h.1) g
  one_operand e (inr (inr (inr (inl h)))) g = subst (λ b. EmitsOperands (action_step b at)) (sym h.1) g
  one_operand e (inr (inr (inr (inr (inl h))))) g = subst (λ b. EmitsOperands (action_step b at)) (sym h) g
  one_operand e (inr (inr (inr (inr (inr (inl h)))))) g = subst (λ b. EmitsOperands (action_step b at)) (sym h.1) g
  one_operand e (inr (inr (inr (inr (inr (inr h)))))) g = subst (λ b. EmitsOperands (action_step b at)) (sym h) g

  pub two_operands : (k e : Expr) → ((x : ℕ) × (a ≡ action.PutLocal x k e)) ⊎ ((x : ℕ) × (a ≡ action.PutField x k e)) →
      Emits c0 c1 (tree_uses (tree_of k) ++ tree_uses (tree_of e)) (λ all n. both_code methods all n (tree_of k) (tree_of e)) → EmitsOperands (action_step a at)
  two_operands k e (inl h) g = subst (λ b. EmitsOperands (action_step b at)) (sym h.1) g
  two_operands k e (inr h) g = subst (λ b. EmitsOperands (action_step b at)) (sym h.1) g

  pub for_operands : (counter : ℕ) (from to : Expr) (body : Vec Stmt Global) → a ≡ action.For counter from to body →
      Emits c0 c1 (tree_uses (tree_of from) ++ tree_uses (tree_of to)) (λ all n. bounds_code methods all n counter at (tree_of from) (tree_of to)) → EmitsOperands (action_step a at)
  for_operands counter from to body is g = subst EmitsOperands (sym (ap (λ b. action_step b at) is ∙ for_action counter from to body at)) g

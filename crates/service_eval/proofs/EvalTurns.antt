-- The parts of an expression, put down in the machine.
use Rattle.std.proofs.Common.{◌≡◌, ℕ, List, length, Result, OnOk, IfErr, ap, ◌∙◌}
use Rattle.std.proofs.lemmas.Result.{on_ok_weaker}
use Rattle.wave_base.specs.declared.span.Span.{Span}
use Rattle.wave_base.specs.declared.value.Value.{Value}
use Rattle.wave_base.specs.Tree.{Tree}
use Rattle.context_tree.specs.Contexts.{Contexts}
use Rattle.resolved_service.specs.View.{Tree as Expression, Trees, tree, Op, And, Or, Call, Child as ChildOf}
use Rattle.service_eval.specs.declared.code.Code.{Code}
use Rattle.service_eval.specs.declared.machine.Machine.{Machine}
use Rattle.service_eval.specs.declared.stop.Stop.{Stop}
use Rattle.service_eval.specs.declared.stop.Stop.TheVariants as stop
use Rattle.service_eval.specs.inner.Items.{Eval, Evals, Apply, AndThen, OrElse, Invoke, Child}
use Rattle.service_eval.specs.inner.Machines.{Mach, mach_of, on_top}
use Rattle.service_eval.specs.inner.Turns.{mach, IsNext, Goes}
use Rattle.service_eval.proofs.EvalLemmas as e
use Rattle.service_eval.proofs.LighterTurns.{and_lighter, or_lighter, op_lighter, call_lighter, child_lighter, first_lighter}
use Rattle.service_eval.proofs.ReadyLemmas.{ready_with, turned}
use Rattle.wave_base.specs.Memory.{the_refusal}

module _ (code : Code) (contexts : Contexts) (m m' : Machine) (r : Result (Unit {0}) Stop) (n : ℕ) (is : n ≡ length m.values.items) where
  abbrev Puts : (Mach → Mach) → Type 0
  Puts f = OnOk r ((tree : Tree (List Value)) → mach_of tree m' ≡ f (mach_of tree m))

  abbrev Memory : Type 0
  Memory = IfErr r (λ e. e ≡ stop.OutOfMemory the_refusal)

  here : (f : ℕ → Mach → Mach) → Puts (f n) → Puts (λ m. f (length m.values) m)
  here f ok = on_ok_weaker r (λ h tree. h tree ∙ ap (λ n. f n (mach_of tree m)) is) ok

  module _ (at : Span) (a b : Expression) where
    pub and_turn : Puts (λ m. on_top (Eval a) (on_top (AndThen b n) m)) → Memory → IsNext code contexts m (Eval (And at a b)) → Goes code contexts m (Eval (And at a b)) r contexts m'
    and_turn ok err next =
        turned code contexts (Eval (And at a b)) (λ m. on_top (Eval a) (on_top (AndThen b (length m.values)) m)) m m' r next (e.and_parts code.methods.now (mach code contexts m) at a b)
        (ready_with _ _ _ _ _ next (next.items.0.0, (next.items.0.1, next.items.1))) (here (λ n m. on_top (Eval a) (on_top (AndThen b n) m)) ok) err (and_lighter code.methods.now (mach code contexts m) at a b (length m.values.items))

    pub or_turn : Puts (λ m. on_top (Eval a) (on_top (OrElse b n) m)) → Memory → IsNext code contexts m (Eval (Or at a b)) → Goes code contexts m (Eval (Or at a b)) r contexts m'
    or_turn ok err next =
        turned code contexts (Eval (Or at a b)) (λ m. on_top (Eval a) (on_top (OrElse b (length m.values)) m)) m m' r next (e.or_parts code.methods.now (mach code contexts m) at a b)
        (ready_with _ _ _ _ _ next (next.items.0.0, (next.items.0.1, next.items.1))) (here (λ n m. on_top (Eval a) (on_top (OrElse b n) m)) ok) err (or_lighter code.methods.now (mach code contexts m) at a b (length m.values.items))

  module _ (at : Span) (row : ℕ) (ts : Trees) where
    pub op_turn : Puts (λ m. on_top (Evals ts) (on_top (Apply at row n) m)) → Memory → IsNext code contexts m (Eval (Op at row ts)) → Goes code contexts m (Eval (Op at row ts)) r contexts m'
    op_turn ok err next =
        turned code contexts (Eval (Op at row ts)) (λ m. on_top (Evals ts) (on_top (Apply at row (length m.values)) m)) m m' r next (e.op_parts code.methods.now (mach code contexts m) at row ts)
        (ready_with _ _ _ _ _ next (next.items.0, (tt, next.items.1))) (here (λ n m. on_top (Evals ts) (on_top (Apply at row n) m)) ok) err (op_lighter code.methods.now (mach code contexts m) at row ts (length m.values.items))

  pub child_turn : (at : Span) (class method : ℕ) (key : Expression) (ts : Trees) → Puts (λ m. on_top (Eval key) (on_top (Evals ts) (on_top (Child at class method n) m))) → Memory → IsNext code contexts m (Eval (ChildOf at class method key ts)) → Goes code contexts m (Eval (ChildOf at class method key ts)) r contexts m'
  child_turn at class method key ts ok err next =
      turned code contexts (Eval (ChildOf at class method key ts)) (λ m. on_top (Eval key) (on_top (Evals ts) (on_top (Child at class method (length m.values)) m))) m m' r next (e.child_parts code.methods.now (mach code contexts m) at class method key ts)
      (ready_with _ _ _ _ _ next (next.items.0.2, (next.items.0.3, ((next.items.0.0, (_, next.items.0.1)), next.items.1)))) (here (λ n m. on_top (Eval key) (on_top (Evals ts) (on_top (Child at class method n) m))) ok) err (child_lighter code.methods.now (mach code contexts m) at class method key ts (length m.values.items))

module _ (code : Code) (contexts : Contexts) (m m' : Machine) (r : Result (Unit {0}) Stop) where
  pub first_turn : (t : Expression) (ts : Trees) → OnOk r ((tree : Tree (List Value)) → mach_of tree m' ≡ on_top (Eval t) (on_top (Evals ts) (mach_of tree m))) → IfErr r (λ e. e ≡ stop.OutOfMemory the_refusal) → IsNext code contexts m (Evals (tree t ts)) → Goes code contexts m (Evals (tree t ts)) r contexts m'
  first_turn t ts ok err next =
      turned code contexts (Evals (tree t ts)) (λ m. on_top (Eval t) (on_top (Evals ts) m)) m m' r next (e.first_value code.methods.now (mach code contexts m) t ts)
      (ready_with _ _ _ _ _ next (next.items.0.0, (next.items.0.1, next.items.1))) ok err (first_lighter code.methods.now (mach code contexts m) t ts)

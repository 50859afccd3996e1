-- The parts of a statement, put down in the machine.
use Rattle.std.proofs.Common.{◌≡◌, ℕ, suc, ◌≤◌, ◌<◌, arith, List, [], ◌∷◌, ◌++◌, length, Result, OnOk, IfErr, sym, ap, subst, ◌∙◌}
use Rattle.std.proofs.lemmas.Result.{on_ok_weaker}
use Rattle.wave_base.specs.declared.limits.TheConstants.{TICKS}
use Rattle.wave_base.specs.declared.value.Value.{Value}
use Rattle.wave_base.specs.Tree.{Tree}
use Rattle.context_tree.specs.Contexts.{Contexts, tree_of as shown}
use Rattle.resolved_service.specs.Meaning.{Done, value, call_act}
use Rattle.resolved_service.specs.View.{Tree as Tree'}
use Rattle.resolved_service.specs.Steps.{Step}
use Rattle.service_eval.specs.declared.code.Code.{Code}
use Rattle.service_eval.specs.declared.machine.Machine.{Machine}
use Rattle.service_eval.specs.declared.stop.Stop.{Stop}
use Rattle.service_eval.specs.declared.stop.Stop.TheVariants as stop
use Rattle.service_eval.specs.inner.Items.{Item, Eval, Begin}
use Rattle.service_eval.specs.inner.Machines.{Mach, mach_of, state_of, on_top, before_all, with_value, comes_to}
use Rattle.service_eval.specs.inner.Ready.{Ready, Follows, Turned}
use Rattle.service_eval.specs.inner.Turns.{mach, IsNext, Goes}
use Rattle.service_eval.proofs.EvalLemmas.{found_value}
use Rattle.service_eval.specs.inner.Weight.{load}
use Rattle.service_eval.proofs.FinishTurns.{goes_from}
use Rattle.service_eval.proofs.LeaveTurns.{follows_from}
use Rattle.service_eval.proofs.LighterTurns.{found_lighter}
use Rattle.service_eval.proofs.ReadyLemmas.{ready_with, turned}
use Rattle.wave_base.specs.Memory.{the_refusal}

pub step_turn : (code : Code) (contexts : Contexts) (m m' : Machine) (r : Result (Unit {0}) Stop) (n : ℕ) (first : Step) (f : ℕ → Mach → Mach) → n ≡ length m.values.items → comes_to code.methods.now (on_top (Begin first) (mach code contexts m)) ≡ comes_to code.methods.now (f (length m.values.items) (mach code contexts m)) → Ready code.shape.now code.methods.now (f (length m.values.items) (mach code contexts m)) → OnOk r ((tree : Tree (List Value)) → mach_of tree m' ≡ f n (mach_of tree m)) → IfErr r (λ e. e ≡ stop.OutOfMemory the_refusal) → load code.methods.now (f (length m.values.items) (mach code contexts m)) < load code.methods.now (on_top (Begin first) (mach code contexts m)) → IsNext code contexts m (Begin first) → Goes code contexts m (Begin first) r contexts m'
step_turn code contexts m m' r n first f is same ready ok err light next =
    turned code contexts (Begin first) (λ x. f (length x.values) x) m m' r next same ready (on_ok_weaker r (λ h tree. h tree ∙ ap (λ n. f n (mach_of tree m)) is) ok) err light

pub at_step : (code : Code) (contexts : Contexts) (m m' : Machine) (r : Result (Unit {0}) Stop) (a b : Step) → a ≡ b → (IsNext code contexts m (Begin b) → Goes code contexts m (Begin b) r contexts m') → IsNext code contexts m (Begin a) → Goes code contexts m (Begin a) r contexts m'
at_step code contexts m m' r a b e f next = subst (λ s. Goes code contexts m (Begin s) r contexts m') (sym e) (f (subst (λ s. IsNext code contexts m (Begin s)) e next))

-- a statement whose parts are the next things to be done
module _ (code : Code) (contexts : Contexts) (m : Machine) (n : ℕ) (a first : Step) (e : a ≡ first) (f : ℕ → Mach → Mach) (is : n ≡ length m.values.items) where
  pub to_parts : (IsNext code contexts m (Begin first) → Ready code.shape.now code.methods.now (f (length m.values.items) (mach code contexts m))) → IsNext code contexts m (Begin a) → Ready code.shape.now code.methods.now (f n (mach code contexts m))
  to_parts ready next = subst (λ n. Ready code.shape.now code.methods.now (f n (mach code contexts m))) (sym is) (ready (subst (λ s. IsNext code contexts m (Begin s)) e next))

  pub from_parts : (contexts' : Contexts) (m' : Machine) (r : Result (Unit {0}) Stop) → comes_to code.methods.now (on_top (Begin first) (mach code contexts m)) ≡ comes_to code.methods.now (f (length m.values.items) (mach code contexts m)) → load code.methods.now (f (length m.values.items) (mach code contexts m)) < load code.methods.now (on_top (Begin first) (mach code contexts m)) → Follows code.shape.now code.methods.now (comes_to code.methods.now (f n (mach code contexts m))) (suc (load code.methods.now (f n (mach code contexts m)))) r (mach code contexts' m') → Goes code contexts m (Begin a) r contexts' m'
  from_parts contexts' m' r same light h =
      follows_from code (comes_to code.methods.now (on_top (Begin a) (mach code contexts m))) (comes_to code.methods.now (f n (mach code contexts m))) r (mach code contexts' m')
      (ap (λ s. comes_to code.methods.now (on_top (Begin s) (mach code contexts m))) e ∙ same ∙ ap (λ k. comes_to code.methods.now (f k (mach code contexts m))) (sym is))
      (suc (load code.methods.now (f n (mach code contexts m)))) (load code.methods.now (on_top (Begin a) (mach code contexts m)))
      (let there = subst (λ s. load code.methods.now (f (length m.values.items) (mach code contexts m)) < load code.methods.now (on_top (Begin s) (mach code contexts m))) (sym e) light in
      let here = subst (λ k. load code.methods.now (f k (mach code contexts m)) < load code.methods.now (on_top (Begin a) (mach code contexts m))) (sym is) there in
      omega (arith, here)) h

-- an expression that was found at once, and then what stands behind it
module _ (code : Code) (contexts : Contexts) (m m1 : Machine) (t : Tree') (items : List Item) (next : Ready code.shape.now code.methods.now (on_top (Eval t) (before_all items (mach code contexts m)))) (v : Value) (gave : mach code contexts m1 ≡ with_value v (mach code contexts m)) where
  pub then_next : Ready code.shape.now code.methods.now (before_all items (mach code contexts m1))
  then_next = subst (λ x. Ready code.shape.now code.methods.now (before_all items x)) (sym gave) (ready_with _ _ (on_top (Eval t) (before_all items (mach code contexts m))) (items ++ (mach code contexts m).items) (m.values.items ++ v ∷ []) next next.items.1)

  pub then_same : value (call_act code.methods.now TICKS) m.path t (state_of (shown code.shape.now contexts) m) ≡ Done v (state_of (shown code.shape.now contexts) m) → comes_to code.methods.now (on_top (Eval t) (before_all items (mach code contexts m))) ≡ comes_to code.methods.now (before_all items (mach code contexts m1))
  then_same found = found_value code.methods.now (before_all items (mach code contexts m)) t v found ∙ ap (λ x. comes_to code.methods.now (before_all items x)) (sym gave)

  pub then_lighter : load code.methods.now (before_all items (mach code contexts m1)) ≤ load code.methods.now (on_top (Eval t) (before_all items (mach code contexts m)))
  then_lighter = subst (λ x. load code.methods.now (before_all items x) ≤ load code.methods.now (on_top (Eval t) (before_all items (mach code contexts m)))) (sym gave) (omega (arith, found_lighter code.methods.now (before_all items (mach code contexts m)) t v))

  pub then_goes : value (call_act code.methods.now TICKS) m.path t (state_of (shown code.shape.now contexts) m) ≡ Done v (state_of (shown code.shape.now contexts) m) → (contexts' : Contexts) (m' : Machine) (r : Result (Unit {0}) Stop) → Turned code.shape.now code.methods.now (before_all items (mach code contexts m1)) r (mach code contexts' m') → Turned code.shape.now code.methods.now (on_top (Eval t) (before_all items (mach code contexts m))) r (mach code contexts' m')
  then_goes found contexts' m' r h =
      goes_from code (on_top (Eval t) (before_all items (mach code contexts m))) (before_all items (mach code contexts m1)) r (mach code contexts' m') (then_same found) h then_lighter

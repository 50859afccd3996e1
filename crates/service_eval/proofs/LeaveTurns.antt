-- A method that returns early: all up to its return is left out.
use Rattle.std.proofs.Common.{◌≡◌, ◌≤◌, ◌<◌, ℕ, arith, List, [], ◌∷◌, Option, Result, Ok, Err, OnOk, IfErr, refl, sym, ap, subst, ◌∙◌}
use Rattle.wave_base.specs.declared.path.Path.{Path}
use Rattle.wave_base.specs.declared.shape.Shape.{Shape}
use Rattle.wave_base.specs.declared.value.Value.{Value}
use Rattle.wave_base.specs.Tree.{Tree}
use Rattle.context_tree.specs.Contexts.{Contexts, tree_of as shown}
use Rattle.resolved_service.specs.declared.service.Method.{Method}
use Rattle.resolved_service.specs.Meaning.{Returned, Outcome, Left, worth}
use Rattle.resolved_service.specs.World.{World}
use Rattle.service_eval.specs.declared.code.Code.{Code}
use Rattle.service_eval.specs.declared.machine.Machine.{Machine}
use Rattle.service_eval.specs.declared.stop.Stop.{Stop}
use Rattle.service_eval.specs.declared.stop.Stop.TheVariants as stop
use Rattle.service_eval.specs.declared.work.Caller.{Caller}
use Rattle.service_eval.specs.inner.Items as i
use Rattle.service_eval.specs.inner.Items.{Item, Eval, Invoke, Child, Block, Return, return_of, to_return}
use Rattle.service_eval.specs.inner.Machines.{Mach, Rest, items_of, mach_of, on_top, back_to, come_of, comes_to}
use Rattle.service_eval.specs.inner.Ready.{FitsItems, Ready, Follows}
use Rattle.service_eval.specs.inner.Turns.{mach, Leaves}
use Rattle.service_eval.specs.Worlds.{Holds}
use Rattle.service_eval.specs.inner.Traces.{uncounted_world, Ends, Fails}
use Rattle.service_eval.specs.inner.Weight.{load}
use Rattle.service_eval.proofs.CallTurns.{ready_back}
use Rattle.service_eval.proofs.LighterTurns.{left_lighter}
use Rattle.service_eval.proofs.Outcomes.{return_through}
use Rattle.service_eval.proofs.ReadyLemmas.{ready_with}
use Rattle.wave_base.specs.Memory.{the_refusal}

pub follows_from : (code : Code) (o o' : Outcome Rest) (r : Result (Unit {0}) Stop) (after : Mach) → o ≡ o' → (limit more : ℕ) → limit ≤ more → Follows code.shape.now code.methods.now o' limit r after → Follows code.shape.now code.methods.now o more r after
follows_from code o o' (Ok u) after e limit more less h = (e ∙ h.0, h.1, omega (arith, h.2, less))
follows_from code o o' (Err x) after e limit more less h = (subst (λ o. Fails o x after.state.world) (sym e) h.0, h.1)

fits_to_return : (shape : Shape) (methods : List Method) (items : List Item) (p : Path) → FitsItems shape methods items p → FitsItems shape methods (to_return items) p
fits_to_return shape methods [] p h = h
fits_to_return shape methods (Return locals below up ∷ items) p h = h
fits_to_return shape methods (Eval t ∷ items) p h = fits_to_return shape methods items p h.1
fits_to_return shape methods (i.Evals ts ∷ items) p h = fits_to_return shape methods items p h.1
fits_to_return shape methods (i.Apply at row base ∷ items) p h = fits_to_return shape methods items p h.1
fits_to_return shape methods (i.AndThen right base ∷ items) p h = fits_to_return shape methods items p h.1
fits_to_return shape methods (i.OrElse right base ∷ items) p h = fits_to_return shape methods items p h.1
fits_to_return shape methods (Invoke at method base ∷ items) p h = fits_to_return shape methods items p h.1
fits_to_return shape methods (Child at class method base ∷ items) p h = fits_to_return shape methods items p h.1
fits_to_return shape methods (Block steps ∷ items) p h = fits_to_return shape methods items p h.1
fits_to_return shape methods (i.Begin s ∷ items) p h = fits_to_return shape methods items p h.1
fits_to_return shape methods (i.Finish at what base ∷ items) p h = fits_to_return shape methods items p h.1
fits_to_return shape methods (i.Turns at test body ∷ items) p h = fits_to_return shape methods items p h.1
fits_to_return shape methods (i.Check at test body base ∷ items) p h = fits_to_return shape methods items p h.1
fits_to_return shape methods (i.Counts at counter body ∷ items) p h = fits_to_return shape methods items p h.1
fits_to_return shape methods (i.Again at counter body ∷ items) p h = fits_to_return shape methods items p h.1

module _ (code : Code) (contexts : Contexts) (m m1 : Machine) (ready : Ready code.shape.now code.methods.now (mach code contexts m)) (rest : (tree : Tree (List Value)) → mach_of tree m1 ≡ record (mach_of tree m) { items = items_of m1 }) where
  abbrev M : Mach
  M = mach code contexts m

  at_return : Ready code.shape.now code.methods.now (record M { items = to_return M.items })
  at_return = ready_with code.shape.now code.methods.now M (to_return M.items) M.values ready (fits_to_return code.shape.now code.methods.now M.items M.path ready.items)

  module _ (c : Caller) (found : to_return (items_of m) ≡ return_of c ∷ items_of m1) where
    pub ready_at_caller : Ready code.shape.now code.methods.now (on_top (return_of c) (mach code contexts m1))
    ready_at_caller =
        let at : Ready code.shape.now code.methods.now (record M { items = return_of c ∷ items_of m1 }) = subst (λ items. Ready code.shape.now code.methods.now (record M { items = items })) found at_return in
        subst (λ (x : Mach). Ready code.shape.now code.methods.now (on_top (return_of c) x)) (sym (rest (shown code.shape.now contexts))) at

    pub given_back : (r : Option Value) (v : Value) (m2 : Machine) (result : Result (Unit {0}) Stop) → v ≡ worth r → OnOk result ((tree : Tree (List Value)) → mach_of tree m2 ≡ back_to c v (mach_of tree m1)) → IfErr result (λ e. e ≡ stop.OutOfMemory the_refusal) → Holds code.shape.now (shown code.shape.now contexts) → Leaves code contexts m (Returned r) result contexts m2
    given_back r v m2 (Ok u) is ok err holds =
        let target = back_to c v (mach code contexts m1) in
        let same : mach code contexts m2 ≡ target = ok (shown code.shape.now contexts) in
        let at : target ≡ back_to c (worth r) (record M { items = items_of m1 }) = λ i. back_to c (is i) (rest (shown code.shape.now contexts) i) in (
          return_through code.methods.now M.items M.path r M.state
              ∙ ap (λ items. come_of code.methods.now items M.path (Left (Returned r) M.state)) found
              ∙ ap (comes_to code.methods.now) (sym at ∙ sym same),
          subst (Ready code.shape.now code.methods.now) (sym same) (ready_back code.shape.now code.methods.now (mach code contexts m1) c v ready_at_caller),
          subst (λ x. load code.methods.now x < load code.methods.now M) (sym (same ∙ at)) (left_lighter code.methods.now M c (worth r) (items_of m1) found),
        )
    given_back r v m2 (Err (stop.OutOfMemory _)) is ok err holds = (tt, holds)
    given_back r v m2 (Err (stop.Trapped t)) is ok err holds = cc
    given_back r v m2 (Err (stop.Ended t)) is ok err holds = cc

  -- where no method runs, the event ends
  pub none_given_back : (r : Option Value) → to_return (items_of m) ≡ [] → Leaves code contexts m (Returned r) (Err (stop.Ended r)) contexts m1
  none_given_back r none =
      let ends : Ends (come_of code.methods.now M.items M.path (Left (Returned r) M.state)) r M.state.world = record {
        why = Returned r;
        state = record { locals = M.state.locals; world = uncounted_world M.state.world };
        is = return_through code.methods.now M.items M.path r M.state ∙ ap (λ items. come_of code.methods.now items M.path (Left (Returned r) M.state)) none;
        replies = refl;
        leaves = refl;
      } in
      subst (λ (w : World). Ends (come_of code.methods.now M.items M.path (Left (Returned r) M.state)) r w × Holds code.shape.now w.tree) (sym (ap (λ (x : Mach). x.state.world) (rest (shown code.shape.now contexts)))) (ends, ready.holds)

use Rattle.std.proofs.Common.{◌≡◌, true, false, List, [], ◌∷◌, length, refl, ap, sym, ◌∙◌, arith}
use Rattle.wave_base.specs.declared.value.Value.{Value}
use Rattle.wave_base.specs.Tree.{Tree}
use Rattle.service_eval.specs.declared.machine.Machine.{Machine}
use Rattle.service_eval.specs.declared.work.Caller.{Caller}
use Rattle.service_eval.specs.declared.work.Work.{Work}
use Rattle.service_eval.specs.declared.work.Work.TheVariants as work
use Rattle.service_eval.specs.inner.Items.{Item, item_of, to_return}
use Rattle.service_eval.specs.inner.Machines.{Mach, items_of, mach_of, on_top}
use Rattle.service_eval.proofs.machine.Machine.to_caller.Goals as goal

no_tree : Tree (List Value)
no_tree = record { paths = []; fields = λ _. [] }

-- what is no return is left out
passes : (w : Work) (items : List Item) → ((caller : Caller) → w ≡ work.Return caller → ⊥) → to_return (item_of w ∷ items) ≡ to_return items
passes (work.Eval e) items h = refl
passes (work.Evals es) items h = refl
passes (work.Apply at row base) items h = refl
passes (work.AndThen e base) items h = refl
passes (work.OrElse e base) items h = refl
passes (work.Invoke at method base) items h = refl
passes (work.Child at callee base) items h = refl
passes (work.Block body) items h = refl
passes (work.Finish at what base) items h = refl
passes (work.Turns w) items h = refl
passes (work.Check w base) items h = refl
passes (work.Counts f true) items h = refl
passes (work.Counts f false) items h = refl
passes (work.Return caller) items h = absurd (h caller refl)

-- a machine before it gave its first item, and after
module _ (old new : Machine) (w : Work) (popped : (tree : Tree (List Value)) → mach_of tree old ≡ on_top (item_of w) (mach_of tree new)) where
  items_are : items_of old ≡ item_of w ∷ items_of new
  items_are = ap (λ (m : Mach). m.items) (popped no_tree)

  rest_is : (tree : Tree (List Value)) → mach_of tree new ≡ record (mach_of tree old) { items = items_of new }
  rest_is tree = sym (ap (λ (m : Mach). record m { items = items_of new }) (popped tree))

pub loop-work-smaller : goal.loop-work-smaller
loop-work-smaller c = omega (arith, ap (λ (items : List Item). length items) (items_are c.loop-work.self c.pop.new.self c.in-Some.work c.in-Some.ensures.some))

pub loop-work-preserved : goal.loop-work-preserved
loop-work-preserved c = record {
  return = c.loop-work.invariant.return ∙ ap to_return (items_are c.loop-work.self c.pop.new.self c.in-Some.work c.in-Some.ensures.some) ∙ passes c.in-Some.work (items_of c.pop.new.self) (λ caller e. c.in_default-work.not-Return caller e);
  rest = λ tree. rest_is c.loop-work.self c.pop.new.self c.in-Some.work c.in-Some.ensures.some tree ∙ ap (λ (m : Mach). record m { items = items_of c.pop.new.self }) (c.loop-work.invariant.rest tree);
}

pub returns-in-Return-clause-some : goal.returns-in-Return-clause-some
returns-in-Return-clause-some c =
    c.loop-work.invariant.return ∙ ap to_return (items_are c.loop-work.self c.pop.new.self c.in-Some.work c.in-Some.ensures.some ∙ ap (λ (w : Work). item_of w ∷ items_of c.pop.new.self) c.in-Return.is)

pub returns-in-Return-clause-rest : goal.returns-in-Return-clause-rest
returns-in-Return-clause-rest c = λ tree.
    rest_is c.loop-work.self c.pop.new.self c.in-Some.work c.in-Some.ensures.some tree ∙ ap (λ (m : Mach). record m { items = items_of c.pop.new.self }) (c.loop-work.invariant.rest tree)

pub returns-clause-none : goal.returns-clause-none
returns-clause-none c = λ _. c.loop-work.invariant.return ∙ ap to_return ((c.in_default.ensures.none refl no_tree).1)

pub returns-clause-rest : goal.returns-clause-rest
returns-clause-rest c = λ tree.
    let same = (c.in_default.ensures.none refl tree).0 in
    same ∙ c.loop-work.invariant.rest tree ∙ ap (λ (m : Mach). record (mach_of tree c.args.self.now) { items = m.items }) (sym same)

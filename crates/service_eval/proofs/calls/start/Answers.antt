use Rattle.std.proofs.Common.{◌∷◌, ap, sym, ◌∙◌}
use Rattle.std.proofs.lemmas.Result.{on_ok_weaker}
use Rattle.resolved_service.specs.Meaning.{with_blanks}
use Rattle.resolved_service.specs.Steps.{steps_in}
use Rattle.resolved_service.specs.View.{tree_of}
use Rattle.service_eval.specs.inner.Items.{Block, Eval, Return}
use Rattle.service_eval.specs.inner.Machines.{Mach, mach_of, on_top, with_last}
use Rattle.service_eval.proofs.calls.start.Goals as goal

pub returns-in-Some-clause-ok : goal.returns-in-Some-clause-ok
returns-in-Some-clause-ok c =
    on_ok_weaker c.push_two.result (λ h tree.
    let m = mach_of tree c.args.m.now in
    h tree ∙ ap (λ (m : Mach). on_top (Block (steps_in c.as_slice-2.result.now)) (on_top (Eval (tree_of c.in-Some.last.value)) m)) (c.in_ok-push.ensures.ok tree)
    ∙ (λ i. record {
      items = Block (steps_in (c.as_slice-2.ensures i)) ∷ with_last (sym c.in-Some.is i) (Return (ap (λ v. v.items) c.replace-locals.ensures.value i) (ap (λ v. v.items) c.replace-values.ensures.value i) c.args.up ∷ m.items);
      values = (ap (λ v. v.items) c.replace-values.ensures.after ∙ c.new.ensures.items) i;
      path = m.path;
      state = record { locals = (ap (λ v. v.items) c.replace-locals.ensures.after ∙ c.in-Ok.ensures.locals ∙ ap (with_blanks c.args.given.items) c.as_slice.ensures) i; world = m.state.world };
    })) c.push_two.ensures.ok

pub returns-in-None-clause-ok : goal.returns-in-None-clause-ok
returns-in-None-clause-ok c =
    on_ok_weaker c.push-in-None.result (λ h tree.
    let m = mach_of tree c.args.m.now in
    h tree ∙ ap (λ (m : Mach). on_top (Block (steps_in c.as_slice-2.result.now)) m) (c.in_ok-push.ensures.ok tree)
    ∙ (λ i. record {
      items = Block (steps_in (c.as_slice-2.ensures i)) ∷ with_last (sym c.in-None.is i) (Return (ap (λ v. v.items) c.replace-locals.ensures.value i) (ap (λ v. v.items) c.replace-values.ensures.value i) c.args.up ∷ m.items);
      values = (ap (λ v. v.items) c.replace-values.ensures.after ∙ c.new.ensures.items) i;
      path = m.path;
      state = record { locals = (ap (λ v. v.items) c.replace-locals.ensures.after ∙ c.in-Ok.ensures.locals ∙ ap (with_blanks c.args.given.items) c.as_slice.ensures) i; world = m.state.world };
    })) c.push-in-None.ensures.ok

use Rattle.std.proofs.Common.{inl, inr, false, sym, ap, ◌∙◌}
use Rattle.std.proofs.lemmas.Result.{on_ok_weaker}
use Rattle.wave_base.specs.declared.value.Value.TheVariants.{Bool as Truth}
use Rattle.resolved_service.specs.View.{tree_of}
use Rattle.service_eval.specs.inner.Items as i
use Rattle.service_eval.specs.inner.Machines.{on_top, with_value, cut_to}
use Rattle.service_eval.specs.inner.Turns.{mach}
use Rattle.service_eval.proofs.LighterTurns.{and_chosen, and_given}
use Rattle.service_eval.proofs.EvalLemmas as e
use Rattle.service_eval.proofs.WantLemmas.{settled, wanting}
use Rattle.service_eval.proofs.ReadyLemmas.{ready_with, turned}
use Rattle.service_eval.proofs.eval.and_then.Goals as goal

pub returns-then-is_true-clause-goes : goal.returns-then-is_true-clause-goes
returns-then-is_true-clause-goes c =
    turned c.args.code c.args.contexts.now (i.AndThen (tree_of c.args.right.now) c.args.base) (λ m. on_top (i.Eval (tree_of c.args.right.now)) (cut_to c.args.base m)) c.args.m.now c.push.new.self c.push.result c.requires
    (e.and_true c.args.code.methods.now (mach c.args.code c.args.contexts.now c.args.m.now) (tree_of c.args.right.now) c.args.base (sym c.is_true.ensures ∙ c.if-is_true.true))
    (ready_with _ _ _ _ _ c.requires (c.requires.items.0, c.requires.items.1))
    (on_ok_weaker c.push.result (λ h tree. h tree ∙ ap (on_top (i.Eval (tree_of c.args.right.now))) (c.cut.ensures tree)) c.push.ensures.ok) c.push.ensures.err (and_chosen c.args.code.methods.now (mach c.args.code c.args.contexts.now c.args.m.now) (tree_of c.args.right.now) c.args.base)

pub returns-else-is_true-clause-goes : goal.returns-else-is_true-clause-goes
returns-else-is_true-clause-goes c =
    turned c.args.code c.args.contexts.now (i.AndThen (tree_of c.args.right.now) c.args.base) (λ m. with_value (Truth false) (cut_to c.args.base m)) c.args.m.now c.settle.new.self c.settle.result c.requires
    (e.and_false c.args.code.methods.now (mach c.args.code c.args.contexts.now c.args.m.now) (tree_of c.args.right.now) c.args.base (sym c.is_true.ensures ∙ c.if-is_true.false))
    (ready_with _ _ _ _ _ c.requires c.requires.items.1)
    c.settle.ensures.ok c.settle.ensures.err (and_given c.args.code.methods.now (mach c.args.code c.args.contexts.now c.args.m.now) (tree_of c.args.right.now) c.args.base (Truth false))

pub returns-else-is_true-clause-memory : goal.returns-else-is_true-clause-memory
returns-else-is_true-clause-memory c = settled c.settle.result inr c.settle.ensures.memory

pub returns-then-is_true-clause-memory : goal.returns-then-is_true-clause-memory
returns-then-is_true-clause-memory c = wanting c.push.result (inl (sym c.is_true.ensures ∙ c.if-is_true.true))

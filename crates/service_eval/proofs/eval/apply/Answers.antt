use Rattle.std.proofs.Common.{Err, inl, inr, sym, ap, subst, ◌∙◌}
use Rattle.service_eval.specs.inner.Items as i
use Rattle.service_eval.specs.inner.Machines.{with_value, cut_to}
use Rattle.service_eval.specs.inner.Turns.{mach}
use Rattle.service_eval.proofs.LighterTurns.{applied_lighter}
use Rattle.service_eval.proofs.EvalLemmas as e
use Rattle.service_eval.proofs.WantLemmas.{for_given, settled}
use Rattle.service_eval.proofs.ReadyLemmas.{ready_with, turned}
use Rattle.value_ops.specs.Operators.{apply_row}
use Rattle.service_eval.specs.inner.Answers.{Gives}
use Rattle.service_eval.proofs.eval.apply.Goals as goal

pub returns-in-Ok-clause-goes : goal.returns-in-Ok-clause-goes
returns-in-Ok-clause-goes c =
    turned c.args.code c.args.contexts.now (i.Apply c.args.at c.args.row c.args.base) (λ m. with_value c.in-Ok.value (cut_to c.args.base m)) c.args.m.now c.settle.new.self c.settle.result c.requires
    (e.applied c.args.code.methods.now (mach c.args.code c.args.contexts.now c.args.m.now) c.args.at c.args.row c.args.base c.in-Ok.value (ap (apply_row c.args.row) (sym c.own.ensures) ∙ c.in-Ok.ensures))
    (ready_with _ _ _ _ _ c.requires c.requires.items.1)
    c.settle.ensures.ok c.settle.ensures.err (applied_lighter c.args.code.methods.now (mach c.args.code c.args.contexts.now c.args.m.now) c.args.at c.args.row c.args.base c.in-Ok.value)

pub returns-in-Err-clause-goes : goal.returns-in-Err-clause-goes
returns-in-Err-clause-goes c =
    (e.not_applied c.args.code.methods.now (mach c.args.code c.args.contexts.now c.args.m.now) c.args.at c.args.row c.args.base c.in-Err.e (subst (λ vs. Gives (apply_row c.args.row vs) c.args.at (Err c.in-Err.e)) c.own.ensures c.in-Err.ensures), c.requires.holds)

pub returns-in-Ok-clause-memory : goal.returns-in-Ok-clause-memory
returns-in-Ok-clause-memory c = settled c.settle.result inr c.settle.ensures.memory

pub returns-in-Err-clause-memory : goal.returns-in-Err-clause-memory
returns-in-Err-clause-memory c = for_given c.args.row c.own.result.now c.args.at (Err c.in-Err.e) inl c.in-Err.ensures

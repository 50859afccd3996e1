use Rattle.std.proofs.Common.{ap, sym, ◌∙◌}
use Rattle.std.proofs.lemmas.Result.{on_ok_weaker}
use Rattle.service_eval.specs.inner.Machines.{mach_of, with_value, back_to}
use Rattle.service_eval.proofs.calls.go_on.Goals as goal

pub returns-then-up-clause-ok : goal.returns-then-up-clause-ok
returns-then-up-clause-ok c =
    on_ok_weaker c.give.result (λ h tree.
    h tree ∙ ap (with_value c.args.value) (c.rise.ensures tree) ∙ ap (λ up. back_to (record c.args.caller { up = up }) c.args.value (mach_of tree c.args.m.now)) (sym c.if-up.true)) c.give.ensures.ok

pub returns-else-up-clause-ok : goal.returns-else-up-clause-ok
returns-else-up-clause-ok c =
    on_ok_weaker c.give-else-up.result (λ h tree.
    h tree ∙ ap (λ up. back_to (record c.args.caller { up = up }) c.args.value (mach_of tree c.args.m.now)) (sym c.if-up.false)) c.give-else-up.ensures.ok

use Rattle.std.proofs.Common.{ap, ◌∙◌}
use Rattle.std.proofs.lemmas.Result.{on_ok_weaker}
use Rattle.service_eval.specs.inner.Machines.{back_to}
use Rattle.service_eval.proofs.CallTurns.{back_turn}
use Rattle.service_eval.proofs.calls.come_back.Goals as goal

pub returns : goal.returns
returns c =
    back_turn c.args.code c.args.contexts.now c.args.m.now c.go_on.new.m c.go_on.result c.args.caller c.take-value.result c.take-value.ensures.value
    (on_ok_weaker c.go_on.result (λ h tree. h tree ∙ ap (back_to c.args.caller c.take-value.result) (c.take-value.ensures.rest tree)) c.go_on.ensures.ok)
    c.go_on.ensures.err c.requires

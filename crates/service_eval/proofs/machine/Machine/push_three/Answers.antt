use Rattle.std.proofs.Common.{ap, ◌∙◌}
use Rattle.std.proofs.lemmas.Result.{on_ok_weaker}
use Rattle.service_eval.specs.inner.Items.{item_of}
use Rattle.service_eval.specs.inner.Machines.{on_top}
use Rattle.service_eval.proofs.machine.Machine.push_three.Goals as goal

pub returns-clause-ok : goal.returns-clause-ok
returns-clause-ok c = on_ok_weaker c.push_two.result (λ h tree. h tree ∙ ap (λ m. on_top (item_of c.args.first) (on_top (item_of c.args.second) m)) (c.in_ok-push.ensures.ok tree)) c.push_two.ensures.ok

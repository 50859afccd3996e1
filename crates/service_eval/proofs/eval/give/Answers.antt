use Rattle.std.proofs.Common.{◌≡◌, IfOk, ap, subst, ◌∙◌}
use Rattle.std.proofs.lemmas.Result.{on_ok_weaker}
use Rattle.service_eval.specs.inner.Machines.{mach_of, with_value}
use Rattle.service_eval.proofs.eval.give.Goals as goal

pub returns-in-Ok-clause-ok : goal.returns-in-Ok-clause-ok
returns-in-Ok-clause-ok c = λ v h. on_ok_weaker c.give.result (λ k tree. k tree ∙ ap (λ x. with_value x (mach_of tree c.args.m.now)) (subst (λ r. IfOk r (λ x. x ≡ v)) c.in-Ok.is h)) c.give.ensures.ok

use Rattle.std.proofs.Common.{sym, ap, ◌∙◌}
use Rattle.context_tree.specs.Contexts.{tree_of as shown}
use Rattle.resolved_service.specs.Meaning.{Done}
use Rattle.service_eval.specs.inner.Machines.{state_of}
use Rattle.service_eval.proofs.eval.looked_value.Goals as goal

pub returns-in-Ok-clause-finds : goal.returns-in-Ok-clause-finds
returns-in-Ok-clause-finds c =
    let st = state_of (shown c.args.view.code.shape.now c.args.view.contexts.now) c.args.view.m.now in
    let found = rw c.in-Ok-Some.field-0-is at c.in-Ok-Some.ensures.sees in
    found ∙ ap (λ v. Done v st) (sym c.in-Ok.ensures.equal)

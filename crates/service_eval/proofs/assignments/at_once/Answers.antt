use Rattle.std.proofs.Common.{sym, ap, subst, ◌∙◌}
use Rattle.resolved_service.specs.Steps.{Step}
use Rattle.service_eval.specs.inner.Changes.{step_in}
use Rattle.service_eval.specs.inner.Turns.{AtOnce}
use Rattle.service_eval.specs.inner.Wants.{WhereWanting, MayWantAtOnce}
use Rattle.service_eval.proofs.assignments.at_once.Goals as goal

pub returns-in-Some-Set-clause-does : goal.returns-in-Some-Set-clause-does
returns-in-Some-Set-clause-does c =
    subst (λ (s : Step). AtOnce c.args.code c.args.contexts.now c.args.m.now s c.set.result c.set.new.contexts c.set.new.m) (sym (c.in-Some-Set.ensures.some ∙ ap (step_in c.args.stmt.now.at) c.in-Some-Set.field-0-is)) c.set.ensures.does

pub returns-in-Some-Put-clause-does : goal.returns-in-Some-Put-clause-does
returns-in-Some-Put-clause-does c =
    subst (λ (s : Step). AtOnce c.args.code c.args.contexts.now c.args.m.now s c.put.result c.put.new.contexts c.put.new.m) (sym (c.in-Some-Put.ensures.some ∙ ap (step_in c.args.stmt.now.at) c.in-Some-Put.field-0-is)) c.put.ensures.does

pub returns-in-Some-Cut-clause-does : goal.returns-in-Some-Cut-clause-does
returns-in-Some-Cut-clause-does c =
    subst (λ (s : Step). AtOnce c.args.code c.args.contexts.now c.args.m.now s c.cut.result c.cut.new.contexts c.cut.new.m) (sym (c.in-Some-Cut.ensures.some ∙ ap (step_in c.args.stmt.now.at) c.in-Some-Cut.field-0-is)) c.cut.ensures.does

pub returns-in-Some-Set-clause-memory : goal.returns-in-Some-Set-clause-memory
returns-in-Some-Set-clause-memory c =
    subst (λ (s : Step). WhereWanting c.set.result (MayWantAtOnce c.args.code c.args.contexts.now c.args.m.now s)) (sym (c.in-Some-Set.ensures.some ∙ ap (step_in c.args.stmt.now.at) c.in-Some-Set.field-0-is)) c.set.ensures.memory

pub returns-in-Some-Put-clause-memory : goal.returns-in-Some-Put-clause-memory
returns-in-Some-Put-clause-memory c =
    subst (λ (s : Step). WhereWanting c.put.result (MayWantAtOnce c.args.code c.args.contexts.now c.args.m.now s)) (sym (c.in-Some-Put.ensures.some ∙ ap (step_in c.args.stmt.now.at) c.in-Some-Put.field-0-is)) c.put.ensures.memory

pub returns-in-Some-Cut-clause-memory : goal.returns-in-Some-Cut-clause-memory
returns-in-Some-Cut-clause-memory c =
    subst (λ (s : Step). WhereWanting c.cut.result (MayWantAtOnce c.args.code c.args.contexts.now c.args.m.now s)) (sym (c.in-Some-Cut.ensures.some ∙ ap (step_in c.args.stmt.now.at) c.in-Some-Cut.field-0-is)) c.cut.ensures.memory

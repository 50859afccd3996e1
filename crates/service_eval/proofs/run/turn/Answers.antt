use Rattle.std.proofs.Common.{sym, ap, subst, ◌∙◌}
use Rattle.service_eval.specs.declared.work.Work.{Work}
use Rattle.service_eval.specs.declared.work.Work.TheVariants as work
use Rattle.service_eval.specs.inner.Items.{item_of}
use Rattle.service_eval.specs.inner.Turns.{IsNext, Goes}
use Rattle.service_eval.proofs.run.turn.Goals as goal

pub again-requires : goal.again-requires
again-requires c =
    let k = c.in-Counts in
    subst (λ (w : Work). IsNext c.args.code c.args.contexts.now c.args.m.now (item_of w)) (k.is ∙ ap (λ b. work.Counts k.cycle b) c.if-more.true) c.requires.next

pub returns-then-more : goal.returns-then-more
returns-then-more c =
    let k = c.in-Counts in
    subst (λ (w : Work). Goes c.args.code c.args.contexts.now c.args.m.now (item_of w) c.again.result c.again.new.contexts c.again.new.m) (sym (k.is ∙ ap (λ b. work.Counts k.cycle b) c.if-more.true)) c.again.ensures

pub counts-requires : goal.counts-requires
counts-requires c =
    let k = c.in-Counts in
    subst (λ (w : Work). IsNext c.args.code c.args.contexts.now c.args.m.now (item_of w)) (k.is ∙ ap (λ b. work.Counts k.cycle b) c.if-more.false) c.requires.next

pub returns-else-more : goal.returns-else-more
returns-else-more c =
    let k = c.in-Counts in
    subst (λ (w : Work). Goes c.args.code c.args.contexts.now c.args.m.now (item_of w) c.counts.result c.counts.new.contexts c.counts.new.m) (sym (k.is ∙ ap (λ b. work.Counts k.cycle b) c.if-more.false)) c.counts.ensures

use Rattle.std.proofs.Common.{ap, sym, ◌∙◌, Ok, arith, [], ◌∷◌, ◌++◌}
use Rattle.service_eval.specs.inner.Traces.{world_of}
use Rattle.service_eval.proofs.WorldLemmas.{refuses, sends_no_more, sends_one_more}
use Rattle.service_eval.proofs.trace.Trace.send.Goals as goal

pub returns-then-len-ge-MESSAGES-clause-changes : goal.returns-then-len-ge-MESSAGES-clause-changes
returns-then-len-ge-MESSAGES-clause-changes c = λ tree. refuses _ _ _ _ _ (sends_no_more _ _ _ (omega (arith, c.len.ensures, c.if-len-ge-MESSAGES.true))) c.trap_at.ensures

pub returns-clause-changes : goal.returns-clause-changes
returns-clause-changes c = λ tree.
    sends_one_more c.args.label.now c.args.value (world_of tree c.args.self.now) (omega (arith, c.len.ensures, c.if-len-ge-MESSAGES.false))
    ∙ ap (λ ms. Ok (record (world_of tree c.args.self.now) { messages = ms })) (sym (c.in_ok-push.ensures.items ∙ ap (λ l. c.args.self.now.messages.items ++ record { label = l; value = c.args.value } ∷ []) c.in_ok-label.ensures))

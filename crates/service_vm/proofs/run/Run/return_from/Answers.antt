use Rattle.std.proofs.Common.{sym, ◌∙◌}
use Rattle.service_vm.proofs.DoingFrames.{closed, return_runs, return_pauses}
use Rattle.service_vm.proofs.run.Run.return_from.Goals as goal

pub returns-then-not-down-clause-does : goal.returns-then-not-down-clause-does
returns-then-not-down-clause-does c program fields known at =
    let self = c.args.self.now in
    let h = closed self.frames c.close.new.self c.args.function.now.result c.requires.caller c.requires.value (λ e. c.close.ensures.without (c.is_some.ensures ∙ e)) (λ e. c.close.ensures.with_value (c.is_some.ensures ∙ e)) in
    return_runs self c.args.function.now c.close.new.self h (sym c.is_down-down.ensures ∙ c.if-not-down.true) program at fields known

pub returns-clause-does : goal.returns-clause-does
returns-clause-does c program fields known at =
    let self = c.args.self.now in
    let h = closed self.frames c.close.new.self c.args.function.now.result c.requires.caller c.requires.value (λ e. c.close.ensures.without (c.is_some.ensures ∙ e)) (λ e. c.close.ensures.with_value (c.is_some.ensures ∙ e)) in
    return_pauses self c.args.function.now c.close.new.self h c.parent_of-self.result (sym c.is_down-down.ensures ∙ c.if-not-down.false) c.parent_of-self.ensures program at fields known

use Rattle.std.proofs.Common.{sym, ap, ◌∙◌}
use Rattle.std.proofs.lemmas.Result.{on_ok_weaker}
use Rattle.resolved_service.specs.Steps.{steps_in}
use Rattle.service_eval.specs.inner.Items as i
use Rattle.service_eval.specs.inner.Items.{Finish, Block}
use Rattle.service_eval.specs.inner.Machines.{on_top, cut_to}
use Rattle.service_eval.specs.inner.Turns.{mach}
use Rattle.service_eval.proofs.LighterTurns.{true_lighter, false_lighter}
use Rattle.service_eval.proofs.FinishLemmas as l
use Rattle.service_eval.proofs.ReadyLemmas.{ready_with, turned}
use Rattle.service_eval.proofs.finish.branch.Goals as goal

pub returns-then-holds : goal.returns-then-holds
returns-then-holds c =
    let m = (mach c.args.code c.args.contexts.now c.args.m.now) in
    let body = steps_in c.args.branches.body.now in
    let other = steps_in c.args.branches.other.now in
    turned c.args.code c.args.contexts.now (Finish c.args.at (i.Branch body other) c.args.base) (λ m. on_top (Block body) (cut_to c.args.base m)) c.args.m.now c.push.new.self c.push.result c.requires
    (l.branch_true c.args.code.methods.now m c.args.at c.args.base body other (sym c.is_true-holds.ensures ∙ c.if-holds.true))
    (ready_with _ _ _ _ _ c.requires (c.requires.items.0.0, c.requires.items.1))
    (on_ok_weaker c.push.result (λ h tree. h tree ∙ ap (on_top (Block body)) (c.cut.ensures tree)) c.push.ensures.ok) c.push.ensures.err (true_lighter c.args.code.methods.now m c.args.at body other c.args.base)

pub returns-else-holds : goal.returns-else-holds
returns-else-holds c =
    let m = (mach c.args.code c.args.contexts.now c.args.m.now) in
    let body = steps_in c.args.branches.body.now in
    let other = steps_in c.args.branches.other.now in
    turned c.args.code c.args.contexts.now (Finish c.args.at (i.Branch body other) c.args.base) (λ m. on_top (Block other) (cut_to c.args.base m)) c.args.m.now c.push-else-holds.new.self c.push-else-holds.result c.requires
    (l.branch_false c.args.code.methods.now m c.args.at c.args.base body other (sym c.is_true-holds.ensures ∙ c.if-holds.false))
    (ready_with _ _ _ _ _ c.requires (c.requires.items.0.1, c.requires.items.1))
    (on_ok_weaker c.push-else-holds.result (λ h tree. h tree ∙ ap (on_top (Block other)) (c.cut.ensures tree)) c.push-else-holds.ensures.ok) c.push-else-holds.ensures.err (false_lighter c.args.code.methods.now m c.args.at body other c.args.base)

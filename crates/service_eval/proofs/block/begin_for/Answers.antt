use Rattle.std.proofs.Common.{◌+◌, ap, ◌∙◌, length}
use Rattle.std.proofs.lemmas.Result.{on_ok_weaker}
use Rattle.resolved_service.specs.Steps as s
use Rattle.resolved_service.specs.Steps.{action_step, step_of, steps_in}
use Rattle.resolved_service.specs.View.{tree_of}
use Rattle.service_eval.specs.inner.Items as i
use Rattle.service_eval.specs.inner.Items.{Eval, Evals, Block, Begin, Finish, Turns, Counts}
use Rattle.service_eval.specs.inner.Machines.{on_top}
use Rattle.service_eval.specs.inner.Turns.{mach}
use Rattle.service_eval.proofs.LighterTurns.{for_lighter}
use Rattle.service_eval.proofs.BlockLemmas as l
use Rattle.service_eval.proofs.BlockTurns.{step_turn}
use Rattle.service_eval.proofs.ReadyLemmas.{ready_with}
use Rattle.service_eval.proofs.block.begin_for.Goals as goal

pub returns-in-Ok : goal.returns-in-Ok
returns-in-Ok c =
    let from = tree_of c.args.from.now in
    let to = tree_of c.args.to.now in
    let body = steps_in c.args.cycle.body.now in
    let at = c.args.cycle.at in
    let n = c.args.cycle.counter in
    step_turn c.args.code c.args.contexts.now c.args.m.now c.push_two.new.self c.push_two.result c.height-base.result (s.For at n from to body)
    (λ h x. on_top (Eval from) (on_top (Finish at (i.SetLocal n) h) (on_top (Eval to) (on_top (Finish at (i.SetLocal (n + 1)) h) (on_top (Counts at n body) x))))) c.height-base.ensures
    (l.for_parts c.args.code.methods.now (mach c.args.code c.args.contexts.now c.args.m.now) at n from to body)
    (ready_with _ _ _ _ _ c.requires (c.requires.items.0.0, (tt, (c.requires.items.0.1, (tt, (c.requires.items.0.2, c.requires.items.1))))))
    (on_ok_weaker c.push_two.result (λ h tree. h tree ∙ ap (λ x. on_top (Eval from) (on_top (Finish at (i.SetLocal n) c.height-base.result) x)) (c.in-Ok.ensures.ok tree)) c.push_two.ensures.ok) c.push_two.ensures.err (for_lighter c.args.code.methods.now (mach c.args.code c.args.contexts.now c.args.m.now) at n from to body (length c.args.m.now.values.items)) c.requires

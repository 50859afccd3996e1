use Rattle.std.proofs.Common.{false, drop, ◌∙◌, take}
use Rattle.std.proofs.lemmas.Result.{on_ok_weaker}
use Rattle.context_tree.specs.Contexts.{tree_of as shown}
use Rattle.service_eval.specs.inner.Items.{Invoke}
use Rattle.service_eval.specs.inner.Machines.{on_top, cut_to, in_world, method_start}
use Rattle.service_eval.specs.inner.Turns.{mach}
use Rattle.service_eval.specs.inner.Traces.{world_of}
use Rattle.service_eval.specs.inner.Weight.{load}
use Rattle.service_eval.proofs.LighterTurns.{invoke_ticked}
use Rattle.service_eval.proofs.CallLemmas as l
use Rattle.service_eval.proofs.CallTurns.{ticked, ready_invoked}
use Rattle.service_eval.proofs.ReadyLemmas.{turned_to}
use Rattle.service_eval.proofs.calls.invoke.Goals as goal

pub returns-in-Err : goal.returns-in-Err
returns-in-Err c =
    (l.no_tick c.args.code.methods.now (mach c.args.code c.args.contexts.now c.args.m.now) c.args.at c.args.method c.args.base c.in-Err.e _ (c.in-Err.ensures.changes (shown c.args.code.shape.now c.args.contexts.now)), c.requires.next.holds)

pub returns-in-Ok-take_all : goal.returns-in-Ok-take_all
returns-in-Ok-take_all c =
    let T = shown c.args.code.shape.now c.args.contexts.now in
    let m = mach c.args.code c.args.contexts.now c.args.m.now in
    let w = world_of T c.tick.new.self in
    turned_to c.args.code c.args.contexts.now (on_top (Invoke c.args.at c.args.method c.args.base) m) (method_start c.method_at.result.now (drop c.args.base m.values) false (cut_to c.args.base (in_world w m))) c.start.new.m c.start.result
    (l.invoked c.args.code.methods.now m c.args.at c.requires.next.few c.method_at.result.now c.args.method c.args.base w (c.in-Ok.ensures.changes T) c.method_at.ensures)
    (ready_invoked c.args.code.shape.now c.args.code.methods.now c.requires.methods m c.args.method c.method_at.result.now c.method_at.ensures c.args.at c.args.base w c.requires.next (c.in-Ok.ensures.changes T))
    c.requires.next.holds
    (on_ok_weaker c.start.result (λ h. h T ∙ (λ i. method_start c.method_at.result.now (c.in-Ok-take_all.ensures.values i) false (c.in-Ok-take_all.ensures.rest T i))) c.start.ensures.ok) c.start.ensures.err
    (load c.args.code.methods.now (on_top (Invoke c.args.at c.args.method c.args.base) m))
    (invoke_ticked c.args.code.methods.now m (record { locals = m.state.locals; world = w }) (take c.args.base m.values) (ticked m.state.world w (c.in-Ok.ensures.changes T)).0 m.path c.args.method c.method_at.result.now (drop c.args.base m.values) false c.method_at.ensures c.args.at c.args.base)

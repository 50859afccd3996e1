use Rattle.std.proofs.Common.{◌≡◌, ◌+◌, ◌<◌, get_or, slice_set, sym, ap, subst, ◌∙◌}
use Rattle.context_tree.specs.Contexts.{tree_of as shown}
use Rattle.wave_base.specs.declared.value.Value.{Value}
use Rattle.resolved_service.specs.Meaning.{State}
use Rattle.resolved_service.specs.Steps.{steps_in}
use Rattle.resolved_service.specs.World.{nothing}
use Rattle.service_eval.specs.inner.Items.{Block, Counts, Again}
use Rattle.service_eval.specs.inner.Machines.{Mach, on_top, in_state, comes_to}
use Rattle.service_eval.specs.inner.Ready.{Ready}
use Rattle.service_eval.specs.inner.Turns.{mach}
use Rattle.service_eval.specs.inner.Traces.{world_of}
use Rattle.service_eval.specs.inner.Weight.{load}
use Rattle.service_eval.proofs.CallTurns.{ticked}
use Rattle.service_eval.proofs.LighterTurns.{counts_ticked}
use Rattle.service_eval.proofs.FinishLemmas as l
use Rattle.service_eval.proofs.FinishTurns.{same_ticked, ready_in}
use Rattle.service_eval.proofs.loops.name_turn.Goals as goal

pub returns-in-Err : goal.returns-in-Err
returns-in-Err c =
    (l.counts_fails c.args.code.methods.now (mach c.args.code c.args.contexts.now c.args.m.now) c.args.cycle.at c.args.cycle.counter (steps_in c.args.cycle.body.now) c.requires.next.few c.args.value c.requires.test c.in-Err.e _ c.requires.holds (c.in-Err.ensures.changes (shown c.args.code.shape.now c.args.contexts.now)), c.requires.next.holds)

pub returns-in-Ok-into_value : goal.returns-in-Ok-into_value
returns-in-Ok-into_value c =
    let code = c.args.code in
    let T = shown code.shape.now c.args.contexts.now in
    let w = world_of T c.tick.new.self in
    let m = mach code c.args.contexts.now c.args.m.now in
    let at = c.args.cycle.at in
    let counter = c.args.cycle.counter in
    let body = steps_in c.args.cycle.body.now in
    let st : State = record { locals = slice_set m.state.locals (counter + 2) (get_or m.state.locals counter nothing); world = w } in
    let number : c.in-Ok-into_value.number ≡ get_or m.state.locals counter nothing = c.in-Ok-into_value.ensures.equal ∙ c.item.ensures ∙ ap (λ vs. get_or vs counter nothing) c.as_slice.ensures.value in
    let is = c.set_local.ensures T ∙ ap (λ (v : Value). in_state (record { locals = slice_set m.state.locals (counter + 2) v; world = w }) m) number in (
      l.counts_more code.methods.now m at counter body c.requires.next.few c.args.value c.requires.test w c.requires.holds (c.in-Ok.ensures.changes T)
          ∙ ap (λ (x : Mach). comes_to code.methods.now (on_top (Block body) (on_top (Again at counter body) x))) (sym is),
      subst (λ (x : Mach). Ready code.shape.now code.methods.now (on_top (Block body) (on_top (Again at counter body) x))) (sym is)
          (ready_in _ _ m _ _ _ _ c.requires.next (c.requires.next.items.0, (c.requires.next.items.0, c.requires.next.items.1)) (same_ticked m.state.world w (c.in-Ok.ensures.changes T))),
      subst (λ (x : Mach). load code.methods.now (on_top (Block body) (on_top (Again at counter body) x)) < load code.methods.now (on_top (Counts at counter body) m)) (sym is)
          (counts_ticked code.methods.now m st m.values (ticked m.state.world w (c.in-Ok.ensures.changes T)).0 at counter body),
    )

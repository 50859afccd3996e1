use Rattle.std.proofs.Common.{refl, sym, ap, subst}
use Rattle.resolved_service.specs.Steps.{steps_in}
use Rattle.service_eval.specs.inner.Items.{Block}
use Rattle.service_eval.specs.inner.Machines.{on_top, comes_to}
use Rattle.service_eval.specs.inner.Ready.{Ready, Turned}
use Rattle.service_eval.specs.inner.Turns.{mach}
use Rattle.service_eval.proofs.LighterTurns.{block_done}
use Rattle.service_eval.proofs.ReadyLemmas.{ready_with}
use Rattle.service_eval.proofs.block.begin_rest.Goals as goal

pub returns-in-None : goal.returns-in-None
returns-in-None c =
    let M = mach c.args.code c.args.contexts.now c.args.m.now in (
      ap (λ ss. comes_to c.args.code.methods.now (on_top (Block (steps_in ss)) M)) (c.in-None.ensures.none refl),
      ready_with _ _ _ _ _ c.requires c.requires.items.1,
      block_done c.args.code.methods.now M (steps_in c.args.rest.now),
    )

pub begin_first-requires : goal.begin_first-requires
begin_first-requires c =
    let code = c.args.code in
    let M = mach code c.args.contexts.now c.args.m.now in
    subst (λ ss. Ready code.shape.now code.methods.now (on_top (Block (steps_in ss)) M)) c.in-Some.ensures.some c.requires

pub returns-in-Some : goal.returns-in-Some
returns-in-Some c =
    let code = c.args.code in
    let M = mach code c.args.contexts.now c.args.m.now in
    subst (λ ss. Turned code.shape.now code.methods.now (on_top (Block (steps_in ss)) M) c.begin_first.result (mach code c.begin_first.new.contexts c.begin_first.new.m)) (sym c.in-Some.ensures.some) c.begin_first.ensures

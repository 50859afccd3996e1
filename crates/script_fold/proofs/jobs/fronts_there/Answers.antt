use Rattle.std.proofs.Common.{◌++◌, ◌∷◌, [], ◌∙◌, ◌<◌, ◌≡◌, List, get_or, length, sym, ap, arith}
use Rattle.std.proofs.lemmas.Option.{get_or_from_slice_get}
use Rattle.context_tree.specs.Contexts.{is_there}
use Rattle.wave_base.specs.declared.path.Step.{Step}
use Rattle.wave_base.proofs.Kept.{no_step}
use Rattle.script_fold.proofs.FrontLemmas.{fronts_more, front_turn}
use Rattle.script_fold.proofs.jobs.fronts_there.Goals as goal

pub loop-i-preserved : goal.loop-i-preserved
loop-i-preserved c =
    let p : List Step = c.args.path.now in
    let i = c.loop-i.i in
    let below : i < length p = omega (arith, c.loop-i-test.true, c.len-i-end.ensures.len) in
    let step : c.unwrap.result ≡ get_or p i no_step = sym (get_or_from_slice_get p i c.unwrap.result no_step (sym c.step.ensures ∙ c.unwrap.ensures)) in
    record {
      front_is = front_turn p i no_step c.loop-i.front c.child-front.result below c.loop-i.invariant.front_is (c.child-front.ensures ∙ ap (λ s. c.loop-i.front ++ s ∷ []) step);
      so_far = fronts_more (is_there c.args.contexts.now) c.loop-i.front c.child-front.result _ c.loop-i.entered.items c.push_there-in-loop-i.new.entered.items c.child-front.ensures c.loop-i.invariant.so_far c.in_ok-push_there-2.ensures;
    }

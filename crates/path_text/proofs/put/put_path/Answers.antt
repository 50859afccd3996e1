use Rattle.std.proofs.Common.{◌++◌, ◌∙◌, ◌<◌, ◌≡◌, List, get_or, length, map, sym, ap, subst, All, FitsSigned, w64, arith}
use Rattle.std.proofs.lemmas.List.Elements.{All-more}
use Rattle.std.proofs.lemmas.List.{take_all}
use Rattle.std.proofs.lemmas.Option.{get_or_from_slice_get}
use Rattle.wave_base.specs.declared.path.Step.{Step}
use Rattle.wave_base.proofs.Kept.{no_step}
use Rattle.path_text.specs.PathTexts.{written_step}
use Rattle.path_text.specs.Steps.{steps_text, step_text}
use Rattle.path_text.proofs.PutLemmas.{step_put}
use Rattle.path_text.proofs.put.put_path.Goals as goal

pub loop-i-preserved : goal.loop-i-preserved
loop-i-preserved c =
    let p : List Step = c.args.path.now in
    let i = c.loop-i.i in
    let below : i < length p = omega (arith, c.loop-i-test.true, c.len-i-end.ensures.len) in
    let step : get_or p i no_step ≡ c.unwrap-step.result = get_or_from_slice_get p i c.unwrap-step.result no_step (sym c.step.ensures ∙ c.unwrap-step.ensures) in
    let put = c.in_ok-put_step.ensures.text ∙ ap (λ s. c.loop-i.out.items ++ step_text (written_step c.args.shape.now s)) (sym step) in
    record {
      text = step_put c.args.shape.now c.loop-i.out.items c.put_step.new.out.items (c.args.out.now.items ++ steps_text (map (written_step c.args.shape.now) p)) p i no_step below put c.loop-i.invariant.text;
      keys = All-more (λ (s : Step). FitsSigned w64 s.key) p i no_step below c.loop-i.invariant.keys (subst (λ (s : Step). FitsSigned w64 s.key) (sym step) c.in_ok-put_step.ensures.key);
    }

pub returns-clause-keys : goal.returns-clause-keys
returns-clause-keys c =
    subst (All (λ (s : Step). FitsSigned w64 s.key)) (take_all c.loop-i.i c.args.path.now (omega (arith, c.loop-i-test.false, c.len-i-end.ensures.len))) c.loop-i.invariant.keys

use Rattle.std.proofs.Common.{◌∙◌, ◌<◌, ◌≡◌, List, get_or, length, sym, subst, All, FitsSigned, w64, rules, arith}
use Rattle.std.proofs.lemmas.List.{take_all}
use Rattle.std.proofs.lemmas.List.Elements.{All-more}
use Rattle.std.proofs.lemmas.Option.{get_or_from_slice_get}
use Rattle.wave_base.specs.declared.path.Step.{Step}
use Rattle.wave_base.proofs.Kept.{no_step}
use Rattle.snapshot_text.proofs.fits.keys_fit.Goals as goal

pub loop-i-preserved : goal.loop-i-preserved
loop-i-preserved c =
    let p : List Step = c.args.path.now in
    let i = c.loop-i.i in
    let below : i < length p = omega (arith, c.loop-i-test.true, c.len-i-end.ensures.len) in
    let step : get_or p i no_step ≡ c.unwrap-key.result = get_or_from_slice_get p i c.unwrap-key.result no_step (sym c.step.ensures ∙ c.unwrap-key.ensures) in
    let fits : FitsSigned w64 c.unwrap-key.result.key = search rules in
    All-more (λ (s : Step). FitsSigned w64 s.key) p i no_step below c.loop-i.invariant (subst (λ (s : Step). FitsSigned w64 s.key) (sym step) fits)

pub returns : goal.returns
returns c = record {
  short = c.len-i-end.ensures.short;
  keys = subst (All (λ (s : Step). FitsSigned w64 s.key)) (take_all c.loop-i.i c.args.path.now (omega (arith, c.loop-i-test.false, c.len-i-end.ensures.len))) c.loop-i.invariant;
}

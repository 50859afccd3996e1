use Rattle.std.proofs.Common.{All, List, subst, ◌∙◌, ap}
use Rattle.std.proofs.lemmas.List.{take_all}
use Rattle.std.proofs.lemmas.List.Elements.{All-more}
use Rattle.wave_base.specs.declared.shot.Shot.{Shot}
use Rattle.wave_base.specs.declared.value.Value.{Value}
use Rattle.path_text.specs.Found.{HasKeys}
use Rattle.snapshot_text.specs.Shots.{IsValue}
use Rattle.snapshot_text.proofs.fits.values_fit.Goals as goal

abbrev HasValues : Shot → Type 0
HasValues s = All IsValue s.fields

abbrev AreKeys : Shot → Type 0
AreKeys s = HasKeys s.path

pub loop-shot-preserved : goal.loop-shot-preserved
loop-shot-preserved c =
    let values = subst (All IsValue) c.as_slice.ensures c.fields_fit.ensures in
    record {
      values = All-more HasValues c.args.shots.now c.loop-shot.shot-index c.shot-item.result c.loop-shot-test.true c.loop-shot.invariant.values (subst HasValues c.shot-item.is values);
      keys = All-more AreKeys c.args.shots.now c.loop-shot.shot-index c.shot-item.result c.loop-shot-test.true c.loop-shot.invariant.keys (subst AreKeys c.shot-item.is c.keys_fit.ensures);
    }

pub returns-clause-values : goal.returns-clause-values
returns-clause-values c = subst (All HasValues) (take_all c.loop-shot.shot-index c.args.shots.now c.loop-shot-test.false) c.loop-shot.invariant.values

pub returns-clause-keys : goal.returns-clause-keys
returns-clause-keys c = subst (All AreKeys) (take_all c.loop-shot.shot-index c.args.shots.now c.loop-shot-test.false) c.loop-shot.invariant.keys

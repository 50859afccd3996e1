use Rattle.std.proofs.Common.{All, subst}
use Rattle.std.proofs.lemmas.List.{take_all}
use Rattle.std.proofs.lemmas.List.Elements.{All-more}
use Rattle.snapshot_text.specs.Shots.{IsValue}
use Rattle.snapshot_text.proofs.fits.fields_fit.Goals as goal

pub loop-value-preserved : goal.loop-value-preserved
loop-value-preserved c =
    All-more IsValue c.args.values.now c.loop-value.value-index c.value-item.result c.loop-value-test.true c.loop-value.invariant (subst IsValue c.value-item.is c.value_fits.ensures)

pub returns : goal.returns
returns c = subst (All IsValue) (take_all c.loop-value.value-index c.args.values.now c.loop-value-test.false) c.loop-value.invariant

use Rattle.std.proofs.Common.{All, take}
use Rattle.snapshot_text.specs.Shots.{IsValue}
use Rattle.snapshot_text.proofs.fits.fields_fit.Given as goal

abbrev pub invariant-loop-value : goal.invariant-loop-value
invariant-loop-value l = All IsValue (take l.value-index l.values)

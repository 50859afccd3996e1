use Rattle.std.proofs.Common.{All, take}
use Rattle.wave_base.specs.declared.shot.Shot.{Shot}
use Rattle.path_text.specs.Found.{HasKeys}
use Rattle.snapshot_text.specs.Shots.{IsValue}
use Rattle.snapshot_text.proofs.fits.values_fit.Given as goal

abbrev pub invariant-loop-shot : goal.invariant-loop-shot
invariant-loop-shot l = record {
  values : All (λ (s : Shot). All IsValue s.fields) (take l.shot-index l.shots);
  keys : All (λ (s : Shot). HasKeys s.path) (take l.shot-index l.shots);
}

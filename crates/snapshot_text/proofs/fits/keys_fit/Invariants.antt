use Rattle.std.proofs.Common.{All, FitsSigned, w64, take}
use Rattle.wave_base.specs.declared.path.Step.{Step}
use Rattle.snapshot_text.proofs.fits.keys_fit.Given as goal

abbrev pub invariant-loop-i : goal.invariant-loop-i
invariant-loop-i l = All (λ (s : Step). FitsSigned w64 s.key) (take l.i l.path)

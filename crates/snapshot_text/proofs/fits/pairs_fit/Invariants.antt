use Rattle.std.proofs.Common.{ℤ, All, FitsSigned, w64, take}
use Rattle.snapshot_text.proofs.fits.pairs_fit.Given as goal

abbrev pub invariant-loop-pair : goal.invariant-loop-pair
invariant-loop-pair l = All (λ (p : ℤ × ℤ). FitsSigned w64 p.0 × FitsSigned w64 p.1) (take l.pair-index l.pairs)

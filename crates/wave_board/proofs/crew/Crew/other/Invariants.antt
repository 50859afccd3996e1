use Rattle.std.proofs.Common.{◌≢◌, ◌<◌, ℕ, Some, slice_get}
use Rattle.wave_board.proofs.crew.Crew.other.Given as goal

abbrev pub invariant-loop-number : goal.invariant-loop-number
invariant-loop-number l = (j : ℕ) → j < l.number → j ≢ l.fn.worker.0 → slice_get l.fn.self.seats j ≢ Some l.fn.seat

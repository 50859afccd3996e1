use Rattle.std.proofs.Common.{◌≡◌, ◌<◌, ℕ, take, get_or, length}
use Rattle.std.specs.List.{zip}
use Rattle.elastic_policy.specs.Moves.{load_on}
use Rattle.elastic_policy.proofs.sums.sums_of.Given as goal

abbrev pub invariant-loop-i : goal.invariant-loop-i
invariant-loop-i l = record {
  long : length l.sums ≡ 8;
  so_far : (h : ℕ) → h < 8 → get_or l.sums h 0 ≡ load_on (take l.i (zip l.places l.loads)) h;
}

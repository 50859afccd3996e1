use Rattle.std.proofs.Common.{◌≡◌, ◌<◌, ◌-◌, ℕ, ◌++◌, get_or, length}
use Rattle.std.specs.List.{zip}
use Rattle.elastic_policy.specs.Moves.{load_on, balance}
use Rattle.elastic_policy.specs.inner.Turns.{under_way}
use Rattle.elastic_policy.proofs.plan.balance_among.Given as goal

abbrev pub invariant-loop-turn : goal.invariant-loop-turn
invariant-loop-turn l = record {
  long : length l.at.items ≡ length l.places;
  eight : length l.sums ≡ 8;
  sums : (h : ℕ) → h < 8 → get_or l.sums h 0 ≡ load_on (under_way l.places l.at.items l.loads) h;
  rest : balance l.hosts l.most (zip l.places l.loads) ≡ l.moves ++ balance l.hosts (l.most - l._turn) (under_way l.places l.at.items l.loads);
}

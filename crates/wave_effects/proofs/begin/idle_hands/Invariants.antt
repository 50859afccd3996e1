use Rattle.std.proofs.Common.{◌≡◌, length, None}
use Rattle.std.specs.Prelude.{All}
use Rattle.wave_effects.proofs.begin.idle_hands.Given as goal

abbrev pub invariant-loop-worker : goal.invariant-loop-worker
invariant-loop-worker l = record { count : length l.hands.items ≡ l.worker; idle : All (λ o. o ≡ None) l.hands.items }

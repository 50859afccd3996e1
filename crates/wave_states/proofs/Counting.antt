-- The counter owes what an actor owes.
use Rattle.std.proofs.Common.{ℕ, zero, suc, [], refl, sym}
use Rattle.std.specs.List.{AllByRecursion}
use Rattle.std.proofs.lemmas.List.Elements.{All-from_recursion}
use mathlib.Core.Bool.{true≢false}
use Rattle.wave_states.specs.Alone.{after_segments}
use Rattle.wave_states.specs.Counter.{zeros, counter_kind}
use Rattle.wave_states.specs.Owes.{Owes}

are_jobs : (n : ℕ) → AllByRecursion counter_kind.is_job (zeros n)
are_jobs zero = tt
are_jobs (suc n) = (tt, are_jobs n)

pub counter_owes : Owes counter_kind
unfolding after_segments
counter_owes = record {
  initial = λ p. tt;
  first = λ j t h. tt;
  kept = λ a p n f cs h k. tt;
  keeps = λ a p n f cs h k. (All-from_recursion counter_kind.is_job (zeros a) (are_jobs a), tt);
  looks = λ a p n f cs h k e. absurd (true≢false (sym e));
  ends = λ j t tree h k o. ((suc (tree.fields []), j), refl);
}

-- Segments one after the other.
use Rattle.std.proofs.Common.{◌≡◌, ℕ, zero, suc, ◌+◌, Some, refl, sym, ◌∙◌, ap}
use Rattle.std.proofs.Common.{arith}
use Rattle.wave_states.specs.Actors.{Actors}
use Rattle.wave_states.specs.Alone.{Alone, next_alone, segment_if, after_segments}

module _ {A F R J : Type 0} (sys : Actors A F R J) where
  pub after_none : (x : Alone A F R) → after_segments sys 0 x ≡ x
  unfolding after_segments
  after_none x = refl

  -- the first one first
  pub after_first : (k : ℕ) (x : Alone A F R) → after_segments sys (suc k) x ≡ after_segments sys k (next_alone sys x)
  unfolding after_segments
  after_first zero x = refl
  after_first (suc k) x = ap (next_alone sys) (after_first k x)

  pub after_both : (m k : ℕ) (x : Alone A F R) → after_segments sys (m + k) x ≡ after_segments sys k (after_segments sys m x)
  after_both zero k x = ap (λ n. after_segments sys n x) (let z : 0 + k ≡ k = omega arith in z) ∙ ap (after_segments sys k) (sym (after_none x))
  after_both (suc m) k x = ap (λ n. after_segments sys n x) (let z : suc m + k ≡ suc (m + k) = omega arith in z) ∙ after_first (m + k) x ∙ after_both m k (next_alone sys x) ∙ ap (after_segments sys k) (sym (after_first m x))

  -- once over, it stays
  pub after_over : (k : ℕ) (x : Alone A F R) (r : R) → x.result ≡ Some r → (after_segments sys k x).result ≡ Some r
  after_over zero x r e = ap (λ (y : Alone A F R). y.result) (after_none x) ∙ e
  after_over (suc k) x r e = ap (λ (y : Alone A F R). y.result) (after_first k x) ∙ after_over k (next_alone sys x) r (ap (λ (y : Alone A F R). y.result) (ap (segment_if sys x) e) ∙ e)

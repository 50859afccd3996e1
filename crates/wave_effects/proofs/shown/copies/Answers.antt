use Rattle.std.proofs.Common.{◌≡◌, ◌∙◌, ◌+◌, ◌⊎◌, inl, inr, ℕ, Some, length, sym, ap, subst, arith}
use Rattle.std.specs.Prelude.{slice_get}
use Rattle.wave_base.specs.declared.shown.Shown.{Shown}
use Rattle.wave_effects.specs.inner.Lines.{IsKept}
use Rattle.wave_effects.proofs.Pushing.{at_push}
use Rattle.wave_effects.proofs.shown.copies.Goals as goal

pub loop-i-preserved : goal.loop-i-preserved
loop-i-preserved c = record {
  count = omega (arith, c.in_ok-push.ensures.len, c.loop-i.invariant.count);
  each = λ k y e. by_place k y (at_push c.loop-i.shown.items c.in_ok-x.x k y (ap (λ xs. slice_get xs k) (sym c.in_ok-push.ensures.items) ∙ e));
}
  where
    by_place : (k : ℕ) (y : Shown) → (slice_get c.loop-i.shown.items k ≡ Some y) ⊎ ((k ≡ length c.loop-i.shown.items) × (y ≡ c.in_ok-x.x)) → IsKept c.args.settled.now.items c.args.kinds.now (c.args.from + k) y
    by_place k y (inl old) = c.loop-i.invariant.each k y old
    by_place k y (inr new) = subst (IsKept c.args.settled.now.items c.args.kinds.now (c.args.from + k)) (sym new.1) (subst (λ n. IsKept c.args.settled.now.items c.args.kinds.now (c.args.from + n) c.in_ok-x.x) (sym (new.0 ∙ c.loop-i.invariant.count)) c.in_ok-x.ensures)

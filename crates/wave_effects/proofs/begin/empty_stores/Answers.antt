use Rattle.std.proofs.Common.{sym, subst, arith}
use Rattle.wave_effects.specs.inner.Beginnings.{AreAt, no_column}
use Rattle.wave_effects.proofs.Stocking.{empty_pushed}
use Rattle.wave_effects.proofs.begin.empty_stores.Goals as goal

pub loop-host-preserved : goal.loop-host-preserved
loop-host-preserved c = record {
  count = omega (arith, c.in_ok-push.ensures.len, c.loop-host.invariant.count);
  empty = subst (λ xs. AreAt xs (λ p. no_column)) (sym c.in_ok-push.ensures.items) (empty_pushed c.loop-host.stores.items c.new.result c.loop-host.invariant.empty c.new.ensures.store c.new.ensures.gone);
}

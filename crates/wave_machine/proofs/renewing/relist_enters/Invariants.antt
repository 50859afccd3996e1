use Rattle.std.proofs.Common.{◌≡◌, ◌≤◌, ◌<◌, ◌+◌, true, drop, vec_len, vec_capacity}
use Rattle.wave_effects.specs.Keeping.{kept_of}
use Rattle.wave_machine.specs.inner.Index.{Renews, is_enter, mail_at, weight_of}
use Rattle.wave_machine.proofs.renewing.relist_enters.Given as goal

abbrev pub invariant-loop-i : goal.invariant-loop-i
invariant-loop-i l = record {
  renews : Renews (kept_of l.fn.engine) (λ u j. (u < l.fn.engine.first + l.i) × (is_enter l.fn.host.0 l.fn.path (mail_at (kept_of l.fn.engine) u j) ≡ true)) l.fn.index.items l.index.items;
  len : vec_len l.index + weight_of (drop l.i l.fn.engine.cells.items) ≤ vec_len l.fn.index + weight_of l.fn.engine.cells.items;
  capacity : vec_capacity l.index ≡ vec_capacity l.fn.index;
}

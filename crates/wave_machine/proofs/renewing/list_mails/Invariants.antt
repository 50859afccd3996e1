use Rattle.std.proofs.Common.{◌≡◌, ◌≤◌, ◌<◌, ◌+◌, ℕ, Some, take, vec_len, vec_capacity}
use Rattle.std.specs.Prelude.{flat_map}
use Rattle.std.specs.List.{AllByRecursion}
use Rattle.wave_machine.specs.inner.Asking.{mail_labels}
use Rattle.wave_machine.specs.inner.Index.{Lists}
use Rattle.wave_machine.proofs.renewing.list_mails.Given as goal

abbrev pub invariant-loop-mail : goal.invariant-loop-mail
invariant-loop-mail l = record {
  lists : (low : ℕ) → AllByRecursion (λ m. low < m.0) l.mails → Lists l.ticket.0 (low + 1) l.fn.index.items l.index.items (flat_map (λ m. mail_labels l.engine.stores.items 0 l.ticket.0 m.0 (Some m.1)) (take l.mail-index l.mails));
  len : vec_len l.index ≤ vec_len l.fn.index + l.mail-index;
  capacity : vec_capacity l.index ≡ vec_capacity l.fn.index;
}

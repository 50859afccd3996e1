use Rattle.std.proofs.Common.{◌≡◌, ◌≤◌, ◌+◌, vec_len, vec_capacity}
use Rattle.wave_effects.specs.Keeping.{kept_of}
use Rattle.wave_machine.specs.inner.Index.{IsAmong, Renews}
use Rattle.wave_machine.proofs.renewing.relist_entering.Given as goal

abbrev pub invariant-loop-mail : goal.invariant-loop-mail
invariant-loop-mail l = record {
  renews : Renews (kept_of l.engine) (λ u j. (u ≡ l.ticket.0) × IsAmong l.host.0 l.path l.mails l.mail-index j) l.fn.index.items l.index.items;
  len : vec_len l.index ≤ vec_len l.fn.index + l.mail-index;
  capacity : vec_capacity l.index ≡ vec_capacity l.fn.index;
}

use Rattle.std.proofs.Common.{◌≤◌, List, Option, ℕ}
use Rattle.kept_lock.specs.Locks.{name_of, knowledge, IsPassOf}
use Rattle.host_workers.specs.inner.Rounds.{Brings}
use Rattle.host_workers.specs.inner.Writing.{AreCommitted, AreWritten}
use Rattle.host_workers.proofs.writer.write_on.Given as goal

abbrev pub invariant-loop : goal.invariant-loop
invariant-loop g l = record {
  of_lock : IsPassOf l.post.lock.now l.pass;
  brings : Brings (name_of l.post.lock.now) (knowledge l.pass) l.post.number l.packet;
  committed : AreCommitted (name_of l.post.lock.now) (knowledge l.pass) l.written;
  lines : (first : Option (List ℕ)) → AreWritten (name_of l.post.lock.now) l.fn.begun.written first (g.K.Sink.written l.fn.out) → AreWritten (name_of l.post.lock.now) l.written first (g.K.Sink.written l.out);
  later : g.K.Sink.faults l.fn.out ≤ g.K.Sink.faults l.out;
}

use Rattle.std.proofs.Common.{◌≤◌}
use Rattle.kept_lock.specs.Locks.{name_of, knowledge, IsPassOf}
use Rattle.host_workers.specs.inner.Rounds.{Brings}
use Rattle.host_workers.specs.inner.Writing.{AreCommitted, AreWritten}
use Rattle.host_workers.proofs.writer.write_alone.Given as goal

abbrev pub invariant-loop : goal.invariant-loop
invariant-loop g l = record {
  of_lock : IsPassOf l.post.lock.now l.pass;
  brings : Brings (name_of l.post.lock.now) (knowledge l.pass) l.post.number l.packet;
  committed : AreCommitted (name_of l.post.lock.now) (knowledge l.pass) l.written;
  lines : AreWritten (name_of l.post.lock.now) l.written (g.K.Sink.written l.fn.out) (g.K.Sink.written l.out);
  later : g.K.Sink.faults l.fn.out ≤ g.K.Sink.faults l.out;
}

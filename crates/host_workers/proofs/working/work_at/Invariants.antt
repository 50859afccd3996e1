use Rattle.kept_lock.specs.Locks.{name_of, knowledge, IsPassOf}
use Rattle.host_workers.specs.inner.Rounds.{Brings}
use Rattle.host_workers.proofs.working.work_at.Given as goal

abbrev pub invariant-loop : goal.invariant-loop
invariant-loop g l = IsPassOf l.post.lock.now l.pass × Brings (name_of l.post.lock.now) (knowledge l.pass) l.post.number l.packet

use Rattle.std.proofs.Common.{◌∙◌, arith}
use Rattle.kept_lock.specs.Locks.{name_of, knowledge}
use Rattle.host_workers.proofs.Writing.{goes_further, none_committed, none_written, rose_since, run_front, run_whole, still_committed}
use Rattle.host_workers.proofs.writer.write_alone.Goals as goal

pub loop-init : goal.loop-init
loop-init g c = record {
  of_lock = c.requires.of_lock;
  brings = c.requires.ready;
  committed = none_committed (name_of c.args.post.now.lock.now) (knowledge c.args.pass.now);
  lines = none_written (name_of c.args.post.now.lock.now) _;
  later = omega arith;
}

pub follow-requires-clause-committed : goal.follow-requires-clause-committed
follow-requires-clause-committed g c = still_committed _ (knowledge c.loop.pass) _ _ c.visit-offer.ensures.on c.loop.invariant.committed

pub returns-then-more-clause-begun : goal.returns-then-more-clause-begun
returns-then-more-clause-begun g c = record {
  stands = record { offered = c.visit-offer.ensures.offered; committed = still_committed _ (knowledge c.loop.pass) _ _ c.visit-offer.ensures.on c.loop.invariant.committed };
  written = c.loop.invariant.lines;
}

pub loop-preserved : goal.loop-preserved
loop-preserved g c =
    let h = c.in-Ok.ensures.written in
    let later = c.in-Ok.ensures.later in
    record {
      of_lock = c.in-Ok.ensures.of_lock;
      brings = h.0;
      committed = h.1;
      lines = goes_further (name_of c.args.post.now.lock.now) c.loop.written _ _ c.loop.invariant.lines _ _ h.2;
      later = omega (arith, c.loop.invariant.later, later);
    }

pub returns-in-Err-clause-ended : goal.returns-in-Err-clause-ended
returns-in-Err-clause-ended g c =
    let later = c.in-Err.ensures.later in
    let h = c.in-Err.ensures.written in
    let origin = name_of c.args.post.now.lock.now in
    let pass = knowledge c.follow.new.pass in
    record {
      number = h.0 ∙ c.requires.post.writes;
      ended = h.1;
      whole = λ over. run_whole origin pass c.args.post.now.number c.loop.written c.args.post.now.plan.now c.requires.post.plan_is _ _ _ c.loop.invariant.lines _ _ c.in-Err.ending h over;
      front = run_front origin pass c.args.post.now.number c.loop.written c.args.post.now.plan.now c.requires.post.plan_is _ _ _ c.loop.invariant.lines _ _ c.in-Err.ending h;
      fault = λ sink. rose_since _ _ _ c.loop.invariant.later (h.4 sink);
      later = omega (arith, c.loop.invariant.later, later);
    }

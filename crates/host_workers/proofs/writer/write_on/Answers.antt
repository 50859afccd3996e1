use Rattle.std.proofs.Common.{◌∙◌, arith}
use Rattle.kept_lock.specs.Locks.{name_of, knowledge}
use Rattle.host_workers.proofs.Writing.{goes_further, rose_since, run_front, run_whole}
use Rattle.host_workers.proofs.writer.write_on.Goals as goal

pub follow-requires-clause-offered : goal.follow-requires-clause-offered
follow-requires-clause-offered g c = c.requires.stands.offered

pub follow-requires-clause-committed : goal.follow-requires-clause-committed
follow-requires-clause-committed g c = c.requires.stands.committed

pub loop-init : goal.loop-init
loop-init g c =
    let h = c.in-Ok.ensures.written in
    record {
      of_lock = c.in-Ok.ensures.of_lock;
      brings = h.0;
      committed = h.1;
      lines = λ first before. goes_further (name_of c.args.post.now.lock.now) c.args.begun.written first _ before _ _ h.2;
      later = c.in-Ok.ensures.later;
    }

pub returns-in-Err-clause-ended : goal.returns-in-Err-clause-ended
returns-in-Err-clause-ended g c =
    let h = c.in-Err.ensures.written in
    let origin = name_of c.args.post.now.lock.now in
    let pass = knowledge c.follow.new.pass in
    λ first before. record {
      number = h.0 ∙ c.requires.post.writes;
      ended = h.1;
      whole = λ over. run_whole origin pass c.args.post.now.number c.args.begun.written c.args.post.now.plan.now c.requires.post.plan_is first _ _ before _ _ c.in-Err.ending h over;
      front = run_front origin pass c.args.post.now.number c.args.begun.written c.args.post.now.plan.now c.requires.post.plan_is first _ _ before _ _ c.in-Err.ending h;
      fault = h.4;
      later = c.in-Err.ensures.later;
    }

pub loop-preserved : goal.loop-preserved
loop-preserved g c =
    let h = c.in-Ok-follow.ensures.written in
    let later = c.in-Ok-follow.ensures.later in
    record {
      of_lock = c.in-Ok-follow.ensures.of_lock;
      brings = h.0;
      committed = h.1;
      lines = λ first before. goes_further (name_of c.args.post.now.lock.now) c.loop.written first _ (c.loop.invariant.lines first before) _ _ h.2;
      later = omega (arith, c.loop.invariant.later, later);
    }

pub returns-in-Err-follow-clause-ended : goal.returns-in-Err-follow-clause-ended
returns-in-Err-follow-clause-ended g c =
    let later = c.in-Err-follow.ensures.later in
    let h = c.in-Err-follow.ensures.written in
    let origin = name_of c.args.post.now.lock.now in
    let pass = knowledge c.follow-in-loop.new.pass in
    λ first before. record {
      number = h.0 ∙ c.requires.post.writes;
      ended = h.1;
      whole = λ over. run_whole origin pass c.args.post.now.number c.loop.written c.args.post.now.plan.now c.requires.post.plan_is first _ _ (c.loop.invariant.lines first before) _ _ c.in-Err-follow.ending h over;
      front = run_front origin pass c.args.post.now.number c.loop.written c.args.post.now.plan.now c.requires.post.plan_is first _ _ (c.loop.invariant.lines first before) _ _ c.in-Err-follow.ending h;
      fault = λ sink. rose_since _ _ _ c.loop.invariant.later (h.4 sink);
      later = omega (arith, c.loop.invariant.later, later);
    }

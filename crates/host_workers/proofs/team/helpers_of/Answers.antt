use Rattle.std.proofs.Common.{ap, arith}
use Rattle.kept_lock.specs.Locks.{name_of, knowledge}
use Rattle.wave_effects.specs.declared.plan.Plan.{Plan}
use Rattle.host_workers.proofs.Teams.{next_ready, split_counts, split_ready}
use Rattle.host_workers.proofs.team.helpers_of.Goals as goal

pub loop-number-init : goal.loop-number-init
loop-number-init g c = record { of_lock = c.requires.of_lock; ready = c.requires.ready; passes = c.requires.one }

pub split-pass-requires-clause-pass : goal.split-pass-requires-clause-pass
split-pass-requires-clause-pass g c = c.loop-number.invariant.of_lock

pub split-pass-requires-clause-first : goal.split-pass-requires-clause-first
split-pass-requires-clause-first g c = c.loop-number.invariant.ready.number

pub helper_of-requires : goal.helper_of-requires
helper_of-requires g c =
    let workers = ap (λ (p : Plan). p.workers) c.requires.plan in
    record {
      of_lock = c.split-pass.ensures.new;
      plan_is = c.requires.plan;
      ready = next_ready (name_of c.args.post.now.lock.now) (knowledge c.loop-number.first) (knowledge c.split-pass.result) _ c.split-pass.ensures.next c.loop-number.invariant.passes (omega (arith, workers));
    }

pub returns-in_err-push-clause-of_lock : goal.returns-in_err-push-clause-of_lock
returns-in_err-push-clause-of_lock g c = c.split-pass.ensures.old

pub returns-in_err-push-clause-ready : goal.returns-in_err-push-clause-ready
returns-in_err-push-clause-ready g c = split_ready _ _ _ c.loop-number.invariant.ready c.split-pass.ensures.counts

pub loop-number-preserved : goal.loop-number-preserved
loop-number-preserved g c = record {
  of_lock = c.split-pass.ensures.old;
  ready = split_ready _ _ _ c.loop-number.invariant.ready c.split-pass.ensures.counts;
  passes = split_counts _ _ _ c.split-pass.ensures.counts c.loop-number.invariant.passes;
}

pub returns-clause-of_lock : goal.returns-clause-of_lock
returns-clause-of_lock g c = c.loop-number.invariant.of_lock

pub returns-clause-ready : goal.returns-clause-ready
returns-clause-ready g c = c.loop-number.invariant.ready

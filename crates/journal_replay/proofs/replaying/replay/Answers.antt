use Rattle.std.proofs.Common.{Ok, subst}
use Rattle.wave_effects.specs.Plans.{plan_of}
use Rattle.journal_replay.specs.Replays.{IsOnlyOutcome}
use Rattle.journal_replay.specs.inner.Walks.{StopsIn}
use Rattle.journal_replay.proofs.Unique.{only_stop}
use Rattle.journal_replay.proofs.replaying.replay.Goals as goal

pub returns-in-Ok : goal.returns-in-Ok
returns-in-Ok c = subst (λ ls. IsOnlyOutcome (plan_of c.args.plan.now) ls c.args.show (Ok c.in-Ok.replayed)) c.as_slice-labels.ensures c.in-Ok.ensures.only

pub returns-in-Err : goal.returns-in-Err
returns-in-Err c =
    let p = plan_of c.args.plan.now in
    only_stop p c.labels_tell.ensures c.args.journal.now c.args.show c.in-Err.error (subst (λ ls. StopsIn p ls c.in-Err.error) c.as_slice-labels.ensures c.in-Err.ensures.stops)

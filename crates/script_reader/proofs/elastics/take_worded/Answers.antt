use Rattle.std.proofs.Common.{sym, subst}
use Rattle.script_reader.specs.inner.ElasticSteps.{judged_now, IsElasticStop}
use Rattle.script_reader.specs.inner.Gives.{Gives}
use Rattle.script_reader.proofs.ElasticReadLemmas.{stopped_stop}
use Rattle.script_reader.proofs.elastics.take_worded.Goals as goal

pub returns-clause-err : goal.returns-clause-err
returns-clause-err c =
    subst (IsElasticStop c.args.shape.now c.args.line.now c.args.progress.now c.args.number) (sym c.error_of_refusal.ensures)
    (stopped_stop c.args.shape.now c.args.line.now c.args.progress.now c.args.number c.in_ok-worded.worded c.in-Err.refusal c.in_ok-worded.ensures
    (subst (λ r. Gives r (judged_now c.args.shape.now c.args.progress.now c.in_ok-worded.worded)) c.in-Err.is c.judged_worded.ensures))

use Rattle.std.proofs.Common.{sym, subst}
use Rattle.script_reader.specs.Scripts.{judgment}
use Rattle.script_reader.specs.inner.Gives.{Gives}
use Rattle.script_reader.specs.inner.Steps.{IsStop}
use Rattle.script_reader.proofs.ReadLemmas.{stopped_stop}
use Rattle.script_reader.proofs.read.take_line.Goals as goal

pub returns-in-Ok-clause-ok : goal.returns-in-Ok-clause-ok
returns-in-Ok-clause-ok c = record {
  said = c.in_ok-said.said;
  taken = c.in-Ok.taken;
  says = c.in_ok-said.ensures;
  judged_is = subst (λ r. Gives r (judgment c.args.shape.now c.args.progress.now.hosts c.args.progress.now.begun c.args.progress.now.events c.in_ok-said.said)) c.in-Ok.is c.judgment.ensures;
  after_is = c.in_ok-take-in-Ok.ensures;
}

pub returns-clause-err : goal.returns-clause-err
returns-clause-err c =
    subst (IsStop c.args.shape.now c.args.line.now c.args.progress.now c.args.number) (sym c.error_of_refusal.ensures)
    (stopped_stop c.args.shape.now c.args.line.now c.args.progress.now c.args.number c.in_ok-said.said c.in-Err.refusal c.in_ok-said.ensures
    (subst (λ r. Gives r (judgment c.args.shape.now c.args.progress.now.hosts c.args.progress.now.begun c.args.progress.now.events c.in_ok-said.said)) c.in-Err.is c.judgment.ensures))

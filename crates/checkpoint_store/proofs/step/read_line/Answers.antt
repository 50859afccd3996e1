use Rattle.std.proofs.Common.{rules}
use Rattle.checkpoint_store.proofs.StepLemmas.{open_refused, line_refused}
use Rattle.checkpoint_store.proofs.step.read_line.Goals as goal

pub returns-in_default-clause-err : goal.returns-in_default-clause-err
returns-in_default-clause-err c = open_refused c.args.form c.args.wanted.now c.args.text.now c.args.number c.refusal.result c.in_default.ensures.none c.refusal.ensures

pub returns-else-eq-clause-err : goal.returns-else-eq-clause-err
returns-else-eq-clause-err c =
    line_refused c.args.form c.args.wanted.now c.args.text.now c.in-Some.line.now c.in-Some.rest.now c.args.number c.refusal-else-eq.result c.in-Some.ensures.some (λ e. search rules) c.refusal-else-eq.ensures

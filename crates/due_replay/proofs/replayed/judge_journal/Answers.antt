use Rattle.std.proofs.Common.{◌≡◌, Err, arith, rules, subst, sym}
use Rattle.due_parts.specs.Answers.{Only}
use Rattle.due_parts.specs.Runs.{nearest_workers}
use Rattle.due_parts.proofs.DueLemmas.{only_same}
use Rattle.due_replay.specs.Replayed.{IsDueRead, IsDueReplay}
use Rattle.due_replay.specs.inner.Outcomes.{IsOutcomeOf}
use Rattle.due_replay.proofs.DueLemmas.{few_labels, only_fault, only_labels}
use Rattle.due_replay.proofs.ReplayLemmas.{only_replay}
use Rattle.due_replay.proofs.TreeLemmas.{plan_fits}
use Rattle.due_replay.proofs.replayed.judge_journal.Goals as goal

pub judge_labels-requires-clause-fits : goal.judge_labels-requires-clause-fits
judge_labels-requires-clause-fits c =
    let same : c.clamp.result ≡ nearest_workers c.args.asked.crew.workers = search rules in
    plan_fits c.args.typed c.args.program c.requires.tree c.args.script c.args.asked.crew.workers c.clamp.result c.requires.script same

pub judge_labels-requires-clause-few : goal.judge_labels-requires-clause-few
judge_labels-requires-clause-few c = few_labels c.args.typed.shape c.args.journal.now c.in-Ok.labels c.requires.names c.in-Ok.ensures c.requires.short

pub returns-in-Ok : goal.returns-in-Ok
returns-in-Ok c = λ tree t coded.
    let asked = c.args.asked in
    let same : c.clamp.result ≡ nearest_workers asked.crew.workers = search rules in
    let due = c.in_ok-judge_labels-in-Ok.field-0 in
    only_labels (IsDueReplay asked.show asked.crew tree c.args.script) c.args.typed.shape c.args.journal.now c.in-Ok.labels due c.in-Ok.ensures
    (only_replay asked.show asked.crew tree c.args.typed c.args.program c.args.script c.in-Ok.labels t coded due
    (subst (λ w. Only (IsOutcomeOf (record { program = c.args.program; script = c.args.script; workers = w }) c.in-Ok.labels asked.show) due) same c.in_ok-judge_labels-in-Ok.ensures))

pub returns : goal.returns
returns c = λ tree t coded.
    let P = IsDueReplay c.args.asked.show c.args.asked.crew tree c.args.script in
    let error = c.in-Err.error in
    only_fault P c.args.typed.shape c.args.journal.now error _ c.in_ok-refused_journal-in-Err.ensures.told c.in-Err.ensures
    (subst (Only (IsDueRead P (Err error))) (sym c.in_ok-refused_journal-in-Err.ensures.refused) (only_same _))

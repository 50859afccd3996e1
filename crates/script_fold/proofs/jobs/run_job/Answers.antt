use Rattle.std.proofs.Common.{◌≡◌, IfOk, sym, subst}
use Rattle.context_tree.specs.Contexts.{tree_of}
use Rattle.head_tickets.specs.declared.job.Job.{Job}
use Rattle.head_tickets.specs.Heads.{line_of}
use Rattle.script_fold.specs.Lines.{line_by}
use Rattle.script_fold.proofs.jobs.run_job.Goals as goal

pub returns-in-Move-clause-outcome : goal.returns-in-Move-clause-outcome
returns-in-Move-clause-outcome g c =
    subst (λ (j : Job). IfOk c.run_move.result (λ r. r.0 ≡ (line_by (g.R.Runner.meaning c.args.runner.now) 0 (tree_of (g.R.Runner.shape c.args.runner.now) c.args.contexts.now) (line_of j)).result)) (sym c.in-Move.is)
    (c.run_move.ensures.outcome (g.R.Runner.shape c.args.runner.now))

pub returns-in-Move-clause-entered : goal.returns-in-Move-clause-entered
returns-in-Move-clause-entered g c =
    subst (λ (j : Job). IfOk c.run_move.result (λ r. r.1.items ≡ (line_by (g.R.Runner.meaning c.args.runner.now) 0 (tree_of (g.R.Runner.shape c.args.runner.now) c.args.contexts.now) (line_of j)).entered)) (sym c.in-Move.is)
    (c.run_move.ensures.entered (g.R.Runner.shape c.args.runner.now))

pub returns-in-Snapshot-clause-outcome : goal.returns-in-Snapshot-clause-outcome
returns-in-Snapshot-clause-outcome g c =
    subst (λ (j : Job). IfOk c.run_snapshot.result (λ r. r.0 ≡ (line_by (g.R.Runner.meaning c.args.runner.now) 0 (tree_of (g.R.Runner.shape c.args.runner.now) c.args.contexts.now) (line_of j)).result)) (sym c.in-Snapshot.is)
    (c.run_snapshot.ensures.outcome (g.R.Runner.shape c.args.runner.now))

pub returns-in-Snapshot-clause-entered : goal.returns-in-Snapshot-clause-entered
returns-in-Snapshot-clause-entered g c =
    subst (λ (j : Job). IfOk c.run_snapshot.result (λ r. r.1.items ≡ (line_by (g.R.Runner.meaning c.args.runner.now) 0 (tree_of (g.R.Runner.shape c.args.runner.now) c.args.contexts.now) (line_of j)).entered)) (sym c.in-Snapshot.is)
    (c.run_snapshot.ensures.entered (g.R.Runner.shape c.args.runner.now))

use Rattle.std.proofs.Common.{ap}
use Rattle.kept_lock.specs.Locks.{name_of}
use Rattle.listing_out.proofs.SinkLemmas.{on_err}
use Rattle.wave_board.specs.declared.origin.Origin.{Origin}
use Rattle.host_workers.proofs.Closing.{all_from, front_from}
use Rattle.host_workers.proofs.run.run_plan_at.Goals as goal

pub returns-in_err-run_workers-clause-front : goal.returns-in_err-run_workers-clause-front
returns-in_err-run_workers-clause-front g c = on_err c.from_residual-in_err-run_workers.result (front_from c.args.plan.now c.args.start.now (name_of c.in-Ok.made.0) (ap (λ (o : Origin). o.start.now) c.in-Ok.ensures.name) _ _ c.in_err-run_workers.ensures.front)

pub returns-in-Err-parts_of-clause-front : goal.returns-in-Err-parts_of-clause-front
returns-in-Err-parts_of-clause-front g c = all_from c.args.plan.now c.args.start.now (name_of c.in-Ok.made.0) (ap (λ (o : Origin). o.start.now) c.in-Ok.ensures.name) _ _ c.in_ok-run_workers.ensures.lines

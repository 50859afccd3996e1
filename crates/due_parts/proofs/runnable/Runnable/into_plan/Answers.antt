use Rattle.std.proofs.Common.{rules, ◌≡◌}
use Rattle.due_parts.specs.Runs.{nearest_workers}
use Rattle.due_parts.proofs.runnable.Runnable.into_plan.Goals as goal

pub returns-clause-plan : goal.returns-clause-plan
returns-clause-plan c =
    let work = c.args.self in
    let same : c.clamp.result ≡ nearest_workers c.args.workers = search rules in
    λ i. record { program = work.program; script = work.script; workers = same i }

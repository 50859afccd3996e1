use Rattle.std.proofs.Common.{rules, ◌≡◌, ◌∙◌, ap}
use Rattle.due_parts.specs.Runs.{nearest_workers}
use Rattle.due_answer.specs.Tasks.{workers_of}
use Rattle.eventwave.proofs.pieces.piece_plan.Goals as goal

pub returns : goal.returns
returns c =
    let near : c.clamp.result ≡ nearest_workers c.workers.result = search rules in
    let same : c.clamp.result ≡ nearest_workers (workers_of c.args.engine) = near ∙ ap nearest_workers c.workers.ensures in
    λ i. record { program = c.args.program; script = c.args.script; workers = same i }

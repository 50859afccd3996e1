use Rattle.wave_states.specs.Begins.{start_state}
use Rattle.plan_actors.specs.Plans.{begin_in}
use Rattle.plan_actors.proofs.Owing.{setting_of}
use Rattle.serial_runs.proofs.plans.plans_change_neighbours.Goals as goal

pub returns : goal.returns
returns c = λ plan start fits begins labels s r.
    c.neighbours_change.ensures (setting_of plan.program fits.fit fits.verified plan.script.hosts) plan.workers (start_state (begin_in plan start) plan.script.batches) s labels r

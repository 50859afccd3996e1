use Rattle.wave_states.specs.Begins.{start_state}
use Rattle.plan_actors.specs.Plans.{begin_in}
use Rattle.wave_effects.specs.Plans.{plan_of}
use Rattle.wave_machine.proofs.machine.Machine.new_at.Goals as goal

pub invariant_of-result : goal.invariant_of-result
invariant_of-result c = (record { start = c.args.start.now; state = start_state (begin_in (plan_of c.args.plan.now) c.args.start.now) c.args.plan.now.script.batches; stands = c.in_ok-listed.ensures.stands }, tt, c.in_ok-listed.ensures.listed, tt)

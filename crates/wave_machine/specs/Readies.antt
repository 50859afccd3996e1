-- What can be done by an idle worker, as a list that does not say who.
use Rattle.std.specs.Prelude.{ℕ, suc, List, map}
use Rattle.wave_labels.specs.Labels.{act_of}
use Rattle.wave_states.specs.Canonical.{enabled_labels, enabled_for}
use Rattle.wave_states.specs.Labels.{Choice, Label}
use Rattle.plan_actors.specs.PlanActors.{plan_actors}
use Rattle.plan_actors.specs.Plans.{Plan}
use Rattle.wave_machine.specs.declared.ready.Ready.{Ready}
use Rattle.wave_effects.specs.Machines.{TheState}

abbrev pub choice_of : Ready → Choice
choice_of r = record { host = r.host.0; act = act_of r.act }

abbrev pub choice_from : Label → Choice
choice_from l = record { host = l.host; act = l.act }

-- what can be done at a state, in the canonical order: all but the Stops by the lowest idle worker
abbrev pub enabled_in : Plan → TheState → List Label
enabled_in plan s = enabled_labels (plan_actors plan.program) plan.workers plan.script.hosts s

-- what a worker can do, in the same order
abbrev pub enabled_by : Plan → TheState → ℕ → List Label
enabled_by plan s w = enabled_for (plan_actors plan.program) plan.workers plan.script.hosts s w

-- What an idle worker can do at a state: the list of one worker more than the plan has, without who takes it. That one is idle, since
-- workers past the plan's number have nothing in hand.
abbrev pub ready_in : Plan → TheState → List Choice
ready_in plan s = map choice_from (enabled_for (plan_actors plan.program) (suc plan.workers) plan.script.hosts s plan.workers)

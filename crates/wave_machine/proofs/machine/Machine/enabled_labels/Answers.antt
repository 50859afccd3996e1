use Rattle.std.proofs.Common.{◌≡◌, subst}
use Rattle.std.specs.Prelude.{IfOk, map}
use Rattle.wave_base.specs.declared.start.Start.{Start}
use Rattle.wave_labels.specs.Labels.{label_of}
use Rattle.wave_states.specs.Canonical.{enabled_labels}
use Rattle.plan_actors.specs.PlanActors.{plan_actors}
use Rattle.wave_effects.specs.Machines.{Stands, TheState}
use Rattle.wave_machine.specs.Prepared.{Shown}
use Rattle.wave_machine.proofs.machine.Machine.enabled_labels.Goals as goal

pub returns : goal.returns
returns c =
    subst (λ (z : Shown). IfOk c.enabled_labels.result (λ ls. (start : Start) (s : TheState) → Stands z.kept start s → map label_of ls ≡ enabled_labels (plan_actors z.kept.plan.program) z.kept.plan.workers z.kept.plan.script.hosts s))
    c.self.view_is c.enabled_labels.ensures

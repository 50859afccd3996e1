use Rattle.std.proofs.Common.{◌≡◌, true, is_some, subst}
use Rattle.std.specs.Prelude.{◌↔◌, IsTrue}
use Rattle.wave_base.specs.declared.start.Start.{Start}
use Rattle.wave_labels.specs.Labels.{label_of}
use Rattle.wave_states.specs.Steps.{step}
use Rattle.plan_actors.specs.PlanActors.{plan_actors}
use Rattle.wave_effects.specs.Machines.{Stands, TheState}
use Rattle.wave_machine.specs.Prepared.{Shown}
use Rattle.wave_machine.proofs.machine.Machine.can_take.Goals as goal

pub returns : goal.returns
returns c =
    subst
    (λ (z : Shown). (start : Start) (s : TheState) → Stands z.kept start s → IsTrue c.can_take.result ↔ (is_some (step (plan_actors z.kept.plan.program) z.kept.plan.workers s (label_of c.args.label.now)) ≡ true))
    c.self.view_is c.can_take.ensures

use Rattle.std.proofs.Common.{subst}
use Rattle.std.specs.Prelude.{◌↔◌, IsTrue}
use Rattle.wave_base.specs.declared.start.Start.{Start}
use Rattle.wave_states.specs.Runs.{Finished}
use Rattle.plan_actors.specs.PlanActors.{plan_actors}
use Rattle.wave_effects.specs.Machines.{Stands, TheState}
use Rattle.wave_machine.specs.Prepared.{Shown}
use Rattle.wave_machine.proofs.machine.Machine.is_finished.Goals as goal

pub returns : goal.returns
returns c = subst (λ (z : Shown). (start : Start) (s : TheState) → Stands z.kept start s → IsTrue c.is_finished.result ↔ Finished (plan_actors z.kept.plan.program) z.kept.plan.workers s) c.self.view_is c.is_finished.ensures

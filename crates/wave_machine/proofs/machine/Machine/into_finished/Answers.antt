use Rattle.std.proofs.Common.{◌≡◌, sym, subst}
use Rattle.script_fold.specs.Runs.{finished_of}
use Rattle.wave_base.specs.declared.start.Start.{Start}
use Rattle.wave_states.specs.Runs.{Finished}
use Rattle.plan_actors.specs.Calls.{code_ran}
use Rattle.plan_actors.specs.PlanActors.{plan_actors}
use Rattle.wave_effects.specs.Machines.{Stands, TheState}
use Rattle.wave_machine.specs.Prepared.{Shown}
use Rattle.wave_machine.proofs.machine.Machine.into_finished.Goals as goal

pub into_finished-requires : goal.into_finished-requires
into_finished-requires c =
    subst (λ (z : Shown). (start : Start) × (s : TheState) × Stands z.kept start s × Finished (plan_actors z.kept.plan.program) z.kept.plan.workers s) (sym c.self.view_is) c.requires

pub returns-in-Ok-clause-told : goal.returns-in-Ok-clause-told
returns-in-Ok-clause-told c =
    subst
    (λ (z : Shown). (start : Start) (s : TheState) → Stands z.kept start s → c.in-Ok.finished ≡ finished_of (code_ran z.kept.plan.program) z.kept.plan.program.shape start z.kept.plan.script)
    c.self.view_is c.in-Ok.ensures.told

use Rattle.std.proofs.Common.{◌≡◌, ℕ, None, Some, map, subst}
use Rattle.std.specs.Prelude.{slice_get}
use Rattle.wave_base.specs.declared.start.Start.{Start}
use Rattle.wave_states.specs.Canonical.{enabled_for, taken_as}
use Rattle.plan_actors.specs.PlanActors.{plan_actors}
use Rattle.wave_machine.specs.declared.ready.Ready.{Ready}
use Rattle.wave_effects.specs.Machines.{Stands, TheState}
use Rattle.wave_machine.specs.Prepared.{Shown}
use Rattle.wave_machine.specs.Readies.{choice_of, ready_in}
use Rattle.wave_machine.proofs.machine.Machine.index.Goals as goal

pub returns-clause-ready : goal.returns-clause-ready
returns-clause-ready c = subst (λ (z : Shown). (start : Start) (s : TheState) → Stands z.kept start s → map choice_of c.ready.result.now ≡ ready_in z.kept.plan s) c.self.view_is c.ready.ensures.ready

pub returns-clause-taken : goal.returns-clause-taken
returns-clause-taken c =
    subst (λ (z : Shown). (w : ℕ) (start : Start) (s : TheState) → slice_get z.kept.hands w ≡ Some None → Stands z.kept start s → map (λ (r : Ready). taken_as w (choice_of r)) c.ready.result.now ≡ enabled_for (plan_actors z.kept.plan.program) z.kept.plan.workers z.kept.plan.script.hosts s w)
    c.self.view_is c.ready.ensures.taken

use Rattle.std.proofs.Common.{◌≡◌, None, Some, sym, subst}
use Rattle.std.specs.Prelude.{slice_get}
use Rattle.wave_base.specs.declared.start.Start.{Start}
use Rattle.wave_states.specs.Canonical.{enabled_for}
use Rattle.plan_actors.specs.PlanActors.{plan_actors}
use Rattle.wave_effects.specs.Machines.{Stands, TheState}
use Rattle.wave_machine.specs.Picks.{IsOneOf}
use Rattle.wave_machine.specs.Prepared.{Shown}
use Rattle.wave_machine.proofs.machine.Machine.some_for.Goals as goal

pub some_for-requires-clause-idle : goal.some_for-requires-clause-idle
some_for-requires-clause-idle c = subst (λ (z : Shown). slice_get z.kept.hands c.args.worker.0 ≡ Some None) (sym c.self.view_is) c.requires

pub returns : goal.returns
returns c =
    subst (λ (z : Shown). (start : Start) (s : TheState) → Stands z.kept start s → IsOneOf (enabled_for (plan_actors z.kept.plan.program) z.kept.plan.workers z.kept.plan.script.hosts s c.args.worker.0) c.some_for.result)
    c.self.view_is c.some_for.ensures

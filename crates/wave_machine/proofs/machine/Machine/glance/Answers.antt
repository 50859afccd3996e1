use Rattle.std.proofs.Common.{subst}
use Rattle.std.specs.Prelude.{IfOk}
use Rattle.wave_base.specs.declared.start.Start.{Start}
use Rattle.wave_effects.specs.Glances.{IsGlance}
use Rattle.wave_effects.specs.Machines.{Stands, TheState}
use Rattle.wave_machine.specs.Prepared.{Shown}
use Rattle.wave_machine.proofs.machine.Machine.glance.Goals as goal

pub returns : goal.returns
returns c = subst (λ (z : Shown). IfOk c.glance.result (λ g. (start : Start) (s : TheState) → Stands z.kept start s → IsGlance s g)) c.self.view_is c.glance.ensures

use Rattle.std.proofs.Common.{sym, subst}
use Rattle.wave_labels.specs.Labels.{label_of}
use Rattle.wave_effects.specs.Keeping.{kept_of}
use Rattle.wave_effects.specs.Machines.{IsEnabled, Takes}
use Rattle.wave_machine.specs.Prepared.{Shown}
use Rattle.wave_machine.specs.inner.Updating.{RoomFor}
use Rattle.wave_effects.specs.Made.{IsPrepared}
use Rattle.wave_effects.specs.Running.{Leases}
use Rattle.wave_effects.proofs.Labelled.{stood_after}
use Rattle.wave_machine.proofs.machine.Machine.start.Goals as goal

pub invariant_of-self : goal.invariant_of-self
invariant_of-self c =
    let on = subst (λ (z : Shown). IsEnabled z.kept (label_of c.args.label.now)) (sym c.self.view_is) c.requires.enabled in (
      stood_after (kept_of c.self.inside.listed.engine) (kept_of c.act_start.new.self.engine) c.args.label.now on c.act_start.ensures.takes,
      subst (IsPrepared c.act_start.new.self.engine) (sym c.take.ensures.after) tt,
      c.act_start.ensures.listed,
      subst (RoomFor c.act_start.new.self) (sym c.take.ensures.after) tt,
    )

pub returns-clause-takes : goal.returns-clause-takes
returns-clause-takes c = subst (λ (z : Shown). Takes z.kept (kept_of c.act_start.new.self.engine) (label_of c.args.label.now)) c.self.view_is c.act_start.ensures.takes

pub returns-clause-leases : goal.returns-clause-leases
returns-clause-leases c = subst (λ (z : Shown). Leases z.kept (label_of c.args.label.now) c.act_start.result) c.self.view_is c.act_start.ensures.leases

pub returns-clause-may_run : goal.returns-clause-may_run
returns-clause-may_run c = c.act_start.ensures.may_run

use Rattle.std.proofs.Common.{sym, subst}
use Rattle.wave_labels.specs.Labels.{label_of}
use Rattle.wave_effects.specs.Keeping.{kept_of}
use Rattle.wave_effects.specs.Machines.{IsEnabled, Takes}
use Rattle.wave_machine.specs.Prepared.{Shown}
use Rattle.wave_machine.specs.inner.Updating.{RoomFor}
use Rattle.wave_effects.specs.Made.{IsPrepared}
use Rattle.wave_effects.proofs.Labelled.{stood_after}
use Rattle.wave_machine.proofs.machine.Machine.step.Goals as goal

pub invariant_of-self : goal.invariant_of-self
invariant_of-self c =
    let on = subst (λ (z : Shown). IsEnabled z.kept (label_of c.args.label.now)) (sym c.self.view_is) c.requires.enabled in
    (stood_after (kept_of c.self.inside.listed.engine) (kept_of c.act.new.self.engine) c.args.label.now on c.act.ensures.takes, subst (IsPrepared c.act.new.self.engine) (sym c.take.ensures.after) tt, c.act.ensures.listed, subst (RoomFor c.act.new.self) (sym c.take.ensures.after) tt)

pub returns-clause-takes : goal.returns-clause-takes
returns-clause-takes c = subst (λ (z : Shown). Takes z.kept (kept_of c.act.new.self.engine) (label_of c.args.label.now)) c.self.view_is c.act.ensures.takes

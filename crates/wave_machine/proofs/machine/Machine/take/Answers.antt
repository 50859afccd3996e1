use Rattle.std.proofs.Common.{ap, sym, subst}
use Rattle.wave_labels.specs.Labels.{label_of}
use Rattle.wave_effects.specs.Keeping.{kept_of}
use Rattle.wave_effects.specs.Machines.{IsEnabled, Takes}
use Rattle.wave_effects.specs.Made.{IsPrepared}
use Rattle.wave_effects.specs.Plans.{plan_of}
use Rattle.wave_effects.proofs.Labelled.{stood_after, stood_kept}
use Rattle.wave_machine.specs.Prepared.{Shown}
use Rattle.wave_machine.specs.inner.Updating.{RoomFor}
use Rattle.wave_machine.proofs.Readied.{enabled_still, takes_still}
use Rattle.wave_machine.proofs.machine.Machine.take.Goals as goal

pub act-requires-clause-enabled : goal.act-requires-clause-enabled
act-requires-clause-enabled c =
    let on = subst (λ (z : Shown). IsEnabled z.kept (label_of c.args.label.now)) (sym c.self.view_is) c.requires.enabled in
    enabled_still (kept_of c.self.inside.listed.engine) (kept_of c.prepare.new.self.engine) c.prepare.ensures.keeps (ap (λ p. plan_of p.now) c.prepare.ensures.plan) (label_of c.args.label.now) on

pub invariant_of-self : goal.invariant_of-self
invariant_of-self c = (
  stood_kept (kept_of c.self.inside.listed.engine) (kept_of c.prepare.new.self.engine) c.self.invariant.0 c.prepare.ensures.keeps,
  subst (IsPrepared c.prepare.new.self.engine) (sym c.forget.ensures) tt,
  c.prepare.ensures.listed,
  subst (RoomFor c.prepare.new.self) (sym c.forget.ensures) tt,
)

pub invariant_of-self-2 : goal.invariant_of-self-2
invariant_of-self-2 c =
    let on = subst (λ (z : Shown). IsEnabled z.kept (label_of c.args.label.now)) (sym c.self.view_is) c.requires.enabled in
    let still = enabled_still (kept_of c.self.inside.listed.engine) (kept_of c.prepare.new.self.engine) c.prepare.ensures.keeps (ap (λ p. plan_of p.now) c.prepare.ensures.plan) (label_of c.args.label.now) on in (
      stood_after (kept_of c.prepare.new.self.engine) (kept_of c.act.new.self.engine) c.args.label.now still c.act.ensures.takes,
      subst (IsPrepared c.act.new.self.engine) (sym c.forget.ensures) tt,
      c.act.ensures.listed,
      subst (RoomFor c.act.new.self) (sym c.forget.ensures) tt,
    )

pub returns-clause-takes : goal.returns-clause-takes
returns-clause-takes c =
    subst (λ (z : Shown). Takes z.kept (kept_of c.act.new.self.engine) (label_of c.args.label.now)) c.self.view_is
    (takes_still (kept_of c.self.inside.listed.engine) (kept_of c.prepare.new.self.engine) c.prepare.ensures.keeps (ap (λ p. plan_of p.now) c.prepare.ensures.plan) (kept_of c.act.new.self.engine) (label_of c.args.label.now) c.act.ensures.takes)

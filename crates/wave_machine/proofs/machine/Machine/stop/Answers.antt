use Rattle.std.proofs.Common.{sym, subst, ap}
use Rattle.wave_effects.specs.Keeping.{kept_of}
use Rattle.wave_effects.specs.Machines.{Keeps}
use Rattle.wave_machine.specs.Prepared.{Shown}
use Rattle.wave_machine.specs.inner.Updating.{RoomFor}
use Rattle.wave_effects.specs.Made.{IsPrepared}
use Rattle.wave_effects.specs.Running.{CanStop, IsStopping, Stops}
use Rattle.wave_effects.proofs.Labelled.{stood_kept, stood_stopped}
use Rattle.wave_machine.proofs.Lasting.{prepared_still, room_still}
use Rattle.wave_machine.proofs.machine.Machine.stop.Goals as goal

pub stop-requires-clause-stopping : goal.stop-requires-clause-stopping
stop-requires-clause-stopping c = subst (λ (z : Shown). IsStopping z.kept c.args.lease c.args.pause) (sym c.self.view_is) c.requires

pub invariant_of-self : goal.invariant_of-self
invariant_of-self c =
    let on = subst (λ (z : Shown). IsStopping z.kept c.args.lease c.args.pause) (sym c.self.view_is) c.requires in (
      stood_stopped (kept_of c.self.inside.listed.engine) (kept_of c.stop.new.self.engine) c.args.lease c.args.pause c.in-Ok.label.host.0 on c.in-Ok.ensures.enabled c.in-Ok.ensures.stops,
      subst (IsPrepared c.stop.new.self.engine) (sym c.forget.ensures) tt,
      c.stop.ensures.listed,
      subst (RoomFor c.stop.new.self) (sym c.forget.ensures) tt,
    )

pub invariant_of-self-in-Err : goal.invariant_of-self-in-Err
invariant_of-self-in-Err c = (
  stood_kept (kept_of c.self.inside.listed.engine) (kept_of c.stop.new.self.engine) c.self.invariant.0 c.in-Err.ensures.keeps,
  prepared_still c.self.inside.listed.engine c.stop.new.self.engine c.in-Err.ensures.same c.in-Err.ensures.long c.self.inside.prepared c.self.invariant.1,
  c.stop.ensures.listed,
  room_still c.self.inside.listed c.stop.new.self c.in-Err.ensures.room c.self.inside.prepared c.self.invariant.3,
)

pub returns-in-Ok-clause-enabled : goal.returns-in-Ok-clause-enabled
returns-in-Ok-clause-enabled c = subst (λ (z : Shown). CanStop z.kept c.args.lease c.args.pause c.in-Ok.label.host.0) c.self.view_is c.in-Ok.ensures.enabled

pub returns-in-Ok-clause-stops : goal.returns-in-Ok-clause-stops
returns-in-Ok-clause-stops c = subst (λ (z : Shown). Stops z.kept c.args.lease c.args.pause c.in-Ok.label.host.0 (kept_of c.stop.new.self.engine)) c.self.view_is c.in-Ok.ensures.stops

pub returns-in-Err-clause-keeps : goal.returns-in-Err-clause-keeps
returns-in-Err-clause-keeps c = subst (λ (z : Shown). Keeps z.kept (kept_of c.stop.new.self.engine)) c.self.view_is c.in-Err.ensures.keeps

pub returns-in-Err-clause-reserved : goal.returns-in-Err-clause-reserved
returns-in-Err-clause-reserved c = ap (λ (z : Shown). z.reserved) c.self.view_is

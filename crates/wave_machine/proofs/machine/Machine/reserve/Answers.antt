use Rattle.std.proofs.Common.{sym, subst}
use Rattle.wave_effects.specs.Keeping.{kept_of}
use Rattle.wave_machine.specs.inner.Updating.{RoomFor}
use Rattle.wave_effects.specs.Made.{IsPrepared}
use Rattle.wave_effects.proofs.Labelled.{stood_kept}
use Rattle.wave_machine.proofs.machine.Machine.reserve.Goals as goal

pub invariant_of-self : goal.invariant_of-self
invariant_of-self c = (
  stood_kept (kept_of c.self.inside.listed.engine) (kept_of c.prepare.new.self.engine) c.self.invariant.0 c.prepare.ensures.keeps,
  subst (IsPrepared c.prepare.new.self.engine) (sym c.forget.ensures) tt,
  c.prepare.ensures.listed,
  subst (RoomFor c.prepare.new.self) (sym c.forget.ensures) tt,
)

pub invariant_of-self-2 : goal.invariant_of-self-2
invariant_of-self-2 c = (
  stood_kept (kept_of c.self.inside.listed.engine) (kept_of c.prepare.new.self.engine) c.self.invariant.0 c.prepare.ensures.keeps,
  subst (IsPrepared c.prepare.new.self.engine) (sym c.keep.ensures) c.in_ok-part.ensures.part,
  c.prepare.ensures.listed,
  subst (RoomFor c.prepare.new.self) (sym c.keep.ensures) c.in_ok-part.ensures.room,
)

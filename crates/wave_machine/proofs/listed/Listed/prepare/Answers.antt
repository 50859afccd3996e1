use Rattle.std.proofs.Common.{subst}
use Rattle.wave_effects.specs.declared.engine.Engine.{Engine}
use Rattle.wave_effects.specs.Keeping.{kept_of}
use Rattle.wave_effects.specs.Machines.{Keeps}
use Rattle.wave_effects.specs.Apart.{AsksTheSame}
use Rattle.wave_machine.proofs.Asked.{listed_same}
use Rattle.wave_machine.proofs.listed.Listed.prepare.Goals as goal

pub returns-clause-listed : goal.returns-clause-listed
returns-clause-listed c =
    let x = c.args.self.now in
    let on = c.requires.enabled in
    let same = c.reserve.ensures.same in
    let m' = kept_of c.prepare.new.self in
    listed_same x _ c.requires.listed (record { start = on.start; state = on.state; stands = on.stands })
    (subst (λ (e : Engine). Keeps (kept_of e) m') same.engine c.prepare.ensures.keeps)
    (subst (λ (e : Engine). AsksTheSame (kept_of e) m') same.engine c.prepare.ensures.asks) same.items same.done same.weight

use Rattle.std.proofs.Common.{◌≡◌, ◌∙◌, sym, ap, subst}
use Rattle.wave_base.specs.Starts.{first_start}
use Rattle.wave_effects.specs.Machines.{Stands}
use Rattle.wave_effects.specs.Plans.{plan_of}
use Rattle.wave_machine.specs.Prepared.{Shown}
use Rattle.wave_drives.specs.inner.Driving.{first_state}
use Rattle.wave_drives.proofs.Driven.{first_under}
use Rattle.journal_replay.proofs.Walking.{at_start}
use Rattle.journal_replay.proofs.walk.first_walk.Goals as goal

pub returns : goal.returns
returns c =
    let p = plan_of c.args.plan.now in
    let start = first_start p.program.shape in
    let w = c.in_ok-walk.walk in
    let is = c.in_ok-walk.ensures.machine in
    let same : w.machine.kept.plan ≡ p = ap (λ (x : Shown). x.kept.plan) is ∙ c.in_ok-machine.ensures.plan in
    let stands = subst (λ (x : Shown). Stands x.kept start (first_state p start)) (sym is) c.in_ok-machine.ensures.stands in
    record { same = same; state = first_state p start; under = first_under w.machine.kept p start w.ends.items same c.in_ok-walk.ensures.ends stands; run = at_start p }

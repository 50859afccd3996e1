use Rattle.std.proofs.Common.{◌<◌, ◌≡◌, inl, inr, nat_eq, false, ap, subst, arith}
use Rattle.wave_theory.proofs.Basics.{number_cases}
use Rattle.plan_actors.specs.Plans.{Fits}
use Rattle.plan_actors.proofs.Owing.{setting_of}
use Rattle.wave_effects.specs.declared.lease.Lease.{Lease}
use Rattle.wave_effects.specs.Plans.{plan_of}
use Rattle.wave_board.specs.Taking.{Took}
use Rattle.tests_board.proofs.Turning.{other_may_take, out_same, standing}
use Rattle.tests_board.proofs.tests.turns.find_nothing.Goals as goal

pub take-requires-clause-stands : goal.take-requires-clause-stands
take-requires-clause-stands g c = standing c.args.plan.now c.args.board.now c.requires.stands

pub take-requires-clause-may : goal.take-requires-clause-may
take-requires-clause-may g c =
    let below : c.args.worker.0 < c.args.plan.now.workers = omega arith in
    let same : c.lease.result.now.worker.0 ≡ c.args.parcel.now.worker.0 = ap (λ (l : Lease). l.worker.0) c.lease.ensures in
    let other : nat_eq c.args.parcel.now.worker.0 c.args.worker.0 ≡ false = elim (number_cases c.args.parcel.now.worker.0 c.args.worker.0) [ inl is ↦ absurd (omega (arith, same, is)) | inr apart ↦ apart ] in
    other_may_take c.args.plan.now c.args.board.now c.args.parcel.now c.requires c.args.worker other below

pub returns : goal.returns
returns g c =
    let took = subst (Took c.args.board.now c.args.worker c.take.new.self) c.in-Nothing.is c.in_ok-work.ensures.took in
    let at = c.requires.stands.at in
    let plan = plan_of c.requires.stands.origin.plan.now in
    let fits = subst Fits at.plan at.fits in
    out_same c.args.plan.now c.args.board.now c.take.new.self c.take.ensures.stands took.3 c.args.parcel.now c.requires (c.hands_stay_over.ensures (setting_of plan.program fits.fit fits.verified plan.script.hosts))

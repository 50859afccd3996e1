use Rattle.std.proofs.Common.{subst}
use Rattle.plan_actors.specs.Plans.{Plan, Setting, Fits, FitsStart, begin_in}
use Rattle.plan_actors.proofs.Meeting.{plan_fits, begin_fits}
use Rattle.plan_actors.proofs.Owing.{setting_of}
use Rattle.wave_effects.specs.Machines.{IsReached}
use Rattle.wave_board.specs.Always.{the_plan}
use Rattle.wave_board.specs.Boards.{labels_of}
use Rattle.wave_board.proofs.always.boards_go_on.Goals as goal

pub returns-clause-never_stuck : goal.returns-clause-never_stuck
returns-clause-never_stuck c = λ o b s h.
    let p = the_plan o in
    let fits = subst Fits h.plan h.fits in
    let begins = subst (λ (q : Plan). FitsStart q o.start.now) h.plan h.begins in
    let k : Setting = setting_of p.program fits.fit fits.verified p.script.hosts in
    c.never_stuck.ensures k p.workers (begin_in p o.start.now) p.script.batches (begin_fits p fits o.start.now begins) (plan_fits p fits) (labels_of b) s (subst (λ (q : Plan). IsReached q o.start.now (labels_of b) s) h.plan h.reached)

pub returns-clause-complete : goal.returns-clause-complete
returns-clause-complete c = λ o b s h.
    let p = the_plan o in
    let fits = subst Fits h.plan h.fits in
    let begins = subst (λ (q : Plan). FitsStart q o.start.now) h.plan h.begins in
    let k : Setting = setting_of p.program fits.fit fits.verified p.script.hosts in
    c.complete.ensures k p.workers (begin_in p o.start.now) p.script.batches (begin_fits p fits o.start.now begins) (plan_fits p fits) (labels_of b) s (subst (λ (q : Plan). IsReached q o.start.now (labels_of b) s) h.plan h.reached)

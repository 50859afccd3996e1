use Rattle.std.proofs.Common.{◌≡◌, ◌≤◌, length, Some, None, sym, ap, subst, ◌∙◌}
use Rattle.wave_base.specs.Kids.{step_after}
use Rattle.snapshot_events.proofs.Walking.{shallow, down_actor, down_pause, left_actor, left_pause}
use Rattle.snapshot_events.proofs.walker.walk.Goals as goal

pub go_down-requires : goal.go_down-requires
go_down-requires c =
    let next : step_after c.args.body.now.children c.visit.new.self.walker.from ≡ Some c.in-Some.step =
    ap (λ v. step_after c.args.body.now.children v.walker.from) (sym c.walker.view_is) ∙ sym c.after.ensures.step ∙ c.in-Some.is in
    shallow (length c.visit.new.self.walker.at) c.args.body.now.children c.visit.new.self.walker.from c.in-Some.step next (λ deep. c.requires (subst (λ p. 8 ≤ length p) c.visit.ensures.at deep))

pub returns-in-Some-clause-walker : goal.returns-in-Some-clause-walker
returns-in-Some-clause-walker c =
    let next : step_after c.args.body.now.children c.visit.new.self.walker.from ≡ Some c.in-Some.step =
    ap (λ v. step_after c.args.body.now.children v.walker.from) (sym c.walker.view_is) ∙ sym c.after.ensures.step ∙ c.in-Some.is in
    c.go_down.ensures.walker
    ∙ down_actor c.args.walker.now.walker c.visit.new.self.walker c.args.body.now.fields c.args.body.now.children c.visit.ensures.at c.visit.ensures.from c.in_ok-visit.ensures.copied c.in-Some.step next

pub returns-in-Some-clause-pause : goal.returns-in-Some-clause-pause
returns-in-Some-clause-pause c =
    let next : step_after c.args.body.now.children c.visit.new.self.walker.from ≡ Some c.in-Some.step =
    ap (λ v. step_after c.args.body.now.children v.walker.from) (sym c.walker.view_is) ∙ sym c.after.ensures.step ∙ c.in-Some.is in
    c.go_down.ensures.pause
    ∙ down_pause c.args.walker.now.walker c.visit.new.self.walker c.args.body.now.fields c.args.body.now.children c.visit.ensures.at c.visit.ensures.from c.in_ok-visit.ensures.copied c.in-Some.step next

pub returns-in-None-clause-walker : goal.returns-in-None-clause-walker
returns-in-None-clause-walker c =
    let next : step_after c.args.body.now.children c.visit.new.self.walker.from ≡ None =
    ap (λ v. step_after c.args.body.now.children v.walker.from) (sym c.walker.view_is) ∙ sym c.after.ensures.step ∙ c.in-None.is in
    c.leave.ensures.walker
    ∙ left_actor c.args.walker.now.walker c.visit.new.self.walker c.args.body.now.fields c.args.body.now.children c.visit.ensures.at c.visit.ensures.from c.in_ok-visit.ensures.copied next

pub returns-in-None-clause-pause : goal.returns-in-None-clause-pause
returns-in-None-clause-pause c =
    let next : step_after c.args.body.now.children c.visit.new.self.walker.from ≡ None =
    ap (λ v. step_after c.args.body.now.children v.walker.from) (sym c.walker.view_is) ∙ sym c.after.ensures.step ∙ c.in-None.is in
    c.leave.ensures.pause
    ∙ left_pause c.args.walker.now.walker c.visit.new.self.walker c.args.body.now.fields c.args.body.now.children c.visit.ensures.at c.visit.ensures.from c.in_ok-visit.ensures.copied next

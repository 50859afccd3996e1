use Rattle.std.proofs.Common.{◌∙◌, ◌<◌, ap, sym, subst, length}
use Rattle.wave_base.specs.Shapes.{class_of}
use Rattle.service_verify.specs.Fit.{IsFit}
use Rattle.service_verify.specs.Links.{AreLinked}
use Rattle.service_verify.specs.Points.{IsVerified}
use Rattle.service_verify.specs.Reads.{read_marks}
use Rattle.service_verify.specs.Standing.{HasFields, Stands}
use Rattle.service_vm.specs.Boxes.{Boxed, event_in}
use Rattle.service_vm.specs.Wants.{MayWantIn}
use Rattle.service_vm.proofs.Events.{back_there, class_known, kept_fits, wants_there, wants_down}
use Rattle.service_vm.proofs.Keeping.{if_refused}
use Rattle.service_vm.proofs.event.run_to_pause.Goals as goal

pub back-requires : goal.back-requires
back-requires c =
    let s = c.requires.stands in
    let e = c.program.ensures.program in
    let stands = subst (λ q. Stands q s.0 s.1 c.args.event.now.event) (sym e) s.2 in
    let has = subst (λ q. HasFields q.shape s.0 c.args.body.now.fields) (sym e) s.3 in
    let h = back_there c.program.result.now (subst IsFit (sym e) c.requires.fit) (subst IsVerified (sym e) c.program.ensures.verified) s.0 s.1 c.event.inside.ended c.event.inside.run c.pause.new.self c.args.body.now.fields c.pause.new.fields c.in_ok-why.why
    (subst (Stands c.program.result.now s.0 s.1) (sym (ap (λ (b : Boxed). b.event) c.event.view_is)) stands) has c.in_ok-why.ensures.did c.in-Back.is in
    subst (λ views. 0 < length views) (sym c.pause.ensures.stays.0) h

pub kept_fields-requires : goal.kept_fields-requires
kept_fields-requires c =
    let s = c.requires.stands in
    subst (λ n. n < length c.args.program.now.shape.classes) (sym c.class-class.ensures)
    (class_known c.args.program.now c.requires.fit s.0 s.1 (event_in c.event.inside.ended c.event.inside.run) (subst (Stands c.args.program.now s.0 s.1) (sym (ap (λ (b : Boxed). b.event) c.event.view_is)) s.2))

pub leave-requires : goal.leave-requires
leave-requires c =
    let s = c.requires.stands in
    let e = c.program.ensures.program in
    let stands = subst (λ q. Stands q s.0 s.1 (event_in c.event.inside.ended c.event.inside.run)) (sym e) (subst (Stands c.args.program.now s.0 s.1) (sym (ap (λ (b : Boxed). b.event) c.event.view_is)) s.2) in
    let has = subst (λ q. HasFields q.shape s.0 c.args.body.now.fields) (sym e) s.3 in
    ap length (c.kept_fields.ensures.kept ∙ ap (read_marks c.args.program.now) c.class-class.ensures)
    ∙ ap (λ q. length (read_marks q (class_of c.event.inside.run.path))) (sym e)
    ∙ kept_fits c.program.result.now (subst IsFit (sym e) c.requires.fit) (subst IsVerified (sym e) c.program.ensures.verified) s.0 s.1 c.event.inside.ended c.event.inside.run c.pause.new.self c.args.body.now.fields c.pause.new.fields c.in_ok-why.why stands has c.in_ok-why.ensures.did

pub returns-in_err-why-clause-wants : goal.returns-in_err-why-clause-wants
returns-in_err-why-clause-wants c =
    let s = c.requires.stands in
    let e = c.program.ensures.program in
    let is = ap (λ (b : Boxed). b.event) c.event.view_is in
    let stands = subst (λ q. Stands q s.0 s.1 (event_in c.event.inside.ended c.event.inside.run)) (sym e) (subst (Stands c.args.program.now s.0 s.1) (sym is) s.2) in
    if_refused c.from_residual.result
    (subst (λ v. MayWantIn c.args.program.now v c.args.body.now.fields) is
    (subst (λ q. MayWantIn q (event_in c.event.inside.ended c.event.inside.run) c.args.body.now.fields) e
    (wants_there c.program.result.now s.0 s.1 c.event.inside.ended c.event.inside.run c.args.body.now.fields stands c.in_err-why.ensures.wants)))

pub returns-in_err-leave-in-Go-clause-wants : goal.returns-in_err-leave-in-Go-clause-wants
returns-in_err-leave-in-Go-clause-wants c =
    let s = c.requires.stands in
    let e = c.program.ensures.program in
    let is = ap (λ (b : Boxed). b.event) c.event.view_is in
    let stands = subst (λ q. Stands q s.0 s.1 (event_in c.event.inside.ended c.event.inside.run)) (sym e) (subst (Stands c.args.program.now s.0 s.1) (sym is) s.2) in
    if_refused c.from_residual-in_err-leave-in-Go.result
    (subst (λ v. MayWantIn c.args.program.now v c.args.body.now.fields) is
    (subst (λ q. MayWantIn q (event_in c.event.inside.ended c.event.inside.run) c.args.body.now.fields) e
    (wants_down c.program.result.now s.0 s.1 c.event.inside.ended c.event.inside.run c.pause.new.self c.args.body.now.fields c.pause.new.fields c.in_ok-why.why stands c.in_ok-why.ensures.did c.in-Go.is)))

pub pause-requires-clause-linked : goal.pause-requires-clause-linked
pause-requires-clause-linked c = subst (λ q. AreLinked q c.links.result.now) (sym c.program.ensures.program) c.links.ensures

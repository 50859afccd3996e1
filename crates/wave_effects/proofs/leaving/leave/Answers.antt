use Rattle.std.proofs.Common.{◌≡◌, ◌∙◌, ◌++◌, ◌∷◌, [], false, Some, sym, ap, subst}
use Rattle.wave_base.specs.Places.{move_of}
use Rattle.wave_base.specs.Paths.{is_above, parent_of}
use Rattle.event_cells.specs.Cells.{StandsFor, with_actor}
use Rattle.code_actor.specs.CodeActors.{Fields, pause_of}
use Rattle.context_queue.specs.Entries.{record_of}
use Rattle.wave_states.specs.States as theory
use Rattle.wave_states.specs.States.{hold_at, holds_as_peek}
use Rattle.wave_states.specs.Desks.{give_up, send}
use Rattle.wave_states.specs.Steps.{host_or}
use Rattle.wave_effects.specs.inner.Leaving.{Tells, into, onward, stopped_by}
use Rattle.wave_effects.proofs.Ways.{back_left, down_left, go_left, into_path, mail_there, no_mail}
use Rattle.wave_effects.proofs.leaving.leave.Goals as goal

pub returns-in-Over-clause-part : goal.returns-in-Over-clause-part
returns-in-Over-clause-part c = λ d x y en r peek stands at is none tells left.
    let p = c.args.lease.path in
    let h = c.args.host.0 in
    let d' = with_actor d (Some c.args.lease.actor) theory.Travelling in
    let same = no_mail r c.args.mail c.args.lease.body (subst (λ why. Tells (onward h p (record_of r) d.event.held peek why) r c.args.mail c.args.lease.body) c.in-Over.is tells) in
    c.over.ensures.part d' x y en c.in-Over.result peek (c.put_back.ensures.desk d stands) at is c.moved_to-to.ensures
    ((λ j. stopped_by move_of p h x d' en (record_of (same j)) peek (pause_of (sym c.in-Over.is j)) (holds_as_peek d.event.held p)) ∙ left)

pub returns-in-Go-clause-part : goal.returns-in-Go-clause-part
returns-in-Go-clause-part c = λ d x y en r peek stands at is none tells left.
    let p = c.args.lease.path in
    let h = c.args.host.0 in
    let s = c.in-Go.field-0 in
    let d' = with_actor d (Some c.args.lease.actor) theory.Travelling in
    let way = into h p (record_of r) s peek (hold_at d.event.held (p ++ s ∷ [])) in
    let mail = mail_there way r c.args.mail c.args.lease.body (subst (λ why. Tells (onward h p (record_of r) d.event.held peek why) r c.args.mail c.args.lease.body) c.in-Go.is tells) in
    let sent = c.go_on-top.ensures.desk mail.0 d' way.0 mail.1 (c.put_back.ensures.desk d stands) mail.2 in
    let top : c.go_on-top.result ≡ p ++ s ∷ [] = sent.1 ∙ into_path h p (record_of r) s peek (hold_at d.event.held (p ++ s ∷ [])) in
    go_left c.release_outside.new.self c.go_on-top.new.store p h x y move_of d' en (record_of r) peek s c.args.lease.body none mail.3 (c.go_on-top.ensures.here x.column h en at is) (holds_as_peek d.event.held p)
    (ap (λ why. stopped_by move_of p h x d' en (record_of r) peek (pause_of why) (holds_as_peek d.event.held p)) (sym c.in-Go.is) ∙ left)
    (subst (λ q. StandsFor c.release_outside.new.self (give_up (is_above q) (send d' way.0))) top (c.release_outside.ensures.desk (send d' way.0) sent.0))

pub returns-in-Down-clause-part : goal.returns-in-Down-clause-part
returns-in-Down-clause-part c = λ d x y en r peek stands at is none tells left.
    let p = c.args.lease.path in
    let h = c.args.host.0 in
    let s = c.in-Down.field-0 in
    let d' = with_actor d (Some c.args.lease.actor) theory.Travelling in
    let way = into h p (record_of r) s false (hold_at d.event.held (p ++ s ∷ [])) in
    let mail = mail_there way r c.args.mail c.args.lease.body (subst (λ why. Tells (onward h p (record_of r) d.event.held peek why) r c.args.mail c.args.lease.body) c.in-Down.is tells) in
    let sent = c.go_on.ensures.desk mail.0 d' way.0 mail.1 (c.put_back.ensures.desk d stands) mail.2 in
    down_left c.go_on.new.cell c.go_on.new.store p h x y move_of d' en (record_of r) peek s c.args.lease.body none mail.3 (c.go_on.ensures.here x.column h en at is) (holds_as_peek d.event.held p)
    (ap (λ why. stopped_by move_of p h x d' en (record_of r) peek (pause_of why) (holds_as_peek d.event.held p)) (sym c.in-Down.is) ∙ left) sent.0

pub returns-in-Back-clause-part : goal.returns-in-Back-clause-part
returns-in-Back-clause-part c = λ d x y en r peek stands at is none tells left.
    let p = c.args.lease.path in
    let h = c.args.host.0 in
    let d' = with_actor d (Some c.args.lease.actor) theory.Travelling in
    let m : theory.Mail Fields = record { host = host_or (hold_at d.event.held (parent_of p)) h; path = parent_of p; letter = theory.Back } in
    let mail = mail_there (m, record_of r) r c.args.mail c.args.lease.body (subst (λ why. Tells (onward h p (record_of r) d.event.held peek why) r c.args.mail c.args.lease.body) c.in-Back.is tells) in
    let sent = c.go_on-in-Back.ensures.desk mail.0 d' m mail.1 (c.put_back.ensures.desk d stands) mail.2 in
    back_left c.go_on-in-Back.new.cell c.go_on-in-Back.new.store p h x y move_of d' en (record_of r) peek c.args.lease.body none mail.3 (c.go_on-in-Back.ensures.here x.column h en at is) (holds_as_peek d.event.held p)
    (ap (λ why. stopped_by move_of p h x d' en (record_of r) peek (pause_of why) (holds_as_peek d.event.held p)) (sym c.in-Back.is) ∙ left) sent.0

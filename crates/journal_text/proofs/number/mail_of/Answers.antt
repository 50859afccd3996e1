use Rattle.journal_text.proofs.MailLemmas.{mail_found, ticket_part, number_part}
use Rattle.journal_text.proofs.number.mail_of.Goals as goal

pub returns-in_err-ticket : goal.returns-in_err-ticket
returns-in_err-ticket c m h e =
    let part = ticket_part c.args.text.now c.parts_at.result.0.now c.parts_at.result.1.now c.ticket_of.result m c.parts_at.ensures.parts c.ticket_of.ensures h e in
    absurd (cc (part, c.in_err-ticket.was))

pub returns-in_err-number : goal.returns-in_err-number
returns-in_err-number c m h e =
    let part = number_part c.args.text.now c.parts_at.result.0.now c.parts_at.result.1.now c.u32_of.result m c.parts_at.ensures.parts c.u32_of.ensures h e in
    absurd (cc (part, c.in_err-number.was))

pub returns : goal.returns
returns c m h e =
    let ticket = ticket_part c.args.text.now c.parts_at.result.0.now c.parts_at.result.1.now c.ticket_of.result m c.parts_at.ensures.parts c.ticket_of.ensures h e in
    let number = number_part c.args.text.now c.parts_at.result.0.now c.parts_at.result.1.now c.u32_of.result m c.parts_at.ensures.parts c.u32_of.ensures h e in
    mail_found c.in_ok-ticket.ticket c.in_ok-number.number m (cc (ticket, c.in_ok-ticket.was)) (cc (number, c.in_ok-number.was))

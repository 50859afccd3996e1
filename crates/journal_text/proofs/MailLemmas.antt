-- The parts of a mail in a line.
use Rattle.std.proofs.Common.{◌≡◌, ℕ, List, Option, Some}
use Rattle.std.specs.Fmt.{decimal}
use Rattle.wave_base.specs.declared.numbers.Ticket.{Ticket}
use Rattle.wave_labels.specs.declared.label.MailId.{MailId}
use Rattle.journal_text.specs.Fits.{IsMail}
use Rattle.journal_text.specs.LabelTexts.{ticket_text, mail_text}
use Rattle.wave_text.specs.Numbers.{IsNumberOf}
use Rattle.wave_text.specs.Splits.{ArePartsAt}
use Rattle.journal_text.specs.inner.Parts.{IsTicketOf}
use Rattle.journal_text.proofs.SolidLemmas.{ticket_no_dot}

module _ (text front rest : List ℕ) where
  pub ticket_part : (o : Option Ticket) (m : MailId) → ArePartsAt 46 text front rest → IsTicketOf front o → IsMail m → text ≡ mail_text m → o ≡ Some m.ticket
  ticket_part o m parts of h e = of m.ticket h.ticket (parts.cut (ticket_text m.ticket) (decimal m.number) (ticket_no_dot m.ticket h.ticket) e).0

  pub number_part : (o : Option ℕ) (m : MailId) → ArePartsAt 46 text front rest → IsNumberOf 32 rest o → IsMail m → text ≡ mail_text m → o ≡ Some m.number
  number_part o m parts of h e = of m.number h.number (parts.cut (ticket_text m.ticket) (decimal m.number) (ticket_no_dot m.ticket h.ticket) e).1

pub mail_found : (t : Ticket) (n : ℕ) (m : MailId) → t ≡ m.ticket → n ≡ m.number → Some (record { ticket = t; number = n }) ≡ Some m
mail_found t n m p q = λ i. Some (record { ticket = p i; number = q i })

-- What a machine keeps of a ticket, as a plain value.
use Rattle.std.specs.Prelude.{Option, refl}
use Rattle.std.specs.Coded.{Coded, code_by, coded×, coded_option}
use Rattle.event_cells.specs.declared.status.Status.{Status}
use Rattle.event_cells.specs.contracts.status.Status as status
use Rattle.event_cells.specs.Keeps.{Holding, Sending, holding_code, sending_code}

-- the code that is still to run, while it is here; what is held; the mails under way; and how far it has come
pub record Card (A : Type 0) : Type 0 where
  pub actor : Option A
  pub held : Holding
  pub outbox : Sending
  pub status : Status

-- it is stored as its parts
abbrev pub card_code : {A : Type 0} → Coded A → Coded (Card A)
card_code {A} code =
    code_by (Option A × (Holding × (Sending × Status))) (coded× (coded_option code) (coded× holding_code (coded× sending_code status.the_row.coded))) (λ c. (c.actor, (c.held, (c.outbox, c.status))))
    (λ p. record { actor = p.0; held = p.1.0; outbox = p.1.1.0; status = p.1.1.1 }) (λ _. refl)

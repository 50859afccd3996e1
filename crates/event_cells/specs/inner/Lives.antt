-- What lies in a cell: all of an event that is not done, and of one that is done no more than how many mails it sent.
use Rattle.std.specs.Prelude.{◌≡◌, ℕ, [], None}
use Rattle.event_cells.specs.declared.cell.Life.{Life}
use Rattle.event_cells.specs.declared.cell.Life.TheVariants as life
use Rattle.event_cells.specs.declared.live.Live.{Live}
use Rattle.event_cells.specs.declared.status.Status.TheVariants.{Ended}
use Rattle.event_cells.specs.Cards.{Card}

module _ {A : Type 0} where
  abbrev pub live_card : Live A → Card A
  live_card l = record { actor = l.actor; held = l.held; outbox = l.outbox; status = l.status }

  -- it has ended, without an actor, a hold or a mail
  abbrev pub done_card : ℕ → Card A
  done_card n = record { actor = None; held = record { holds = []; room = 0 }; outbox = record { sent = n; mails = []; room = 0 }; status = Ended }

  abbrev pub card_of : Life A → Card A
  card_of (life.Live l) = live_card l.value
  card_of (life.Done n) = done_card n

  -- nothing of it is left, but that it sent so many mails
  pub record IsAtRest (l : Live A) (n : ℕ) : Type 0 where
    pub actor : l.actor ≡ None
    pub held : l.held.holds ≡ []
    pub sent : l.outbox.sent ≡ n
    pub mails : l.outbox.mails ≡ []
    pub status : l.status ≡ Ended

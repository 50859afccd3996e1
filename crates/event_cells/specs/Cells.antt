-- How a cell stands for what the machine's theory has of a ticket: its event with its mails under way.
use Rattle.std.specs.Prelude.{◌≡◌, ℕ, Bool, true, false, List, [], map, Option, Some, None, option_map, nat_eq}
use Rattle.wave_base.specs.declared.path.Path.{Path}
use Rattle.wave_base.specs.declared.value.Value.{Value}
use Rattle.context_queue.specs.Entries.{entry_of}
use Rattle.migration_core.specs.declared.mail.Letter.{Letter}
use Rattle.migration_core.specs.declared.mail.Letter.TheVariants as letter
use Rattle.migration_core.specs.Letters.{Says}
use Rattle.event_cells.specs.declared.cell.Cell.{Cell}
use Rattle.event_cells.specs.declared.held.Hold.{Hold}
use Rattle.event_cells.specs.declared.outbox.Envelope.{Envelope}
use Rattle.event_cells.specs.declared.status.Status.{Status}
use Rattle.event_cells.specs.declared.status.Status.TheVariants.{Travelling, Waiting, Ready, Running, Ended}
use Rattle.event_cells.specs.Keeps.{mail_in}
use Rattle.wave_states.specs.States as theory
use Rattle.wave_states.specs.States.{set}
use Rattle.wave_states.specs.Desks.{Desk}

-- the hold and the status that the theory has
abbrev pub hold_of : Hold → theory.Hold
hold_of h = record { host = h.host.0; peek = h.peek }

abbrev pub held_of : Path × Hold → Path × theory.Hold
held_of x = (x.0, hold_of x.1)

abbrev pub status_of : Status → theory.Status
status_of Travelling = theory.Travelling
status_of (Waiting p) = theory.Waiting p
status_of (Ready p) = theory.Ready p
status_of (Running p) = theory.Running p
status_of Ended = theory.Ended

-- it has ended
abbrev pub is_over : Status → Bool
is_over Ended = true
is_over _ = false

-- a mail under way stands for one of the theory
pub record IsEnvelope (e : Envelope) (m : theory.Mail (List Value)) : Type 0 where
  pub host : m.host ≡ e.to.0
  pub path : m.path ≡ e.path
  pub letter : Says e.letter m.letter

-- none for none, and one that stands for the other
abbrev pub Carries : Option Envelope → Option (theory.Mail (List Value)) → Type 0
Carries None None = Unit {0}
Carries (Some e) (Some m) = IsEnvelope e m
Carries None (Some m) = ⊥
Carries (Some e) None = ⊥

-- The cell stands for an event with its mails under way. Of an event that has ended it need not keep the actor.
pub record StandsFor {A : Type 0} (c : Cell A) (d : Desk A (List Value)) : Type 0 where
  pub actor : is_over c.status ≡ false → d.event.actor ≡ c.actor
  pub held : d.event.held ≡ map held_of c.held.holds
  pub sent : d.event.sent ≡ c.outbox.sent
  pub status : d.event.status ≡ status_of c.status
  pub mails : (k : ℕ) → Carries (mail_in c.outbox.mails k) (d.mails k)

-- the one that it stands for where an entry that moves has those that only look in the order of their tickets
abbrev pub letter_of : Letter → theory.Letter (List Value)
letter_of (letter.Enter number followed peek) = theory.Enter (record { number = number; followed = followed; peek = peek })
letter_of letter.Visit = theory.Visit
letter_of letter.Back = theory.Back
letter_of letter.Release = theory.Release
letter_of (letter.Transfer e) = theory.Transfer (entry_of e)

abbrev pub mail_of : Envelope → theory.Mail (List Value)
mail_of e = record { host = e.to.0; path = e.path; letter = letter_of e.letter }

module _ {A : Type 0} where
  abbrev pub desk_in : Cell A → Desk A (List Value)
  desk_in c = record {
    event = record { actor = c.actor; held = map held_of c.held.holds; sent = c.outbox.sent; status = status_of c.status };
    mails = λ k. option_map mail_of (mail_in c.outbox.mails k);
  }

  -- an event that was just admitted: an Enter goes to the root, under its ticket as its entry number
  abbrev pub first_desk : A → ℕ → Bool → Desk A (List Value)
  first_desk a t peek = record {
    event = record { actor = Some a; held = []; sent = 1; status = theory.Travelling };
    mails = set nat_eq (λ k. None) 1 (Some (record { host = 0; path = []; letter = theory.Enter (record { number = t; followed = 0; peek = peek }) }));
  }

  -- its actor is away, or there, while it has another status
  abbrev pub with_actor : Desk A (List Value) → Option A → theory.Status → Desk A (List Value)
  with_actor d a status = record { event = record { actor = a; held = d.event.held; sent = d.event.sent; status = status }; mails = d.mails }

  abbrev pub with_held : Desk A (List Value) → List (Path × theory.Hold) → Desk A (List Value)
  with_held d held = record { event = record { actor = d.event.actor; held = held; sent = d.event.sent; status = d.event.status }; mails = d.mails }

  -- its mail under a number is another one, or none
  abbrev pub with_mail : Desk A (List Value) → ℕ → Option (theory.Mail (List Value)) → Desk A (List Value)
  with_mail d k m = record { event = d.event; mails = set nat_eq d.mails k m }

  -- the same but for the rooms
  pub record SameButRooms (c d : Cell A) : Type 0 where
    pub actor : d.actor ≡ c.actor
    pub held : d.held.holds ≡ c.held.holds
    pub sent : d.outbox.sent ≡ c.outbox.sent
    pub mails : d.outbox.mails ≡ c.outbox.mails
    pub status : d.status ≡ c.status

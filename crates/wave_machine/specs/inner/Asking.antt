-- What is asked for, read off what is kept of the head, the cells, the stores and the hands; and its order.
use Rattle.std.specs.Prelude.{◌+◌, ◌&&◌, ◌==◌, ℕ, suc, Bool, false, if◌then◌else◌, List, [], ◌∷◌, ◌++◌, flat_map, filter, length, Option, Some, None, option_map, slice_get}
use Rattle.std.specs.FinMap as table
use Rattle.wave_base.specs.declared.path.Path.{Path}
use Rattle.wave_base.specs.Fold.{tickets_from}
use Rattle.wave_base.specs.Paths.{path_eq}
use Rattle.wave_labels.specs.declared.label.Label as program
use Rattle.wave_labels.specs.Labels.{label_of}
use Rattle.head_tickets.specs.Heads.{Heading, next_ticket}
use Rattle.commit_order.specs.Commits.{Committing, ready_result}
use Rattle.context_queue.specs.declared.entry.Entry.{Entry}
use Rattle.context_queue.specs.Entries.{entry_of, next_in}
use Rattle.host_map.specs.Stores.{Stores, column_of}
use Rattle.migration_core.specs.declared.mail.Letter.{Letter}
use Rattle.migration_core.specs.declared.mail.Letter.TheVariants as letter
use Rattle.event_cells.specs.declared.cell.Cell.{Cell}
use Rattle.event_cells.specs.declared.outbox.Envelope.{Envelope}
use Rattle.event_cells.specs.declared.status.Status.{Status}
use Rattle.event_cells.specs.declared.status.Status.TheVariants.{Waiting, Ready, Running}
use Rattle.event_cells.specs.Cells.{is_over}
use Rattle.event_cells.specs.Keeps.{Sending, is_empty, mail_in}
use Rattle.wave_states.specs.Labels.{Act, Label, Admit, Queue, Grant, Visit, Start, Stop, Free, Pass, Land, Commit}
use Rattle.wave_states.specs.States.{Claim}
use Rattle.wave_states.specs.Steps.{Route, Deliver, Born, Wait, Forward, route}
use Rattle.wave_theory.specs.Listed.{kind_rank}
use Rattle.wave_effects.specs.declared.actor.Actor.{Actor}
use Rattle.wave_effects.specs.declared.kept.Out.{Out}
use Rattle.wave_effects.specs.Keeping.{place_in}
use Rattle.wave_effects.specs.Machines.{Kept}

-- one that may be there, as the theory has it
abbrev pub labels_in : Option program.Label → List Label
labels_in None = []
labels_in (Some l) = label_of l ∷ []

-- for each of these, the first of which has this ticket
abbrev pub by_ticket : {C X : Type 0} → (ℕ → C → List X) → ℕ → List C → List X
by_ticket f t [] = []
by_ticket f t (c ∷ cs) = f t c ++ by_ticket f (suc t) cs

-- the labels of the worker that takes them, if there is one
abbrev pub by_taker : Option ℕ → (ℕ → List Label) → List Label
by_taker None f = []
by_taker (Some w) f = f w

abbrev pub label_at : ℕ → ℕ → Option Act → List Label
label_at w host None = []
label_at w host (Some a) = record { worker = w; host = host; act = a } ∷ []

-- what an Enter can do, by its route
abbrev pub enter_act : ℕ → ℕ → Path → Route → Option Act
enter_act t k p Deliver = Some (Queue t k p)
enter_act t k p Born = Some (Queue t k p)
enter_act t k p Wait = None
enter_act t k p (Forward g) = Some (Pass t k p g)

abbrev pub route_at : Option Stores → Path → ℕ → Route
route_at None p followed = Wait
route_at (Some st) p followed = route (column_of st p) 0 followed

-- the ticket is the next in line, and gets in
abbrev pub is_claim : ℕ → Option Claim → Bool
is_claim t None = false
is_claim t (Some c) = c.ticket == t

abbrev pub is_next_in : ℕ → Option Entry → Bool
is_next_in t None = false
is_next_in t (Some e) = is_claim t (next_in (entry_of e))

abbrev pub is_next : ℕ → Path → Option Stores → Bool
is_next t p None = false
is_next t p (Some st) = is_next_in t (table.get st.store p)

-- a worker has a segment of the ticket at the path out
abbrev pub runs_out : Option (Option Out) → ℕ → Path → Bool
runs_out None t p = false
runs_out (Some None) t p = false
runs_out (Some (Some o)) t p = (o.ticket.0 == t) && path_eq o.path p

abbrev pub stop_if : Bool → ℕ → ℕ → ℕ → Path → List Label
stop_if b w h t p = if b then record { worker = w; host = h; act = Stop t p } ∷ [] else []

module _ (stores : List Stores) where
  -- what a mail can do
  abbrev pub mail_act : ℕ → ℕ → ℕ → Path → Letter → Option Act
  mail_act t k host p (letter.Enter number followed peek) = enter_act t k p (route_at (slice_get stores host) p followed)
  mail_act t k host p letter.Visit = Some (Visit t k p)
  mail_act t k host p letter.Back = Some (Visit t k p)
  mail_act t k host p letter.Release = Some (Free t k p)
  mail_act t k host p (letter.Transfer e) = Some (Land t k p)

  abbrev pub mail_labels : ℕ → ℕ → ℕ → Option Envelope → List Label
  mail_labels w t k None = []
  mail_labels w t k (Some e) = label_at w e.to.0 (mail_act t k e.to.0 e.path e.letter)

  -- all mails of a ticket, by their numbers
  abbrev pub mails_labels : ℕ → ℕ → Sending → List Label
  mails_labels w t o = flat_map (λ k. mail_labels w t k (mail_in o.mails k)) (tickets_from 1 o.sent)

  abbrev pub grant_labels : ℕ → ℕ → Path → Option ℕ → List Label
  grant_labels w t p None = []
  grant_labels w t p (Some h) = if is_next t p (slice_get stores h) then record { worker = w; host = h; act = Grant t p } ∷ [] else []

  abbrev pub start_labels : ℕ → ℕ → Path → Option ℕ → List Label
  start_labels w t p None = []
  start_labels w t p (Some h) = record { worker = w; host = h; act = Start t p } ∷ []

  -- what an idle worker can do by a status
  abbrev pub status_labels : ℕ → ℕ → Status → List Label
  status_labels w t (Waiting p) = grant_labels w t p (place_in stores p)
  status_labels w t (Ready p) = start_labels w t p (place_in stores p)
  status_labels w t _ = []

  module _ (hands : List (Option Out)) where
    -- a Stop is its running worker's
    abbrev pub stop_labels : List ℕ → ℕ → Path → Option ℕ → List Label
    stop_labels ws t p None = []
    stop_labels ws t p (Some h) = flat_map (λ w. stop_if (runs_out (slice_get hands w) t p) w h t p) ws

    abbrev pub stops_labels : List ℕ → ℕ → Status → List Label
    stops_labels ws t (Running p) = stop_labels ws t p (place_in stores p)
    stops_labels ws t _ = []

    -- what a ticket's status and mails ask for; one that is done is passed by
    abbrev pub cell_labels : Option ℕ → List ℕ → ℕ → Cell Actor → List Label
    cell_labels idle ws t c =
        if is_over c.status && is_empty c.outbox.mails then []
        else (stops_labels ws t c.status ++ by_taker idle (λ w. status_labels w t c.status ++ mails_labels w t c.outbox))

-- the next ticket, and the next to be committed
abbrev pub admit_labels : ℕ → Heading → List Label
admit_labels w h = label_at w 0 (option_map (λ t. Admit t.0) (next_ticket h))

abbrev pub commit_labels : ℕ → ℕ → Committing → List Label
commit_labels w t c = label_at w 0 (option_map (λ r. Commit t) (ready_result c))

-- all that is asked for
abbrev pub asked_in : Kept → Option ℕ → List ℕ → List Label
asked_in m idle ws =
    by_taker idle (λ w. admit_labels w m.head ++ commit_labels w (m.first + length m.settled.results) m.commits)
    ++ by_ticket (cell_labels m.stores m.hands idle ws) m.first m.cells

-- by kind, and those of a kind as they were
abbrev pub of_kind : ℕ → List Label → List Label
of_kind k ls = filter (λ l. kind_rank l.act == k) ls

abbrev pub in_order : List Label → List Label
in_order ls = flat_map (λ k. of_kind k ls) (tickets_from 0 10)

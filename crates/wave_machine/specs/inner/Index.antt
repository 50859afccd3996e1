-- The list of what can be done, as it is kept from label to label: its order, the parts in which it is searched, and what each ticket has in it.
use Rattle.std.specs.Prelude.{◌≡◌, ◌⊎◌, ◌≤◌, ◌<◌, ◌+◌, ◌^◌, ◌-◌, ◌&&◌, ◌||◌, ◌==◌, ℕ, zero, suc, Bool, true, false, if◌then◌else◌, List, [], ◌∷◌, ◌++◌, filter, flat_map, length, map, nat_lt, not, Option, Some, None, option_map, slice_get, vec_len, vec_capacity}
use Rattle.std.specs.List.{AllByRecursion}
use Rattle.wave_base.specs.declared.numbers.Ticket.{Ticket}
use Rattle.wave_base.specs.declared.path.Path.{Path}
use Rattle.wave_base.specs.Fold.{tickets_from}
use Rattle.wave_base.specs.Paths.{path_eq}
use Rattle.wave_labels.specs.Labels.{act_of}
use Rattle.migration_core.specs.declared.mail.Letter.{Letter}
use Rattle.migration_core.specs.declared.mail.Letter.TheVariants as letter
use Rattle.event_cells.specs.declared.cell.Cell.{Cell}
use Rattle.event_cells.specs.declared.outbox.Envelope.{Envelope}
use Rattle.event_cells.specs.declared.status.Status.{Status}
use Rattle.event_cells.specs.declared.status.Status.TheVariants as status
use Rattle.event_cells.specs.Keeps.{mail_in}
use Rattle.host_map.specs.Stores.{Stores}
use Rattle.wave_states.specs.Labels.{Act, Label, Admit, Queue, Visit, Free, Pass, Land, Commit, path_of, ticket_of}
use Rattle.wave_theory.specs.Listed.{IsIn, kind_rank}
use Rattle.wave_effects.specs.declared.actor.Actor.{Actor}
use Rattle.wave_machine.specs.declared.listed.Listed.{Listed}
use Rattle.wave_machine.specs.declared.ready.Ready.{Ready}
use Rattle.wave_effects.specs.Ending.{is_done}
use Rattle.wave_effects.specs.Keeping.{kept_of}
use Rattle.wave_effects.specs.Machines.{Kept}
use Rattle.wave_machine.specs.inner.Asking.{admit_labels, commit_labels, in_order, label_at, mail_labels, mails_labels, status_labels}
use Rattle.wave_machine.specs.inner.Done.{AreDone}

-- as worker 0 takes it
abbrev pub by_none : Ready → Label
by_none r = record { worker = 0; host = r.host.0; act = act_of r.act }

-- ---- places

-- the number of a label's mail; 0 where it has none
abbrev pub act_number : Act → ℕ
act_number (Queue t k p) = k
act_number (Visit t k p) = k
act_number (Free t k p) = k
act_number (Pass t k p g) = k
act_number (Land t k p) = k
act_number _ = 0

-- a slot is a ticket t and a number k; it comes before another by ticket, and of a ticket by number
abbrev pub is_before : ℕ → ℕ → ℕ → ℕ → Bool
is_before t k u j = nat_lt t u || ((t == u) && nat_lt k j)

-- it comes before those of a kind whose slots are from this one on
abbrev pub under : ℕ → ℕ → ℕ → Act → Bool
under kind t k a = nat_lt (kind_rank a) kind || ((kind_rank a == kind) && is_before (ticket_of a) (act_number a) t k)

-- it is of a kind and a slot
abbrev pub is_of : ℕ → ℕ → ℕ → Option Ready → Bool
is_of kind t k None = false
is_of kind t k (Some r) = (kind_rank (act_of r.act) == kind) && ((ticket_of (act_of r.act) == t) && (act_number (act_of r.act) == k))

-- the list in two parts: what comes before those of a kind whose slots are from this one on, and the rest
pub record Parted (ls : List Label) (kind t k : ℕ) (low high : List Label) : Type 0 where
  pub all : ls ≡ low ++ high
  pub lower : AllByRecursion (λ (l : Label). under kind t k l.act ≡ true) low
  pub higher : AllByRecursion (λ (l : Label). under kind t k l.act ≡ false) high

-- a number from one to another
pub record Between (a n b : ℕ) : Type 0 where
  pub above : a ≤ n
  pub under : n ≤ b

-- the slot (t, k) is before the slot (u, j), or it is that one or before it
pub record IsBefore (t k u j : ℕ) : Type 0 where
  pub ticket : t ≤ u
  pub number : t ≡ u → k < j

pub record IsUpTo (t k u j : ℕ) : Type 0 where
  pub ticket : t ≤ u
  pub number : t ≡ u → k ≤ j

-- the slots of a kind are below one, or from it on
abbrev pub Low : ℕ → ℕ → ℕ → Label → Type 0
Low kind t k l = kind_rank l.act ≡ kind → IsBefore (ticket_of l.act) (act_number l.act) t k

abbrev pub High : ℕ → ℕ → ℕ → Label → Type 0
High kind t k l = kind_rank l.act ≡ kind → IsUpTo t k (ticket_of l.act) (act_number l.act)

-- worker 0's, of which its kind has only lower slots before it, and none of them behind it
abbrev pub Goes : List Label → List Label → List Label → Type 0
Goes [] u v = Unit {0}
Goes (l ∷ ls) u v = (l.worker ≡ 0) × (AllByRecursion (Low (kind_rank l.act) (ticket_of l.act) (act_number l.act)) u × AllByRecursion (High (kind_rank l.act) (ticket_of l.act) (act_number l.act)) v)

-- ---- what a ticket has in the list: under number 0 what its status asks for, under the others what its mails ask for

-- a status asks for a Grant or a Start; a mail asks for a Queue, Visit, Free, Pass or Land
abbrev pub kinds_at : ℕ → List ℕ
kinds_at zero = 2 ∷ 4 ∷ []
kinds_at (suc k) = 1 ∷ 3 ∷ 6 ∷ 7 ∷ 8 ∷ []

-- a slot's, as worker 0 takes it
pub record IsOwn (t k : ℕ) (l : Label) : Type 0 where
  pub worker : l.worker ≡ 0
  pub ticket : ticket_of l.act ≡ t
  pub number : act_number l.act ≡ k
  pub kind : IsIn (kinds_at k) (kind_rank l.act)

-- neither an Admit nor a Commit, which the head asks for
abbrev pub IsInner : Label → Type 0
IsInner l = (1 ≤ kind_rank l.act) × (kind_rank l.act ≤ 8)

-- what slots ask for is below one, or from it on
abbrev pub IsBelow : ℕ → ℕ → Label → Type 0
IsBelow t k l = IsInner l → IsBefore (ticket_of l.act) (act_number l.act) t k

abbrev pub IsFrom : ℕ → ℕ → Label → Type 0
IsFrom t k l = IsInner l → IsUpTo t k (ticket_of l.act) (act_number l.act)

abbrev pub Below : ℕ → ℕ → List Label → Type 0
Below t k ls = AllByRecursion (IsBelow t k) ls

abbrev pub From : ℕ → ℕ → List Label → Type 0
From t k ls = AllByRecursion (IsFrom t k) ls

-- these were added, of a ticket's slots from one number on
pub record Lists (t k : ℕ) (old new : List Ready) (x : List Label) : Type 0 where
  pub parts : (u v : List Label) → Below t k u → From (t + 1) 0 v → map by_none old ≡ in_order (u ++ v) → map by_none new ≡ in_order ((u ++ x) ++ v)

-- what a slot had of a kind was taken out
abbrev pub without : ℕ → List Label → List Label
without kind ls = filter (λ (l : Label). not (kind_rank l.act == kind)) ls

pub record CutsKind (kind t k : ℕ) (old new : List Ready) : Type 0 where
  pub parts : (u x v : List Label) → Below t k u → AllByRecursion (IsOwn t k) x → length x ≤ 1 → From t (k + 1) v → map by_none old ≡ in_order (u ++ (x ++ v)) → map by_none new ≡ in_order (u ++ (without kind x ++ v))

-- what a slot had was taken out
pub record Cuts (t k : ℕ) (old new : List Ready) : Type 0 where
  pub parts : (u x v : List Label) → Below t k u → AllByRecursion (IsOwn t k) x → length x ≤ 1 → From t (k + 1) v → map by_none old ≡ in_order (u ++ (x ++ v)) → map by_none new ≡ in_order (u ++ v)

abbrev pub asked_of : List Stores → ℕ → Cell Actor → List Label
asked_of stores t c = status_labels stores 0 t c.status ++ mails_labels stores 0 t c.outbox

abbrev pub asked_by : List Stores → ℕ → Option (Cell Actor) → List Label
asked_by stores t None = []
asked_by stores t (Some c) = asked_of stores t c

-- the cell of a ticket, where it was admitted in this run
abbrev pub cell_at : Kept → ℕ → Option (Cell Actor)
cell_at m t = if nat_lt t m.first then None else slice_get m.cells (t - m.first)

abbrev pub asked_at : Kept → ℕ → List Label
asked_at m t = asked_by m.stores t (cell_at m t)

-- what a number of a ticket asks for
abbrev pub asked_as : List Stores → ℕ → Cell Actor → ℕ → List Label
asked_as stores t c zero = status_labels stores 0 t c.status
asked_as stores t c (suc k) = mail_labels stores 0 t (suc k) (mail_in c.outbox.mails (suc k))

abbrev pub slot_by : List Stores → ℕ → ℕ → Option (Cell Actor) → List Label
slot_by stores t k None = []
slot_by stores t k (Some c) = asked_as stores t c k

abbrev pub slot_at : Kept → ℕ → ℕ → List Label
slot_at m t k = slot_by m.stores t k (cell_at m t)

-- whether a status may ask for something
abbrev pub asks_in : Status → Bool
asks_in (status.Waiting p) = true
asks_in (status.Ready p) = true
asks_in _ = false

abbrev pub asks_by : Option (Cell Actor) → Bool
asks_by None = false
asks_by (Some c) = asks_in c.status

abbrev pub asks_at : Kept → ℕ → Bool
asks_at m t = asks_by (cell_at m t)

-- how many numbers a ticket has
abbrev pub numbers_in : Option (Cell Actor) → ℕ
numbers_in None = 0
numbers_in (Some c) = 1 + c.outbox.sent

-- what all tickets of the run have in the list, by ticket; and by ticket and number
abbrev pub by_part : Kept → (ℕ → List Label) → List Label
by_part m part = flat_map part (tickets_from m.first (length m.cells))

abbrev pub by_slot : Kept → (ℕ → ℕ → List Label) → List Label
by_slot m part = by_part m (λ t. flat_map (part t) (tickets_from 0 (numbers_in (cell_at m t))))

-- and one number that has something else
abbrev pub with_slot : (ℕ → ℕ → List Label) → ℕ → ℕ → List Label → ℕ → ℕ → List Label
with_slot part t k ls u j = if (u == t) && (j == k) then ls else part u j

-- each has one at most, its own
pub record AreOwn (part : ℕ → ℕ → List Label) : Type 0 where
  pub own : (u j : ℕ) → AllByRecursion (IsOwn u j) (part u j)
  pub one : (u j : ℕ) → length (part u j) ≤ 1

-- what a head asks for: an Admit at most, and a Commit at most
abbrev pub head_of : Option ℕ → Option ℕ → List Label
head_of o p = label_at 0 0 (option_map (λ t. Admit t) o) ++ label_at 0 0 (option_map (λ t. Commit t) p)

pub record IsHead (h : List Label) : Type 0 where
  pub admit : Option ℕ
  pub commit : Option ℕ
  pub are : h ≡ head_of admit commit

-- what a number of a ticket has in the list is now what it asks for; the head's stays
pub record Relists (m : Kept) (t k : ℕ) (old new : List Ready) : Type 0 where
  pub parts : (h : List Label) → IsHead h → (part : ℕ → ℕ → List Label) → AreOwn part → map by_none old ≡ in_order (h ++ by_slot m part) → map by_none new ≡ in_order (h ++ by_slot m (with_slot part t k (slot_at m t k)))

-- the same for its status, which had nothing in the list where it is not asked
pub record RelistsStatus (m : Kept) (t : ℕ) (asked : Bool) (old new : List Ready) : Type 0 where
  pub parts : (h : List Label) → IsHead h → (part : ℕ → ℕ → List Label) → AreOwn part → (asked ≡ false → part t 0 ≡ []) → map by_none old ≡ in_order (h ++ by_slot m part) → map by_none new ≡ in_order (h ++ by_slot m (with_slot part t 0 (slot_at m t 0)))

-- what its status asks for, and one of its mails (number 0 where there is none)
abbrev pub with_own : Kept → ℕ → ℕ → (ℕ → ℕ → List Label) → ℕ → ℕ → List Label
with_own m t k part = with_slot (with_slot part t 0 (slot_at m t 0)) t k (slot_at m t k)

pub record RelistsOwn (m : Kept) (t k : ℕ) (asked : Bool) (old new : List Ready) : Type 0 where
  pub parts : (h : List Label) → IsHead h → (part : ℕ → ℕ → List Label) → AreOwn part → (asked ≡ false → part t 0 ≡ []) → map by_none old ≡ in_order (h ++ by_slot m part) → map by_none new ≡ in_order (h ++ by_slot m (with_own m t k part))

-- of the next in a line its status, where there is one
abbrev pub with_next : Kept → Option ℕ → (ℕ → ℕ → List Label) → ℕ → ℕ → List Label
with_next m None part = part
with_next m (Some t) part = with_slot part t 0 (slot_at m t 0)

pub record RelistsNext (m : Kept) (next : Option ℕ) (old new : List Ready) : Type 0 where
  pub parts : (h : List Label) → IsHead h → (part : ℕ → ℕ → List Label) → AreOwn part → map by_none old ≡ in_order (h ++ by_slot m part) → map by_none new ≡ in_order (h ++ by_slot m (with_next m next part))

-- of who was next in a line, and of who is now
pub record RelistsBoth (m : Kept) (before after : Option ℕ) (old new : List Ready) : Type 0 where
  pub parts : (h : List Label) → IsHead h → (part : ℕ → ℕ → List Label) → AreOwn part → map by_none old ≡ in_order (h ++ by_slot m part) → map by_none new ≡ in_order (h ++ by_slot m (with_next m after (with_next m before part)))

-- of a ticket the mails whose numbers are above one
abbrev pub with_above : Kept → ℕ → ℕ → (ℕ → ℕ → List Label) → ℕ → ℕ → List Label
with_above m t n part u j = if (u == t) && nat_lt n j then slot_at m t j else part u j

-- where those had nothing in the list
pub record ListsNew (m : Kept) (t n : ℕ) (old new : List Ready) : Type 0 where
  pub parts : (h : List Label) → IsHead h → (part : ℕ → ℕ → List Label) → AreOwn part → ((j : ℕ) → n < j → part t j ≡ []) → map by_none old ≡ in_order (h ++ by_slot m part) → map by_none new ≡ in_order (h ++ by_slot m (with_above m t n part))

-- A label of a ticket, on its mail of number k (0 where it is on none), before which the ticket had sent n mails and its status was asked or
-- had nothing in the list: what the status asks for, what that mail asks for, what the mails sent by it ask for, and what the statuses of who was and is next ask for.
pub record RelistsNear (m : Kept) (t k n : ℕ) (asked : Bool) (before after : Option ℕ) (old new : List Ready) : Type 0 where
  pub parts : (h : List Label) → IsHead h → (part : ℕ → ℕ → List Label) → AreOwn part → (asked ≡ false → part t 0 ≡ []) → ((j : ℕ) → n < j → part t j ≡ []) → k ≤ n → map by_none old ≡ in_order (h ++ by_slot m part)
      → map by_none new ≡ in_order (h ++ by_slot m (with_next m after (with_next m before (with_above m t n (with_own m t k part)))))

-- a letter is an Enter
abbrev pub is_enter_letter : Letter → Bool
is_enter_letter (letter.Enter number followed peek) = true
is_enter_letter _ = false

-- an Enter to a context at a host
abbrev pub is_enter : ℕ → Path → Option Envelope → Bool
is_enter h p None = false
is_enter h p (Some e) = (e.to.0 == h) && (path_eq e.path p && is_enter_letter e.letter)

-- the mail of a ticket's number
abbrev pub mail_by : ℕ → Option (Cell Actor) → Option Envelope
mail_by j None = None
mail_by j (Some c) = mail_in c.outbox.mails j

abbrev pub mail_at : Kept → ℕ → ℕ → Option Envelope
mail_at m u j = mail_by j (cell_at m u)

-- a slot of an Enter to a label's context, where that moved
abbrev pub IsEntering : Kept → Label → Bool → ℕ → ℕ → Type 0
IsEntering m l moved u j = (moved && is_enter l.host (path_of l.act) (mail_at m u j)) ≡ true

-- Each slot has what it asks for now, or what it had and need not have it.
pub record IsRenewed (m : Kept) (Must : ℕ → ℕ → Type 0) (old new : ℕ → ℕ → List Label) : Type 0 where
  pub own : AreOwn new
  pub each : (u j : ℕ) → (new u j ≡ slot_at m u j) ⊎ ((new u j ≡ old u j) × (Must u j → ⊥))

-- these slots, if not more, were listed anew; the head's stays
pub record Renews (m : Kept) (Must : ℕ → ℕ → Type 0) (old new : List Ready) : Type 0 where
  pub parts : (h : List Label) → IsHead h → (part : ℕ → ℕ → List Label) → AreOwn part → map by_none old ≡ in_order (h ++ by_slot m part)
      → (later : ℕ → ℕ → List Label) × IsRenewed m Must part later × (map by_none new ≡ in_order (h ++ by_slot m later))

-- one of the first mails, so many, has the number and is such an Enter
pub record IsAmong (h : ℕ) (p : Path) (mails : List (ℕ × Envelope)) (n j : ℕ) : Type 0 where
  pub at : ℕ
  pub low : at < n
  pub mail : ℕ × Envelope
  pub there : slice_get mails at ≡ Some mail
  pub number : mail.0 ≡ j
  pub enter : is_enter h p (Some mail.1) ≡ true

-- the Admit of the next ticket stands there
abbrev pub is_admit : Option Ticket → Option Ready → Bool
is_admit None r = false
is_admit (Some t) r = is_of 0 t.0 0 r

-- what the head asks for
abbrev pub head_in : Kept → List Label
head_in m = admit_labels 0 m.head ++ commit_labels 0 (m.first + length m.settled.results) m.commits

-- all that is asked for, in order
abbrev pub IsIndex : Kept → List Ready → Type 0
IsIndex m index = map by_none index ≡ in_order (head_in m ++ by_part m (asked_at m))

-- ---- how long it may be

-- one for the status and one for each mail; none where it is done
abbrev pub share_of : Cell Actor → ℕ
share_of c = if is_done c then 0 else 1 + length c.outbox.mails

abbrev pub share_by : Option (Cell Actor) → ℕ
share_by None = 0
share_by (Some c) = share_of c

abbrev pub share_at : Kept → ℕ → ℕ
share_at m t = share_by (cell_at m t)

abbrev pub weight_of : List (Cell Actor) → ℕ
weight_of [] = 0
weight_of (c ∷ cs) = share_of c + weight_of cs

-- how many mails a ticket has sent
abbrev pub sent_by : Option (Cell Actor) → ℕ
sent_by None = 0
sent_by (Some c) = c.outbox.sent

abbrev pub sent_at : Kept → ℕ → ℕ
sent_at m t = sent_by (cell_at m t)

-- how many contexts a ticket holds
abbrev pub held_by : Option (Cell Actor) → ℕ
held_by None = 0
held_by (Some c) = length c.held.holds

abbrev pub held_at : Kept → ℕ → ℕ
held_at m t = held_by (cell_at m t)

-- ---- what is kept

pub record IsListed (x : Listed) : Type 0 where
  pub index : IsIndex (kept_of x.engine) x.index.items
  pub done : AreDone (kept_of x.engine) x.done
  pub weight : weight_of (kept_of x.engine).cells ≤ x.weight

-- Room for what a label lists anew: what the status and the mail of its ticket, and the statuses of who was and is next, ask for; what
-- the mails ask for that came; what all Enters to its context ask for; and the head.
pub record HasRoom (x : Listed) (more : ℕ) : Type 0 where
  pub room : vec_len x.index + ((x.weight + more) + (x.weight + more) + 10) ≤ vec_capacity x.index
  pub fits : x.weight + more + 2 < 2 ^ 64

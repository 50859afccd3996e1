-- The list as one worker takes it.
use Rattle.std.proofs.Common.{◌≡◌, ◌∙◌, inl, inr, ℕ, zero, suc, ◌+◌, ◌-◌, ◌==◌, Bool, true, false, List, [], ◌∷◌, ◌++◌, length, map, is_none, Option, Some, None, refl, sym, ap, arith}
use Rattle.std.specs.Prelude.{flat_map, if◌then◌else◌, option_map, slice_get}
use Rattle.std.proofs.lemmas.List.{map-append}
use Rattle.wave_base.specs.declared.numbers.Ticket.{Ticket}
use Rattle.wave_base.specs.declared.outcome.EventResult.{EventResult}
use Rattle.wave_base.specs.declared.start.Start.{Start}
use Rattle.wave_base.specs.Fold.{tickets_from}
use Rattle.commit_order.specs.Commits.{ready_result}
use Rattle.head_tickets.specs.Heads.{next_ticket}
use Rattle.event_cells.specs.declared.cell.Cell.{Cell}
use Rattle.event_cells.specs.declared.outbox.Envelope.{Envelope}
use Rattle.event_cells.specs.declared.status.Status.{Status}
use Rattle.event_cells.specs.declared.status.Status.TheVariants as status
use Rattle.event_cells.specs.Keeps.{mail_in}
use Rattle.host_map.specs.Stores.{Stores}
use Rattle.wave_states.specs.Canonical.{enabled_for}
use Rattle.wave_states.specs.Labels.{Act, Label, Admit, Commit, Grant}
use Rattle.wave_theory.specs.Listed.{IsIn, kind_rank}
use Rattle.wave_theory.proofs.Basics.{some_same}
use Rattle.plan_actors.specs.PlanActors.{plan_actors}
use Rattle.wave_effects.specs.declared.actor.Actor.{Actor}
use Rattle.wave_effects.specs.declared.kept.Out.{Out}
use Rattle.wave_machine.specs.declared.ready.Ready.{Ready}
use Rattle.wave_effects.specs.Ending.{is_done}
use Rattle.wave_effects.specs.Machines.{Kept, Shows, TheState}
use Rattle.wave_machine.specs.Readies.{choice_of, ready_in, choice_from}
use Rattle.wave_machine.specs.inner.Asking.{admit_labels, asked_in, by_ticket, cell_labels, commit_labels, grant_labels, in_order, is_next, label_at, mail_act, mail_labels, mails_labels, of_kind, start_labels, status_labels, stop_if, stop_labels, stops_labels, runs_out}
use Rattle.wave_effects.specs.Keeping.{place_in}
use Rattle.wave_machine.specs.inner.Index.{IsIndex, asked_at, asked_of, by_none, by_part, head_in}
use Rattle.wave_machine.specs.inner.Listable.{CanList, one_more}
use Rattle.wave_machine.proofs.ListingLists.{by_ticket_is, filter_of_map, flat_same, map_flat}
use Rattle.wave_machine.proofs.ListingOwn.{own_lists}
use Rattle.wave_machine.proofs.Owned.{asked_here, done_asks}
use Rattle.wave_machine.proofs.Widened.{one_idle, shows_wider, wider}

-- another worker takes it
abbrev pub with_worker : ℕ → Label → Label
with_worker w l = record { worker = w; host = l.host; act = l.act }

abbrev Same : ℕ → List Label → List Label → Type 0
Same w xs ys = xs ≡ map (with_worker w) ys

label_same : (w h : ℕ) (o : Option Act) → Same w (label_at w h o) (label_at 0 h o)
label_same w h None = refl
label_same w h (Some a) = refl

module _ (stores : List Stores) (w t : ℕ) where
  mail_by : (k : ℕ) (o : Option Envelope) → Same w (mail_labels stores w t k o) (mail_labels stores 0 t k o)
  mail_by k None = refl
  mail_by k (Some e) = label_same w e.to.0 (mail_act stores t k e.to.0 e.path e.letter)

  status_by : (st : Status) → Same w (status_labels stores w t st) (status_labels stores 0 t st)
  status_by status.Travelling = refl
  status_by (status.Running p) = refl
  status_by status.Ended = refl
  status_by (status.Waiting p) = by_place (place_in stores p)
    where
      by_next : (h : ℕ) (b : Bool) → Same w (if b then record { worker = w; host = h; act = Grant t p } ∷ [] else []) (if b then record { worker = 0; host = h; act = Grant t p } ∷ [] else [])
      by_next h true = refl
      by_next h false = refl

      by_place : (o : Option ℕ) → Same w (grant_labels stores w t p o) (grant_labels stores 0 t p o)
      by_place None = refl
      by_place (Some h) = by_next h (is_next t p (slice_get stores h))
  status_by (status.Ready p) = by_place (place_in stores p)
    where
      by_place : (o : Option ℕ) → Same w (start_labels stores w t p o) (start_labels stores 0 t p o)
      by_place None = refl
      by_place (Some h) = refl

  asked_as : (c : Cell Actor) → Same w (status_labels stores w t c.status ++ mails_labels stores w t c.outbox) (asked_of stores t c)
  asked_as c =
      (λ i. status_by c.status i ++ (flat_same (λ k. mail_labels stores w t k (mail_in c.outbox.mails k)) (λ k. map (with_worker w) (mail_labels stores 0 t k (mail_in c.outbox.mails k))) (λ k. mail_by k (mail_in c.outbox.mails k)) (tickets_from 1 c.outbox.sent)
      ∙ sym (map_flat (with_worker w) (λ k. mail_labels stores 0 t k (mail_in c.outbox.mails k)) (tickets_from 1 c.outbox.sent))) i)
      ∙ sym (map-append (with_worker w) (status_labels stores 0 t c.status) (mails_labels stores 0 t c.outbox))

  -- one that has no Stops, or none to take
  cell_as : (hands : List (Option Out)) (ws : List ℕ) (c : Cell Actor) → stops_labels stores hands ws t c.status ≡ [] → Same w (cell_labels stores hands (Some w) ws t c) (asked_of stores t c)
  cell_as hands ws c none = by_done (is_done c) refl
    where
      by_done : (b : Bool) → is_done c ≡ b → Same w (if b then [] else (stops_labels stores hands ws t c.status ++ (status_labels stores w t c.status ++ mails_labels stores w t c.outbox))) (asked_of stores t c)
      by_done true e = ap (map (with_worker w)) (sym (done_asks stores t c e))
      by_done false e = ap (λ r. r ++ (status_labels stores w t c.status ++ mails_labels stores w t c.outbox)) none ∙ asked_as c

head_as : (m : Kept) (w : ℕ) → Same w (admit_labels w m.head ++ commit_labels w (m.first + length m.settled.results) m.commits) (head_in m)
head_as m w =
    (λ i. label_same w 0 (option_map (λ (t : Ticket). Admit t.0) (next_ticket m.head)) i ++ label_same w 0 (option_map (λ (r : EventResult). Commit (m.first + length m.settled.results)) (ready_result m.commits)) i)
    ∙ sym (map-append (with_worker w) (admit_labels 0 m.head) (commit_labels 0 (m.first + length m.settled.results) m.commits))

module _ (m : Kept) (w : ℕ) (ws : List ℕ) (none : (t : ℕ) (st : Status) → stops_labels m.stores m.hands ws t st ≡ []) where
  cells_as : Same w (by_ticket (cell_labels m.stores m.hands (Some w) ws) m.first m.cells) (by_part m (asked_at m))
  cells_as =
      by_ticket_is (cell_labels m.stores m.hands (Some w) ws) (λ u. map (with_worker w) (asked_at m u)) m.cells m.first (λ i c e. cell_as m.stores w (m.first + i) m.hands ws c (none (m.first + i) c.status) ∙ ap (map (with_worker w)) (sym (asked_here m i c e)))
      ∙ sym (map_flat (with_worker w) (asked_at m) (tickets_from m.first (length m.cells)))

  pub all_as : asked_in m (Some w) ws ≡ map (with_worker w) (head_in m ++ by_part m (asked_at m))
  all_as = (λ i. head_as m w i ++ cells_as i) ∙ sym (map-append (with_worker w) (head_in m) (by_part m (asked_at m)))

order_as : (w : ℕ) (ls : List Label) → in_order (map (with_worker w) ls) ≡ map (with_worker w) (in_order ls)
order_as w ls =
    flat_same (λ k. of_kind k (map (with_worker w) ls)) (λ k. map (with_worker w) (of_kind k ls)) (λ k. filter_of_map (λ (l : Label). kind_rank l.act == k) (with_worker w) ls) (tickets_from 0 10)
    ∙ sym (map_flat (with_worker w) (λ k. of_kind k ls) (tickets_from 0 10))

pub map_twice : {X Y Z : Type 0} (g : Y → Z) (f : X → Y) (xs : List X) → map g (map f xs) ≡ map (λ x. g (f x)) xs
map_twice g f [] = refl
map_twice g f (x ∷ xs) = ap (λ r. g (f x) ∷ r) (map_twice g f xs)

pub no_workers : (m : Kept) (t : ℕ) (st : Status) → stops_labels m.stores m.hands [] t st ≡ []
no_workers m t status.Travelling = refl
no_workers m t (status.Waiting p) = refl
no_workers m t (status.Ready p) = refl
no_workers m t status.Ended = refl
no_workers m t (status.Running p) = by_place (place_in m.stores p)
  where
    by_place : (o : Option ℕ) → stop_labels m.stores m.hands [] t p o ≡ []
    by_place None = refl
    by_place (Some h) = refl

module _ (w : ℕ) (m : Kept) (idle : slice_get m.hands w ≡ Some None) where
  alone_stops : (t : ℕ) (st : Status) → stops_labels m.stores m.hands (tickets_from w (w + 1 - w)) t st ≡ []
  alone_stops t status.Travelling = refl
  alone_stops t (status.Waiting p) = refl
  alone_stops t (status.Ready p) = refl
  alone_stops t status.Ended = refl
  alone_stops t (status.Running p) = by_place (place_in m.stores p)
    where
      one : w + 1 - w ≡ 1
      one = omega arith

      by_place : (o : Option ℕ) → stop_labels m.stores m.hands (tickets_from w (w + 1 - w)) t p o ≡ []
      by_place None = refl
      by_place (Some h) =
          ap (λ n. flat_map (λ v. stop_if (runs_out (slice_get m.hands v) t p) v h t p) (tickets_from w n)) one
          ∙ ap (λ o. stop_if (runs_out o t p) w h t p ++ []) idle

  pub taken_is : (start : Start) (s : TheState) → Shows m s → CanList m.plan start s → (index : List Ready) → IsIndex m index
      → map (λ (r : Ready). with_worker w (by_none r)) index ≡ enabled_for (plan_actors m.plan.program) m.plan.workers m.plan.script.hosts s w
  taken_is start s shows list index e =
      sym (map_twice (with_worker w) by_none index)
      ∙ ap (map (with_worker w)) e
      ∙ sym (order_as w (head_in m ++ by_part m (asked_at m)))
      ∙ ap in_order (sym (all_as m w (tickets_from w (w + 1 - w)) alone_stops))
      ∙ own_lists m start s shows list w true (sym (ap (option_map is_none) idle))

-- the list is what an idle worker can do, without who takes it
pub choices_are : (m : Kept) (start : Start) (s : TheState) → Shows m s → CanList m.plan start s → CanList (one_more m.plan) start s → (index : List Ready) → IsIndex m index → map choice_of index ≡ ready_in m.plan s
choices_are m start s shows list more index e =
    let w = m.plan.workers in
    sym (map_twice choice_from (λ (r : Ready). with_worker w (by_none r)) index)
    ∙ ap (map choice_from) (taken_is w (wider m) (one_idle m start s shows) start s (shows_wider m start s shows list) more index e)

pub in_mapped : {X Y : Type 0} (f : X → Y) (xs : List X) (x : X) → IsIn xs x → IsIn (map f xs) (f x)
in_mapped f [] x i = absurd i
in_mapped f (y ∷ xs) x (inl e) = inl (ap f e)
in_mapped f (y ∷ xs) x (inr i) = inr (in_mapped f xs x i)

pub in_place : {X : Type 0} (xs : List X) (i : ℕ) (x : X) → slice_get xs i ≡ Some x → IsIn xs x
in_place [] i x e = cc
in_place (y ∷ xs) zero x e = inl (some_same y x e)
in_place (y ∷ xs) (suc i) x e = inr (in_place xs i x e)

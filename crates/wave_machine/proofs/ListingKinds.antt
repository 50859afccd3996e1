-- What a state lists of each kind is what is asked for by what is kept of it.
use Rattle.std.proofs.Common.{◌≡◌, ◌∙◌, inl, inr, ℕ, zero, suc, ◌+◌, ◌<◌, ◌≤◌, ◌&&◌, ◌==◌, Bool, true, false, cond, List, [], ◌∷◌, length, map, is_some, is_none, Option, Some, None, refl, sym, ap, subst, arith, position}
use Rattle.std.specs.Prelude.{filter, flat_map, nat_eq, nat_lt, if◌then◌else◌, option_map, slice_get}
use Rattle.std.specs.FinMap as table
use Rattle.wave_base.specs.declared.outcome.EventResult.{EventResult}
use Rattle.wave_base.specs.declared.path.Path.{Path}
use Rattle.wave_base.specs.declared.start.Start.{Start}
use Rattle.wave_base.specs.Fold.{tickets_from}
use Rattle.wave_base.specs.Paths.{path_eq}
use Rattle.context_queue.specs.declared.entry.Entry as E
use Rattle.context_queue.specs.Entries.{StandsFor as EntryStands, entry_of, next_in}
use Rattle.context_queue.proofs.Holding.{next_is, stands}
use Rattle.host_map.specs.Stores.{Stores, IsAt, Matches, column_of, has}
use Rattle.migration_core.specs.declared.mail.Letter.{Letter}
use Rattle.migration_core.specs.declared.mail.Letter.TheVariants as letter
use Rattle.migration_core.specs.Letters.{Says}
use Rattle.event_cells.specs.declared.cell.Cell.{Cell}
use Rattle.event_cells.specs.declared.outbox.Envelope.{Envelope}
use Rattle.event_cells.specs.declared.status.Status as S
use Rattle.event_cells.specs.declared.status.Status.TheVariants as status
use Rattle.event_cells.specs.Cells.{Carries, IsEnvelope, status_of}
use Rattle.event_cells.specs.Keeps.{mail_in}
use Rattle.wave_states.specs.Canonical.{at_host, by_event, by_mail, below, grants_of, host_in, idle_in, mail_act, passes_of, place, runs_it, starts_of, taken_as, takes}
use Rattle.wave_states.specs.Labels.{Act, Choice, Label, Admit, Queue, Grant, Start as Begin, Free, Land}
use Rattle.wave_states.specs.Labels
use Rattle.wave_states.specs.States as theory
use Rattle.wave_states.specs.States.{Ask, Claim, Column, Enter, Entry, Event, Hand, Mail, Mark, Release, State, Transfer}
use Rattle.wave_states.specs.Steps.{in_line, part_of, Deliver, Born, Wait, route, route_by, step}
use Rattle.std.proofs.lemmas.Bool.Decides.{nat_tests}
use Rattle.wave_theory.proofs.Basics.{none_not, some_not, some_same}
use Rattle.wave_theory.proofs.Opened.{queues as queues_found}
use Rattle.wave_theory.specs.Listed.{kind_rank}
use Rattle.wave_base.specs.declared.script.Line.{Line}
use Rattle.wave_states.specs.Actors.{Actors}
use Rattle.wave_theory.proofs.Frames.{option_some}
use Rattle.code_actor.specs.CodeActors.{Fields}
use Rattle.plan_actors.specs.PlanActors as actors
use Rattle.plan_actors.specs.PlanActors.{plan_actors, plan_kind}
use Rattle.wave_effects.specs.declared.actor.Actor.{Actor}
use Rattle.wave_effects.specs.declared.kept.Out.{Out}
use Rattle.wave_effects.specs.Machines.{IsCell, event_as, IsOut, Kept, Shows, TheState}
use Rattle.wave_machine.specs.inner.Asking.{enter_act, is_claim, is_next, is_next_in, label_at, mail_act as act_of_mail, mail_labels, mails_labels, of_kind, grant_labels, start_labels, status_labels, route_at, runs_out}
use Rattle.wave_effects.specs.Keeping.{place_in}
use Rattle.wave_machine.specs.inner.Listable.{CanList}
use Rattle.wave_effects.proofs.CellParts.{ThePart}
use Rattle.wave_effects.proofs.Opening.{left_by, queue_found}
use Rattle.wave_effects.proofs.Parts.{set_here_path}
use Rattle.wave_effects.proofs.StoreParts.{at_host as at_written_host}
use Rattle.wave_machine.proofs.ListingLists.{map_flat, filter_flat, first_place, flat_same}
use Rattle.wave_machine.proofs.ListingSteps.{act_for, followed_in, frees, grant_can, is_next_at, lands, passes, queues, taken_one, visits}

-- an entry that stands for one of the theory lets in who that one lets in
next_same : (e : E.Entry) (en : Entry Fields) → EntryStands e en → next_in en ≡ next_in (entry_of e)
next_same e en h = next_is e en (table.get e.waiting.claims (e.served + 1)) h refl ∙ sym (next_is e (entry_of e) (table.get e.waiting.claims (e.served + 1)) (stands e) refl)

next_at : (t : ℕ) (o : Option E.Entry) (r : Option (Entry Fields)) → Matches o r → is_next_in t o ≡ is_next_at t r
next_at t None None h = refl
next_at t (Some e) (Some en) h = ap (is_claim t) (sym (next_same e en h))
next_at t None (Some en) h = absurd h
next_at t (Some e) None h = absurd h

some_as : (o : Option E.Entry) (r : Option (Entry Fields)) → Matches o r → is_some (option_map entry_of o) ≡ is_some r
some_as None None h = refl
some_as (Some e) (Some en) h = refl
some_as None (Some en) h = absurd h
some_as (Some e) None h = absurd h

-- the route is read off what the store has
route_is : (st : Stores) (p : Path) (c : Column Fields) (h f : ℕ) → IsAt st p c h → route (column_of st p) 0 f ≡ route c h f
route_is st p c h f at = λ i. if some_as (table.get st.store p) (c.store h) at.entry i then Deliver else route_by (sym at.mark i) f

-- a store has a path where the column has an entry
pub has_as : (st : Stores) (p : Path) (c : Column Fields) (h : ℕ) → IsAt st p c h → is_some (c.store h) ≡ has p st
has_as st p c h at = sym (some_as (table.get st.store p) (c.store h) at.entry) ∙ same (table.get st.store p)
  where
    same : (o : Option E.Entry) → is_some (option_map entry_of o) ≡ is_some o
    same None = refl
    same (Some e) = refl

pub slice_none : {X : Type 0} (xs : List X) (i : ℕ) → slice_get xs i ≡ None → length xs ≤ i
slice_none [] i e = omega arith
slice_none (x ∷ xs) zero e = absurd (some_not e)
slice_none (x ∷ xs) (suc i) e = let l = slice_none xs i e in omega (arith, l)

idle_as : (o : Option Out) (h : Option (Hand actors.Actor Fields)) → IsOut o h → is_none h ≡ is_none o
idle_as None None e = refl
idle_as (Some o) (Some h) e = refl
idle_as None (Some h) e = absurd e
idle_as (Some o) None e = absurd e

runs_as : (o : Option Out) (h : Option (Hand actors.Actor Fields)) (t : ℕ) (p : Path) → IsOut o h → runs_it h t p ≡ runs_out (Some o) t p
runs_as None None t p e = refl
runs_as (Some o) (Some h) t p e = λ i. (e.0 i == t) && path_eq (e.1 i) p
runs_as None (Some h) t p e = absurd e
runs_as (Some o) None t p e = absurd e

host_has : (c : Column Fields) (hs : List ℕ) (h : ℕ) → host_in c hs ≡ Some h → is_some (c.store h) ≡ true
host_has c [] h e = absurd (none_not e)
host_has c (x ∷ hs) h e = by_test (is_some (c.store x)) refl e (host_has c hs h)
  where
    by_test : (b : Bool) → is_some (c.store x) ≡ b → (if b then Some x else host_in c hs) ≡ Some h → (host_in c hs ≡ Some h → is_some (c.store h) ≡ true) → is_some (c.store h) ≡ true
    by_test true z k rest = subst (λ n. is_some (c.store n) ≡ true) (some_same x h k) z
    by_test false z k rest = rest k

below_is : (a b : ℕ) → a < b → nat_lt a b ≡ true
below_is a b l = grind (arith, nat_tests)

module _ (m : Kept) (start : Start) (s : TheState) (shows : Shows m s) (list : CanList m.plan start s) where
  abbrev sys : Actors actors.Actor Fields EventResult Line
  sys = plan_actors m.plan.program

  -- a host past the stores has neither an entry nor a mark
  pub nothing_past : (p : Path) (h : ℕ) → length m.stores ≤ h → ((s.columns p).store h ≡ None) × ((s.columns p).gone h ≡ None)
  nothing_past p h l = let many = shows.stores.as_many in let far : m.plan.script.hosts ≤ h = omega (arith, l, many) in list.known.bounds.elsewhere p h far

  pub place_same : (p : Path) → place s m.plan.script.hosts p ≡ place_in m.stores p
  place_same p =
      ap (λ n. host_in (s.columns p) (tickets_from 0 n)) (sym shows.stores.as_many)
      ∙ first_place (has p) (λ h. is_some ((s.columns p).store h)) (host_in (s.columns p)) refl (λ n ns. refl) m.stores (λ i st e. has_as st p (s.columns p) i (shows.stores.each i st e p))

  pub idle_same : idle_in s.hands (below m.plan.workers) ≡ position is_none m.hands
  idle_same =
      ap (λ n. idle_in s.hands (tickets_from 0 n)) (sym shows.hands.as_many)
      ∙ first_place is_none (λ w. is_none (s.hands w)) (idle_in s.hands) refl (λ n ns. refl) m.hands (λ i o e. idle_as o (s.hands i) (shows.hands.each i o e))

  pub runs_same : (w t : ℕ) (p : Path) → runs_it (s.hands w) t p ≡ runs_out (slice_get m.hands w) t p
  runs_same w t p = by_hand (slice_get m.hands w) refl
    where
      by_hand : (o : Option (Option Out)) → slice_get m.hands w ≡ o → runs_it (s.hands w) t p ≡ runs_out o t p
      by_hand (Some o) e = runs_as o (s.hands w) t p (shows.hands.each w o e)
      by_hand None e =
          let many = shows.hands.as_many in
          let l = slice_none m.hands w e in
          let far : m.plan.workers ≤ w = omega (arith, l, many) in
          ap (λ h. runs_it h t p) (list.known.bounds.hands w far)

  pub placed_there : (p : Path) (h : ℕ) → place_in m.stores p ≡ Some h → is_some ((s.columns p).store h) ≡ true
  placed_there p h e = host_has (s.columns p) (below m.plan.script.hosts) h (place_same p ∙ e)

  module _ (w : ℕ) (within : w < m.plan.workers) (idle : s.hands w ≡ None) where
    abbrev in_workers : nat_lt w m.plan.workers ≡ true
    in_workers = below_is w m.plan.workers within

    -- a context is born on one of the hosts
    born_within : (t k : ℕ) (mail : Mail Fields) (a : Ask) → (s.cells t).mails k ≡ Some mail → mail.letter ≡ Enter a → route (s.columns mail.path) mail.host a.followed ≡ Born → length m.stores ≤ mail.host → ⊥
    born_within t k mail a there is born past =
        let l : Label = record { worker = w; host = mail.host; act = Queue t k mail.path } in
        let v = option_some (step sys m.plan.workers s l) (list.doable.queues t k mail a there is (inr born) w within idle) in
        let left = left_by sys m.plan.workers s v.0 l refl v.1 in
        let calm = queue_found sys mail.host (part_of s t mail.path) left.bench t k mail.path (s.hands w) left.found in
        let q = queues_found sys t k mail.path mail.host (part_of s t mail.path) left.bench.part calm.part in
        let here : (v.0.columns mail.path).store mail.host ≡ Some (in_line q.entry q.ask.number (record { ticket = t; peek = q.ask.peek })) =
        ap (λ (z : TheState). (z.columns mail.path).store mail.host) (sym left.gives)
        ∙ ap (λ (z : Column Fields). z.store mail.host) (sym (set_here_path s.columns mail.path left.bench.part.column))
        ∙ ap (λ (z : ThePart). z.column.store mail.host) (sym q.gives)
        ∙ at_written_host (s.columns mail.path) mail.host (in_line q.entry q.ask.number (record { ticket = t; peek = q.ask.peek })) in
        let after_it = list.next l v.0 v.1 in
        let many = shows.stores.as_many in
        let far : m.plan.script.hosts ≤ mail.host = omega (arith, past, many) in
        none_not (sym (after_it.bounds.elsewhere mail.path mail.host far).0 ∙ here)

    route_same : (t k : ℕ) (mail : Mail Fields) (a : Ask) → (s.cells t).mails k ≡ Some mail → mail.letter ≡ Enter a → route_at (slice_get m.stores mail.host) mail.path a.followed ≡ route (s.columns mail.path) mail.host a.followed
    route_same t k mail a there is = by_store (slice_get m.stores mail.host) refl
      where
        by_first : (b : Bool) → nat_eq a.followed 0 ≡ b → length m.stores ≤ mail.host → route (s.columns mail.path) mail.host a.followed ≡ (if b then Born else Wait) → Wait ≡ route (s.columns mail.path) mail.host a.followed
        by_first true e past is_born = absurd (born_within t k mail a there is is_born past)
        by_first false e past is_waiting = sym is_waiting

        by_store : (o : Option Stores) → slice_get m.stores mail.host ≡ o → route_at o mail.path a.followed ≡ route (s.columns mail.path) mail.host a.followed
        by_store (Some st) e = route_is st mail.path (s.columns mail.path) mail.host a.followed (shows.stores.each mail.host st e mail.path)
        by_store None e =
            let past = slice_none m.stores mail.host e in
            let none = nothing_past mail.path mail.host past in
            by_first (nat_eq a.followed 0) refl past (λ i. if is_some (none.0 i) then Deliver else route_by (none.1 i) a.followed)

    -- what a mail can do is the label that its letter and route tell
    mail_as : (t k : ℕ) (mail : Mail Fields) (env : Envelope) → IsEnvelope env mail → (s.cells t).mails k ≡ Some mail
        → mail_labels m.stores w t k (Some env) ≡ label_at w mail.host (act_for t k mail.path mail.letter (route (s.columns mail.path) mail.host (followed_in mail.letter)))
    mail_as t k mail env is there =
        (λ i. label_at w (sym is.host i) (act_of_mail m.stores t k (sym is.host i) (sym is.path i) env.letter)) ∙ by_letter env.letter mail.letter refl is.letter
      where
        by_letter : (l : Letter) (l' : theory.Letter Fields) → mail.letter ≡ l' → Says l l' → label_at w mail.host (act_of_mail m.stores t k mail.host mail.path l) ≡ label_at w mail.host (act_for t k mail.path l' (route (s.columns mail.path) mail.host (followed_in l')))
        by_letter (letter.Enter number followed peek) l' z says =
            let a : Ask = record { number = number; followed = followed; peek = peek } in
            subst (λ (z : theory.Letter Fields). label_at w mail.host (act_of_mail m.stores t k mail.host mail.path (letter.Enter number followed peek)) ≡ label_at w mail.host (act_for t k mail.path z (route (s.columns mail.path) mail.host (followed_in z)))) (sym says) (ap (λ r. label_at w mail.host (enter_act t k mail.path r)) (route_same t k mail a there (z ∙ says)))
        by_letter letter.Visit l' z says = subst (λ (z : theory.Letter Fields). label_at w mail.host (act_of_mail m.stores t k mail.host mail.path letter.Visit) ≡ label_at w mail.host (act_for t k mail.path z (route (s.columns mail.path) mail.host (followed_in z)))) (sym says) refl
        by_letter letter.Back l' z says = subst (λ (z : theory.Letter Fields). label_at w mail.host (act_of_mail m.stores t k mail.host mail.path letter.Back) ≡ label_at w mail.host (act_for t k mail.path z (route (s.columns mail.path) mail.host (followed_in z)))) (sym says) refl
        by_letter letter.Release l' z says = subst (λ (z : theory.Letter Fields). label_at w mail.host (act_of_mail m.stores t k mail.host mail.path letter.Release) ≡ label_at w mail.host (act_for t k mail.path z (route (s.columns mail.path) mail.host (followed_in z)))) (sym says) refl
        by_letter (letter.Transfer e) (theory.Transfer en) z says = refl
        by_letter (letter.Transfer e) (theory.Enter a) z says = absurd says
        by_letter (letter.Transfer e) theory.Visit z says = absurd says
        by_letter (letter.Transfer e) theory.Back z says = absurd says
        by_letter (letter.Transfer e) theory.Release z says = absurd says

    takes_flat : {Y : Type 0} (f : Y → List Choice) (ys : List Y) → takes sys m.plan.workers s w (flat_map f ys) ≡ flat_map (λ y. takes sys m.plan.workers s w (f y)) ys
    takes_flat f ys = ap (filter (λ l. is_some (step sys m.plan.workers s l))) (map_flat (taken_as w) f ys) ∙ filter_flat (λ l. is_some (step sys m.plan.workers s l)) (λ y. map (taken_as w) (f y)) ys

    module _ (t : ℕ) (c : Cell Actor) (is : IsCell m.plan.program c (s.cells t)) where
      abbrev event : Event actors.Actor
      event = event_as is.desk.event

      -- a kind of what mails ask for
      abbrev ForMails : (ℕ → ℕ → Mail Fields → List Choice) → ℕ → Type 0
      ForMails f n = (k : ℕ) (mail : Mail Fields) → (s.cells t).mails k ≡ Some mail → takes sys m.plan.workers s w (f t k mail) ≡ of_kind n (label_at w mail.host (act_for t k mail.path mail.letter (route (s.columns mail.path) mail.host (followed_in mail.letter))))

      mails_of_kind : (f : ℕ → ℕ → Mail Fields → List Choice) (n : ℕ) → ForMails f n
          → takes sys m.plan.workers s w (by_event (s.cells t).event (λ e. flat_map (λ k. by_mail ((s.cells t).mails k) (f t k)) (tickets_from 1 e.sent))) ≡ of_kind n (mails_labels m.stores w t c.outbox)
      mails_of_kind f n each =
          ap (λ o. takes sys m.plan.workers s w (by_event o (λ e. flat_map (λ k. by_mail ((s.cells t).mails k) (f t k)) (tickets_from 1 e.sent)))) is.event
          ∙ takes_flat (λ k. by_mail ((s.cells t).mails k) (f t k)) (tickets_from 1 is.desk.event.sent)
          ∙ flat_same (λ k. takes sys m.plan.workers s w (by_mail ((s.cells t).mails k) (f t k))) (λ k. of_kind n (mail_labels m.stores w t k (mail_in c.outbox.mails k))) one (tickets_from 1 is.desk.event.sent)
          ∙ sym (filter_flat (λ l. kind_rank l.act == n) (λ k. mail_labels m.stores w t k (mail_in c.outbox.mails k)) (tickets_from 1 is.desk.event.sent))
          ∙ ap (λ j. of_kind n (flat_map (λ k. mail_labels m.stores w t k (mail_in c.outbox.mails k)) (tickets_from 1 j))) is.stands.sent
        where
          by_pair : (k : ℕ) (o : Option Envelope) (r : Option (Mail Fields)) → Carries o r → (s.cells t).mails k ≡ r → takes sys m.plan.workers s w (by_mail r (f t k)) ≡ of_kind n (mail_labels m.stores w t k o)
          by_pair k None None h e = refl
          by_pair k (Some env) (Some mail) h e = each k mail e ∙ ap (of_kind n) (sym (mail_as t k mail env h e))
          by_pair k None (Some mail) h e = absurd h
          by_pair k (Some env) None h e = absurd h

          one : (k : ℕ) → takes sys m.plan.workers s w (by_mail ((s.cells t).mails k) (f t k)) ≡ of_kind n (mail_labels m.stores w t k (mail_in c.outbox.mails k))
          one k = ap (λ r. takes sys m.plan.workers s w (by_mail r (f t k))) (is.mails k) ∙ by_pair k (mail_in c.outbox.mails k) (is.desk.mails k) (is.stands.mails k) (is.mails k)

      pub queues_asked : takes sys m.plan.workers s w (by_event (s.cells t).event (λ e. flat_map (λ k. by_mail ((s.cells t).mails k) (mail_act (λ t k p. Queue t k p) t k)) (tickets_from 1 e.sent))) ≡ of_kind 1 (mails_labels m.stores w t c.outbox)
      queues_asked = mails_of_kind (mail_act (λ t k p. Queue t k p)) 1 (λ k mail e. queues sys m.plan.workers s w in_workers idle t event is.event k mail e mail.letter refl)

      pub visits_asked : takes sys m.plan.workers s w (by_event (s.cells t).event (λ e. flat_map (λ k. by_mail ((s.cells t).mails k) (mail_act (λ t k p. Labels.Visit t k p) t k)) (tickets_from 1 e.sent))) ≡ of_kind 3 (mails_labels m.stores w t c.outbox)
      visits_asked = mails_of_kind (mail_act (λ t k p. Labels.Visit t k p)) 3 (λ k mail e. visits sys m.plan.workers s w in_workers idle t event is.event k mail e mail.letter refl)

      pub frees_asked : takes sys m.plan.workers s w (by_event (s.cells t).event (λ e. flat_map (λ k. by_mail ((s.cells t).mails k) (mail_act (λ t k p. Free t k p) t k)) (tickets_from 1 e.sent))) ≡ of_kind 6 (mails_labels m.stores w t c.outbox)
      frees_asked = mails_of_kind (mail_act (λ t k p. Free t k p)) 6 (λ k mail e. frees sys m.plan.workers s w in_workers idle t event is.event k mail e (λ z. let r = list.known.agree.releases t k mail e z in (r.0, r.1)) mail.letter refl)

      pub passes_asked : takes sys m.plan.workers s w (by_event (s.cells t).event (λ e. flat_map (λ k. by_mail ((s.cells t).mails k) (passes_of s t k)) (tickets_from 1 e.sent))) ≡ of_kind 7 (mails_labels m.stores w t c.outbox)
      passes_asked = mails_of_kind (passes_of s) 7 (λ k mail e. passes sys m.plan.workers s w in_workers idle t event is.event k mail e mail.letter refl)

      pub lands_asked : takes sys m.plan.workers s w (by_event (s.cells t).event (λ e. flat_map (λ k. by_mail ((s.cells t).mails k) (mail_act (λ t k p. Land t k p) t k)) (tickets_from 1 e.sent))) ≡ of_kind 8 (mails_labels m.stores w t c.outbox)
      lands_asked = mails_of_kind (mail_act (λ t k p. Land t k p)) 8 (λ k mail e. lands sys m.plan.workers s w in_workers idle t event is.event k mail e mail.letter refl)

      -- a Grant: the next in line, where its context is
      pub grants_asked : takes sys m.plan.workers s w (by_event (s.cells t).event (λ e. grants_of s m.plan.script.hosts t e.status)) ≡ of_kind 2 (status_labels m.stores w t c.status)
      grants_asked =
          ap (λ o. takes sys m.plan.workers s w (by_event o (λ e. grants_of s m.plan.script.hosts t e.status))) is.event
          ∙ ap (λ u. takes sys m.plan.workers s w (grants_of s m.plan.script.hosts t u)) is.stands.status
          ∙ by_status_of c.status
        where
          next_here : (p : Path) (h : ℕ) → is_next_at t ((s.columns p).store h) ≡ is_next t p (slice_get m.stores h)
          next_here p h = by_store (slice_get m.stores h) refl
            where
              by_store : (o : Option Stores) → slice_get m.stores h ≡ o → is_next_at t ((s.columns p).store h) ≡ is_next t p o
              by_store (Some st) e = sym (next_at t (table.get st.store p) ((s.columns p).store h) (shows.stores.each h st e p).entry)
              by_store None e = ap (is_next_at t) (nothing_past p h (slice_none m.stores h e)).0

          by_place : (p : Path) (o : Option ℕ) → takes sys m.plan.workers s w (at_host o (Grant t p)) ≡ of_kind 2 (grant_labels m.stores w t p o)
          by_place p None = refl
          by_place p (Some h) =
              taken_one sys m.plan.workers s w h (Grant t p) (is_next t p (slice_get m.stores h)) (grant_can sys m.plan.workers s w in_workers idle t event is.event h p ∙ next_here p h)
              ∙ shown (is_next t p (slice_get m.stores h))
            where
              shown : (b : Bool) → cond b (record { worker = w; host = h; act = Grant t p } ∷ []) [] ≡ of_kind 2 (if b then record { worker = w; host = h; act = Grant t p } ∷ [] else [])
              shown true = refl
              shown false = refl

          starts_not : (p : Path) (o : Option ℕ) → [] ≡ of_kind 2 (start_labels m.stores w t p o)
          starts_not p None = refl
          starts_not p (Some h) = refl

          by_status_of : (st : S.Status) → takes sys m.plan.workers s w (grants_of s m.plan.script.hosts t (status_of st)) ≡ of_kind 2 (status_labels m.stores w t st)
          by_status_of status.Travelling = refl
          by_status_of (status.Waiting p) = ap (λ o. takes sys m.plan.workers s w (at_host o (Grant t p))) (place_same p) ∙ by_place p (place_in m.stores p)
          by_status_of (status.Ready p) = starts_not p (place_in m.stores p)
          by_status_of (status.Running p) = refl
          by_status_of status.Ended = refl

      -- a Start: of one that is ready, where its context is
      pub starts_asked : takes sys m.plan.workers s w (by_event (s.cells t).event (λ e. starts_of s m.plan.script.hosts t e.status)) ≡ of_kind 4 (status_labels m.stores w t c.status)
      starts_asked =
          ap (λ o. takes sys m.plan.workers s w (by_event o (λ e. starts_of s m.plan.script.hosts t e.status))) is.event
          ∙ ap (λ u. takes sys m.plan.workers s w (starts_of s m.plan.script.hosts t u)) is.stands.status
          ∙ by_status_of c.status refl
        where
          can_start : (p : Path) (h : ℕ) → c.status ≡ status.Ready p → place_in m.stores p ≡ Some h → is_some (step sys m.plan.workers s (record { worker = w; host = h; act = Begin t p })) ≡ true
          can_start p h e at =
              let d = list.doable.starts t event p is.event (is.stands.status ∙ ap status_of e) in
              let same : d.0 ≡ h = list.owner.one p d.0 h (inl d.1) (inl (placed_there p h at)) in
              subst (λ n. is_some (step sys m.plan.workers s (record { worker = w; host = n; act = Begin t p })) ≡ true) same (d.2 w within idle)

          by_place : (p : Path) → c.status ≡ status.Ready p → (o : Option ℕ) → place_in m.stores p ≡ o → takes sys m.plan.workers s w (at_host o (Begin t p)) ≡ of_kind 4 (start_labels m.stores w t p o)
          by_place p e None at = refl
          by_place p e (Some h) at = taken_one sys m.plan.workers s w h (Begin t p) true (can_start p h e at)

          grants_not : (p : Path) (o : Option ℕ) → [] ≡ of_kind 4 (grant_labels m.stores w t p o)
          grants_not p None = refl
          grants_not p (Some h) = by_test (is_next t p (slice_get m.stores h))
            where
              by_test : (b : Bool) → [] ≡ of_kind 4 (if b then record { worker = w; host = h; act = Grant t p } ∷ [] else [])
              by_test true = refl
              by_test false = refl

          by_status_of : (st : S.Status) → c.status ≡ st → takes sys m.plan.workers s w (starts_of s m.plan.script.hosts t (status_of st)) ≡ of_kind 4 (status_labels m.stores w t st)
          by_status_of status.Travelling e = refl
          by_status_of (status.Waiting p) e = grants_not p (place_in m.stores p)
          by_status_of (status.Ready p) e = ap (λ o. takes sys m.plan.workers s w (at_host o (Begin t p))) (place_same p) ∙ by_place p e (place_in m.stores p) refl
          by_status_of (status.Running p) e = refl
          by_status_of status.Ended e = refl

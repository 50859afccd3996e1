-- A Queue leaves its context where it is, or the context was nowhere before it.
use Rattle.std.proofs.Common.{◌≡◌, ◌≢◌, ◌∙◌, ◌⊎◌, inl, inr, ℕ, ◌+◌, ◌<◌, ◌≤◌, Bool, true, false, length, Option, Some, None, is_some, refl, sym, ap, subst, arith, true≢false}
use Rattle.std.specs.Prelude.{if◌then◌else◌, nat_eq, nat_lt, option_map, slice_get}
use Rattle.std.specs.FinMap as table
use Rattle.std.proofs.lemmas.Option.{slice_get_within}
use Rattle.wave_base.specs.declared.outcome.EventResult.{EventResult}
use Rattle.wave_base.specs.declared.path.Path.{Path}
use Rattle.wave_base.specs.declared.script.Line.{Line}
use Rattle.wave_base.specs.declared.start.Start.{Start}
use Rattle.wave_labels.specs.declared.label.Act as program
use Rattle.wave_labels.specs.declared.label.Act.TheVariants as variant
use Rattle.wave_labels.specs.Labels.{act_of}
use Rattle.host_map.specs.Stores.{Stores, mark_of}
use Rattle.host_map.specs.declared.store.Mark as marks
use Rattle.migration_core.specs.declared.mail.Letter.TheVariants as letter
use Rattle.migration_core.specs.Letters.{Says}
use Rattle.event_cells.specs.declared.cell.Cell.{Cell}
use Rattle.event_cells.specs.declared.outbox.Envelope.{Envelope}
use Rattle.event_cells.specs.declared.status.Status.TheVariants as status
use Rattle.event_cells.specs.Cells.{Carries, status_of}
use Rattle.event_cells.specs.Keeps.{mail_in}
use Rattle.code_actor.specs.CodeActors.{Fields}
use Rattle.wave_states.specs.Actors.{Actors}
use Rattle.wave_states.specs.Labels.{Act, Label, Admit, Queue, Grant, Visit, Start as Starting, Stop, Free, Pass, Land, Commit, path_of}
use Rattle.wave_states.specs.Owners.{IsComing, IsOwner}
use Rattle.wave_states.specs.States as theory
use Rattle.wave_states.specs.States.{Column, Mail}
use Rattle.wave_states.specs.Steps.{Route, Deliver, Born, Wait, Forward, entry_for, in_line, part_of, route, route_by, step}
use Rattle.wave_theory.specs.Trails.{IsTrail, IsUnborn, Trail}
use Rattle.wave_theory.proofs.Basics.{bool_cases, clash, none_not, not_same, number_cases, number_is}
use Rattle.wave_theory.proofs.Opened.{Queues, queues}
use Rattle.plan_actors.specs.PlanActors as actors
use Rattle.plan_actors.specs.PlanActors.{plan_actors}
use Rattle.wave_effects.specs.declared.actor.Actor.{Actor}
use Rattle.wave_effects.specs.Acts.{is_start}
use Rattle.wave_effects.specs.Apart.{Moves}
use Rattle.wave_effects.specs.Machines.{IsCell, IsEnabled, Kept, Shows, Stands, Takes, TheState, event_as}
use Rattle.wave_effects.proofs.CellParts.{ThePart}
use Rattle.wave_effects.proofs.Opening.{Left, left_by, queue_found}
use Rattle.wave_effects.proofs.Parts.{set_here_path}
use Rattle.wave_effects.proofs.StoreParts.{at_host as at_written_host}
use Rattle.wave_machine.specs.inner.Updating.{IsNowhere, has_at, is_queue}
use Rattle.wave_machine.specs.inner.Listable.{CanList}
use Rattle.wave_machine.proofs.ListingKinds.{has_as, nothing_past, slice_none}
use Rattle.wave_machine.proofs.Owned as owned

unmarked : (o : Option marks.Mark) → None ≡ option_map mark_of o → o ≡ None
unmarked None e = refl
unmarked (Some m) e = absurd (none_not e)

-- a Start is no Queue
pub begins_not : (a : program.Act) → is_start a ≡ true → is_queue (act_of a) ≡ true → ⊥
begins_not (variant.Admit t) e q = true≢false (sym q)
begins_not (variant.Queue k p) e q = true≢false (sym e)
begins_not (variant.Grant t p) e q = true≢false (sym q)
begins_not (variant.Visit k p) e q = true≢false (sym q)
begins_not (variant.Start t p) e q = true≢false (sym q)
begins_not (variant.Stop t p) e q = true≢false (sym q)
begins_not (variant.Free k p) e q = true≢false (sym q)
begins_not (variant.Pass k p g) e q = true≢false (sym q)
begins_not (variant.Land k p) e q = true≢false (sym q)
begins_not (variant.Commit t) e q = true≢false (sym q)

module _ (m : Kept) (start : Start) (s : TheState) (shows : Shows m s) (list : CanList m.plan start s) where
  abbrev sys : Actors actors.Actor Fields EventResult Line
  sys = plan_actors m.plan.program

  -- a host has the context where the state's store has it
  pub has_here : (p : Path) (h : ℕ) → has_at p (slice_get m.stores h) ≡ is_some ((s.columns p).store h)
  has_here p h = by_store (slice_get m.stores h) refl
    where
      by_store : (o : Option Stores) → slice_get m.stores h ≡ o → has_at p o ≡ is_some ((s.columns p).store h)
      by_store (Some st) e = sym (has_as st p (s.columns p) h (shows.stores.each h st e p))
      by_store None e = sym (ap is_some (nothing_past m start s shows list p h (slice_none m.stores h e)).0)

  -- nobody is ready at one that is nowhere
  pub none_ready : (p : Path) → ((h : ℕ) → has_at p (slice_get m.stores h) ≡ false) → (i : ℕ) (c : Cell Actor) → slice_get m.cells i ≡ Some c → c.status ≡ status.Ready p → ⊥
  none_ready p away i c there ready =
      let cell : IsCell m.plan.program c (s.cells (m.first + i)) = shows.cells.each i c there in
      let d = list.doable.starts (m.first + i) (event_as cell.desk.event) p cell.event (cell.stands.status ∙ ap status_of ready) in
      true≢false (sym d.1 ∙ sym (has_here p d.0) ∙ away d.0)

  -- what was not born yet is nowhere
  unborn_nowhere : (p : Path) → IsUnborn s p → IsNowhere m p
  unborn_nowhere p unborn = record {
    away = away;
    unmarked = λ h st e. unmarked (table.get st.gone p) (sym (unborn.no_mark h) ∙ (shows.stores.each h st e p).mark);
    enters = enters;
    none_ready = none_ready p away;
  }
    where
      away : (h : ℕ) → has_at p (slice_get m.stores h) ≡ false
      away h = has_here p h ∙ ap is_some (unborn.no_entry h)

      enters : (i k : ℕ) (c : Cell Actor) (e : Envelope) (number followed : ℕ) (peek : Bool) → slice_get m.cells i ≡ Some c → mail_in c.outbox.mails k ≡ Some e → e.path ≡ p → e.letter ≡ letter.Enter number followed peek → followed ≡ 0
      enters i k c e number followed peek there sent path is =
          by_mail ((s.cells (m.first + i)).mails k) refl (subst (λ r. Carries (Some e) r) (sym (cell.mails k)) (subst (λ o. Carries o (cell.desk.mails k)) sent (cell.stands.mails k)))
        where
          cell : IsCell m.plan.program c (s.cells (m.first + i))
          cell = shows.cells.each i c there

          by_mail : (o : Option (Mail Fields)) → (s.cells (m.first + i)).mails k ≡ o → Carries (Some e) o → followed ≡ 0
          by_mail None z carried = absurd carried
          by_mail (Some x) z carried =
              let says : x.letter ≡ theory.Enter (record { number = number; followed = followed; peek = peek }) = subst (λ y. Says y x.letter) is carried.letter in
              let within : followed ≤ 0 = (unborn.enters (m.first + i) k x (record { number = number; followed = followed; peek = peek }) z (carried.path ∙ path) says).0 in
              omega (arith, within)

  module _ (w host t k : ℕ) (p : Path) (s' : TheState) (e : step sys m.plan.workers s (record { worker = w; host = host; act = Queue t k p }) ≡ Some s') where
    left : Left sys m.plan.workers s s' (record { worker = w; host = host; act = Queue t k p })
    left = left_by sys m.plan.workers s s' (record { worker = w; host = host; act = Queue t k p }) refl e

    found : Queues sys t k p host (part_of s t p) left.bench.part
    found = queues sys t k p host (part_of s t p) left.bench.part (queue_found sys host (part_of s t p) left.bench t k p (s.hands w) left.found).part

    -- its host has it afterwards
    queued_here : is_some ((s'.columns p).store host) ≡ true
    queued_here = ap is_some (
        ap (λ (z : TheState). (z.columns p).store host) (sym left.gives)
        ∙ ap (λ (z : Column Fields). z.store host) (sym (set_here_path s.columns p left.bench.part.column))
        ∙ ap (λ (z : ThePart). z.column.store host) (sym found.gives)
        ∙ at_written_host (s.columns p) host (in_line found.entry found.ask.number (record { ticket = t; peek = found.ask.peek })))

    module _ (away : is_some ((s.columns p).store host) ≡ false) where
      abbrev to_join : Route → Type 0
      to_join r = entry_for sys p host (s.columns p) r ≡ Some found.entry

      -- the Enter's route is Born
      born_here : ((s.columns p).gone host ≡ None) × (found.ask.followed ≡ 0)
      born_here = by_mark ((s.columns p).gone host) refl (subst to_join (ap (λ (b : Bool). if b then Deliver else route_by ((s.columns p).gone host) found.ask.followed) away) found.entry_is)
        where
          forwards_not : (b : Bool) (to : ℕ) → to_join (if b then Forward to else Wait) → ⊥
          forwards_not true to h = none_not h
          forwards_not false to h = none_not h

          by_first : (b : Bool) → nat_eq found.ask.followed 0 ≡ b → to_join (if b then Born else Wait) → found.ask.followed ≡ 0
          by_first true z h = number_is found.ask.followed 0 z
          by_first false z h = absurd (none_not h)

          by_mark : (o : Option theory.Mark) → (s.columns p).gone host ≡ o → to_join (route_by ((s.columns p).gone host) found.ask.followed) → ((s.columns p).gone host ≡ None) × (found.ask.followed ≡ 0)
          by_mark (Some x) z h = absurd (forwards_not (nat_lt found.ask.followed x.number) x.to (subst (λ o. to_join (route_by o found.ask.followed)) z h))
          by_mark None z h = (z, by_first (nat_eq found.ask.followed 0) refl (subst (λ o. to_join (route_by o found.ask.followed)) z h))

      -- a context that has a trail left no host without a mark, or is on its way there, so that the Enter waits
      trail_not : (trail : Trail) → IsTrail s p trail → ⊥
      trail_not trail is = by_left (is.unmarked host born_here.0)
        where
          at_first : trail.at 0 ≡ host
          at_first = sym (sym found.letter_at.host_is ∙ (is.enters t k found.letter_at.mail found.ask found.letter_at.mail_is found.letter_at.path_is found.letter_at.letter_is).1 ∙ ap trail.at born_here.1)

          waits_not : route (s.columns p) host found.ask.followed ≡ Wait → ⊥
          waits_not waits = none_not (subst to_join waits found.entry_is)

          coming_not : 0 ≡ trail.last → IsComing s p host → ⊥
          coming_not none coming =
              waits_not (subst (λ h. route (s.columns p) h found.ask.followed ≡ Wait) found.letter_at.host_is
              ((is.waits t k found.letter_at.mail found.ask found.letter_at.mail_is found.letter_at.path_is found.letter_at.letter_is).1 (subst (IsComing s p) (sym found.letter_at.host_is) coming, born_here.1 ∙ none)))

          owner_not : 0 ≡ trail.last → IsOwner s p host → ⊥
          owner_not none (inl here) = clash (is_some ((s.columns p).store host)) here away
          owner_not none (inr coming) = coming_not none coming

          by_last : ((i : ℕ) → i < trail.last → trail.at i ≢ host) → (0 ≡ trail.last) ⊎ (nat_eq 0 trail.last ≡ false) → ⊥
          by_last apart (inl none) = owner_not none (subst (IsOwner s p) (ap trail.at (sym none) ∙ at_first) is.owned)
          by_last apart (inr d) = let some = not_same 0 trail.last d in apart 0 (omega (arith, some)) at_first

          by_left : (is_some ((s.columns p).store host) ≡ true) ⊎ ((i : ℕ) → i < trail.last → trail.at i ≢ host) → ⊥
          by_left (inl here) = clash (is_some ((s.columns p).store host)) here away
          by_left (inr apart) = by_last apart (number_cases 0 trail.last)

      was_nowhere : IsNowhere m p
      was_nowhere = elim (list.trails p) [ inl unborn ↦ unborn_nowhere p unborn | inr trail ↦ absurd (trail_not trail.0 trail.1) ]

    module _ (m' : Kept) (shows' : Shows m' s') (many : length m'.stores ≡ length m.stores) where
      stays_here : has_at p (slice_get m.stores host) ≡ true → has_at p (slice_get m'.stores host) ≡ true
      stays_here here = by_store (slice_get m.stores host) refl here
        where
          by_store : (o : Option Stores) → slice_get m.stores host ≡ o → has_at p o ≡ true → has_at p (slice_get m'.stores host) ≡ true
          by_store None z h = absurd (true≢false (sym h))
          by_store (Some st) z h =
              let within = slice_get_within m.stores host st z in
              let x = owned.slice_some m'.stores host (omega (arith, within, many)) in
              ap (has_at p) x.1 ∙ sym (has_as x.0 p (s'.columns p) host (shows'.stores.each host x.0 x.1 p)) ∙ queued_here

      stays_or : (has_at p (slice_get m'.stores host) ≡ has_at p (slice_get m.stores host)) ⊎ IsNowhere m p
      stays_or = elim (bool_cases (has_at p (slice_get m.stores host))) [ inl here ↦ inl (stays_here here ∙ sym here) | inr away ↦ inr (was_nowhere (sym (has_here p host) ∙ away)) ]

pub queue_born : (m m' : Kept) (l : Label) (more : ℕ) (on : IsEnabled m l) → CanList m.plan on.start on.state → Takes m m' l → Moves m m' l more → is_queue l.act ≡ true
    → (has_at (path_of l.act) (slice_get m'.stores l.host) ≡ has_at (path_of l.act) (slice_get m.stores l.host)) ⊎ IsNowhere m (path_of l.act)
queue_born m m' l more on list takes moves = by_act l.act on.enabled
  where
    stands' : Stands m' on.start on.next
    stands' = takes on.start on.state on.next on.stands on.enabled

    by_act : (a : Act) → step (plan_actors m.plan.program) m.plan.workers on.state (record { worker = l.worker; host = l.host; act = a }) ≡ Some on.next → is_queue a ≡ true
        → (has_at (path_of a) (slice_get m'.stores l.host) ≡ has_at (path_of a) (slice_get m.stores l.host)) ⊎ IsNowhere m (path_of a)
    by_act (Queue t k p) e q = stays_or m on.start on.state on.stands.shows list l.worker l.host t k p on.next e m' stands'.shows moves.others.as_many_stores
    by_act (Admit t) e q = absurd (true≢false (sym q))
    by_act (Grant t p) e q = absurd (true≢false (sym q))
    by_act (Visit t k p) e q = absurd (true≢false (sym q))
    by_act (Starting t p) e q = absurd (true≢false (sym q))
    by_act (Stop t p) e q = absurd (true≢false (sym q))
    by_act (Free t k p) e q = absurd (true≢false (sym q))
    by_act (Pass t k p g) e q = absurd (true≢false (sym q))
    by_act (Land t k p) e q = absurd (true≢false (sym q))
    by_act (Commit t) e q = absurd (true≢false (sym q))

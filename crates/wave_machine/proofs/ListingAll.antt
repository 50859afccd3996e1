-- All that is asked for, in order, is the canonical list.
use Rattle.std.proofs.Common.{◌≡◌, ◌∙◌, inl, ℕ, suc, ◌+◌, ◌-◌, ◌<◌, ◌==◌, Bool, true, false, cond, List, [], ◌∷◌, ◌++◌, length, map, is_some, is_none, Option, Some, None, refl, sym, ap, subst, arith, position, append-nil}
use Rattle.std.specs.Prelude.{filter, flat_map, option_map, slice_get}
use Rattle.std.specs.FinMap as table
use Rattle.std.proofs.lemmas.List.{map-append}
use Rattle.std.proofs.lemmas.List.Elements.{filter-append}
use Rattle.wave_base.specs.declared.numbers.Ticket.{Ticket}
use Rattle.wave_base.specs.declared.outcome.EventResult.{EventResult}
use Rattle.wave_base.specs.declared.path.Path.{Path}
use Rattle.wave_base.specs.declared.script.Line.{Line}
use Rattle.wave_base.specs.declared.start.Start.{Start}
use Rattle.wave_base.specs.Fold.{Head, tickets_from}
use Rattle.wave_base.specs.Paths.{path_eq}
use Rattle.commit_order.specs.Commits.{ready_result}
use Rattle.event_cells.specs.declared.cell.Cell.{Cell}
use Rattle.event_cells.specs.declared.status.Status as S
use Rattle.event_cells.specs.declared.status.Status.TheVariants as status
use Rattle.event_cells.specs.Cells.{status_of}
use Rattle.wave_states.specs.Actors.{Actors}
use Rattle.wave_states.specs.Canonical.{at_host, below, by_event, by_mail, by_mails, by_status, early, enabled_labels, grants_of, idle_in, late, mail_act, passes_of, runs_it, starts_of, stop_by, stops, stops_of, taken_as, taken_by, takes, tickets}
use Rattle.wave_states.specs.Labels.{Act, Choice, Label, Admit, Queue, Grant, Start as Begin, Stop, Free, Pass, Land, Commit, is_stop}
use Rattle.wave_states.specs.Labels
use Rattle.wave_states.specs.States as theory
use Rattle.wave_states.specs.States.{Event, Hand, Mail}
use Rattle.wave_states.specs.Steps.{next_ticket, step}
use Rattle.wave_theory.proofs.Basics.{number_is, path_is, and_first, and_second}
use Rattle.code_actor.specs.CodeActors.{Fields}
use Rattle.plan_actors.specs.PlanActors as actors
use Rattle.plan_actors.specs.PlanActors.{plan_actors}
use Rattle.wave_effects.specs.declared.actor.Actor.{Actor}
use Rattle.wave_effects.specs.Machines.{IsCell, Kept, Shows, TheState}
use Rattle.wave_machine.specs.inner.Asking.{admit_labels, asked_in, by_taker, by_ticket, cell_labels, commit_labels, in_order, label_at, mails_labels, of_kind, runs_out, status_labels, stop_labels, stops_labels}
use Rattle.wave_effects.specs.Keeping.{place_in}
use Rattle.wave_machine.specs.inner.Listable.{CanList}
use Rattle.wave_machine.proofs.ListingLists.{by_ticket_is, filter_by_ticket, filter_flat, filter_passed, flat_none, map_flat}
use Rattle.wave_machine.proofs.ListingSteps.{admit_can, commit_can, taken_one}
use Rattle.wave_machine.proofs.ListingKinds.{frees_asked, grants_asked, idle_same, lands_asked, passes_asked, place_same, placed_there, queues_asked, runs_same, starts_asked, visits_asked}
use Rattle.wave_machine.proofs.ListingCells.{flat_flat, idle_lowest, is_kind, map_as, no_head, only_mails, only_status, only_stops, slice_after, ten, unless, within_is}

module _ (m : Kept) (start : Start) (s : TheState) (shows : Shows m s) (list : CanList m.plan start s) where
  abbrev sys : Actors actors.Actor Fields EventResult Line
  sys = plan_actors m.plan.program

  abbrev can : Label → Bool
  can l = is_some (step sys m.plan.workers s l)

  pub takes_append : (w : ℕ) (xs ys : List Choice) → takes sys m.plan.workers s w (xs ++ ys) ≡ takes sys m.plan.workers s w xs ++ takes sys m.plan.workers s w ys
  takes_append w xs ys = ap (filter can) (map-append (taken_as w) xs ys) ∙ filter-append can (map (taken_as w) xs) (map (taken_as w) ys)

  pub takes_flat : {Y : Type 0} (w : ℕ) (f : Y → List Choice) (ys : List Y) → takes sys m.plan.workers s w (flat_map f ys) ≡ flat_map (λ y. takes sys m.plan.workers s w (f y)) ys
  takes_flat w f ys = ap (filter can) (map_flat (taken_as w) f ys) ∙ filter_flat can (λ y. map (taken_as w) (f y)) ys

  abbrev T : Option ℕ → List Choice → List Label
  T o cs = taken_by sys m.plan.workers s o cs

  taken_append : (o : Option ℕ) (xs ys : List Choice) → T o (xs ++ ys) ≡ T o xs ++ T o ys
  taken_append None xs ys = refl
  taken_append (Some w) xs ys = takes_append w xs ys

  taken_flat : (o : Option ℕ) (f : ℕ → List Choice) (ys : List ℕ) → T o (flat_map f ys) ≡ flat_map (λ y. T o (f y)) ys
  taken_flat None f ys = sym (flat_none (λ y. []) (λ y. refl) ys)
  taken_flat (Some w) f ys = takes_flat w f ys

  tickets_are : tickets s ≡ tickets_from m.first (length m.cells)
  tickets_are = let many : s.admitted ≡ length m.cells = shows.head.admitted ∙ sym shows.cells.as_many in λ i. tickets_from (shows.head.before i) (many i)

  -- a worker can stop what it runs
  pub can_stop : (w t h : ℕ) (p : Path) → place_in m.stores p ≡ Some h → runs_it (s.hands w) t p ≡ true → can (record { worker = w; host = h; act = Stop t p }) ≡ true
  can_stop w t h p at runs = by_hand (s.hands w) refl runs
    where
      by_hand : (o : Option (Hand actors.Actor Fields)) → s.hands w ≡ o → runs_it o t p ≡ true → can (record { worker = w; host = h; act = Stop t p }) ≡ true
      by_hand None e r = cc
      by_hand (Some g) e r =
          let it = list.stoppable w g e in
          let ticket : g.ticket ≡ t = number_is g.ticket t (and_first (g.ticket == t) (path_eq g.path p) r) in
          let path : g.path ≡ p = path_is g.path p (and_second (g.ticket == t) (path_eq g.path p) r) in
          let same : it.host ≡ h = list.owner.one p it.host h (inl (subst (λ q. is_some ((s.columns q).store it.host) ≡ true) path it.here)) (inl (placed_there m start s shows list p h at)) in
          ap (λ (l : Label). can l) (λ i. record { worker = w; host = sym same i; act = Stop (sym ticket i) (sym path i) }) ∙ it.enabled

  module _ (idle : Option ℕ) (ws : List ℕ) (idles : (w : ℕ) → idle ≡ Some w → (w < m.plan.workers) × (s.hands w ≡ None)) where
    abbrev asked_cells : List Label
    asked_cells = by_ticket (cell_labels m.stores m.hands idle ws) m.first m.cells

    over_cells : (n : ℕ) (X : List Choice → List Label) → ((f : ℕ → List Choice) (ys : List ℕ) → X (flat_map f ys) ≡ flat_map (λ y. X (f y)) ys) → (item : ℕ → List Choice)
        → ((t : ℕ) (c : Cell Actor) → IsCell m.plan.program c (s.cells t) → of_kind n (cell_labels m.stores m.hands idle ws t c) ≡ X (item t)) → of_kind n asked_cells ≡ X (flat_map item (tickets s))
    over_cells n X flat item each =
        filter_by_ticket (cell_labels m.stores m.hands idle ws) (is_kind n) m.first m.cells
        ∙ by_ticket_is (λ t c. of_kind n (cell_labels m.stores m.hands idle ws t c)) (λ t. X (item t)) m.cells m.first (λ i c e. each (m.first + i) c (shows.cells.each i c e))
        ∙ ap (flat_map (λ t. X (item t))) (sym tickets_are)
        ∙ sym (flat item (tickets s))

    by_idle : (mine : ℕ → List Label) (cs : List Choice) → ((w : ℕ) → w < m.plan.workers → s.hands w ≡ None → mine w ≡ takes sys m.plan.workers s w cs) → by_taker idle mine ≡ T idle cs
    by_idle mine cs each = by_one idle refl
      where
        by_one : (o : Option ℕ) → idle ≡ o → by_taker o mine ≡ T o cs
        by_one None e = refl
        by_one (Some w) e = each w (idles w e).0 (idles w e).1

    -- by ticket, what mails and statuses ask for
    abbrev Mailed : (ℕ → ℕ → Mail Fields → List Choice) → ℕ → List Choice
    Mailed f t = by_event (s.cells t).event (λ e. flat_map (λ k. by_mail ((s.cells t).mails k) (f t k)) (tickets_from 1 e.sent))

    abbrev Stated : (ℕ → theory.Status → List Choice) → ℕ → List Choice
    Stated f t = by_event (s.cells t).event (λ e. f t e.status)

    queues_are : of_kind 1 asked_cells ≡ T idle (by_mails s (mail_act (λ t k p. Queue t k p)))
    queues_are = over_cells 1 (λ cs. T idle cs) (taken_flat idle) (Mailed (mail_act (λ t k p. Queue t k p)))
        (λ t c is. only_mails m.stores m.hands idle ws t c 1 refl refl refl ∙ by_idle (λ w. of_kind 1 (mails_labels m.stores w t c.outbox)) (Mailed (mail_act (λ t k p. Queue t k p)) t) (λ w l e. sym (queues_asked m start s shows list w l e t c is)))

    visits_are : of_kind 3 asked_cells ≡ T idle (by_mails s (mail_act (λ t k p. Labels.Visit t k p)))
    visits_are = over_cells 3 (λ cs. T idle cs) (taken_flat idle) (Mailed (mail_act (λ t k p. Labels.Visit t k p)))
        (λ t c is. only_mails m.stores m.hands idle ws t c 3 refl refl refl ∙ by_idle (λ w. of_kind 3 (mails_labels m.stores w t c.outbox)) (Mailed (mail_act (λ t k p. Labels.Visit t k p)) t) (λ w l e. sym (visits_asked m start s shows list w l e t c is)))

    frees_are : of_kind 6 asked_cells ≡ T idle (by_mails s (mail_act (λ t k p. Free t k p)))
    frees_are = over_cells 6 (λ cs. T idle cs) (taken_flat idle) (Mailed (mail_act (λ t k p. Free t k p)))
        (λ t c is. only_mails m.stores m.hands idle ws t c 6 refl refl refl ∙ by_idle (λ w. of_kind 6 (mails_labels m.stores w t c.outbox)) (Mailed (mail_act (λ t k p. Free t k p)) t) (λ w l e. sym (frees_asked m start s shows list w l e t c is)))

    passes_are : of_kind 7 asked_cells ≡ T idle (by_mails s (passes_of s))
    passes_are = over_cells 7 (λ cs. T idle cs) (taken_flat idle) (Mailed (passes_of s))
        (λ t c is. only_mails m.stores m.hands idle ws t c 7 refl refl refl ∙ by_idle (λ w. of_kind 7 (mails_labels m.stores w t c.outbox)) (Mailed (passes_of s) t) (λ w l e. sym (passes_asked m start s shows list w l e t c is)))

    lands_are : of_kind 8 asked_cells ≡ T idle (by_mails s (mail_act (λ t k p. Land t k p)))
    lands_are = over_cells 8 (λ cs. T idle cs) (taken_flat idle) (Mailed (mail_act (λ t k p. Land t k p)))
        (λ t c is. only_mails m.stores m.hands idle ws t c 8 refl refl refl ∙ by_idle (λ w. of_kind 8 (mails_labels m.stores w t c.outbox)) (Mailed (mail_act (λ t k p. Land t k p)) t) (λ w l e. sym (lands_asked m start s shows list w l e t c is)))

    grants_are : of_kind 2 asked_cells ≡ T idle (by_status s (grants_of s m.plan.script.hosts))
    grants_are = over_cells 2 (λ cs. T idle cs) (taken_flat idle) (Stated (grants_of s m.plan.script.hosts))
        (λ t c is. only_status m.stores m.hands idle ws t c 2 refl refl refl refl refl refl ∙ by_idle (λ w. of_kind 2 (status_labels m.stores w t c.status)) (Stated (grants_of s m.plan.script.hosts) t) (λ w l e. sym (grants_asked m start s shows list w l e t c is)))

    starts_are : of_kind 4 asked_cells ≡ T idle (by_status s (starts_of s m.plan.script.hosts))
    starts_are = over_cells 4 (λ cs. T idle cs) (taken_flat idle) (Stated (starts_of s m.plan.script.hosts))
        (λ t c is. only_status m.stores m.hands idle ws t c 4 refl refl refl refl refl refl ∙ by_idle (λ w. of_kind 4 (status_labels m.stores w t c.status)) (Stated (starts_of s m.plan.script.hosts) t) (λ w l e. sym (starts_asked m start s shows list w l e t c is)))

    no_cells : (n : ℕ) → (5 == n) ≡ false → (1 == n) ≡ false → (3 == n) ≡ false → (6 == n) ≡ false → (7 == n) ≡ false → (8 == n) ≡ false → (2 == n) ≡ false → (4 == n) ≡ false → of_kind n asked_cells ≡ []
    no_cells n x q v f p l g b = over_cells n (λ cs. []) (λ h ys. sym (flat_none (λ y. []) (λ y. refl) ys)) (λ t. []) (λ t c is. no_head m.stores m.hands idle ws t c n x q v f p l g b)

    -- the head
    abbrev asked_head : List Label
    asked_head = by_taker idle (λ w. admit_labels w m.head ++ commit_labels w (m.first + length m.settled.results) m.commits)

    head_pieces : (n : ℕ) → of_kind n asked_head ≡ by_taker idle (λ w. of_kind n (admit_labels w m.head) ++ of_kind n (commit_labels w (m.first + length m.settled.results) m.commits))
    head_pieces n = by_one idle
      where
        by_one : (o : Option ℕ) → of_kind n (by_taker o (λ w. admit_labels w m.head ++ commit_labels w (m.first + length m.settled.results) m.commits)) ≡ by_taker o (λ w. of_kind n (admit_labels w m.head) ++ of_kind n (commit_labels w (m.first + length m.settled.results) m.commits))
        by_one None = refl
        by_one (Some w) = filter-append (is_kind n) (admit_labels w m.head) (commit_labels w (m.first + length m.settled.results) m.commits)

    admit_not : (n : ℕ) → (0 == n) ≡ false → (w : ℕ) → of_kind n (admit_labels w m.head) ≡ []
    admit_not n a w = by_line (slice_get m.head.waiting 0)
      where
        by_line : (o : Option Line) → of_kind n (label_at w 0 (option_map (λ (t : Ticket). Admit t.0) (option_map (λ z. record { 0 = m.head.first + m.head.admitted }) o))) ≡ []
        by_line None = refl
        by_line (Some l) = unless (record { worker = w; host = 0; act = Admit (m.head.first + m.head.admitted) }) (0 == n) a

    commit_not : (n : ℕ) → (9 == n) ≡ false → (w : ℕ) → of_kind n (commit_labels w (m.first + length m.settled.results) m.commits) ≡ []
    commit_not n a w = by_result (ready_result m.commits)
      where
        by_result : (o : Option EventResult) → of_kind n (label_at w 0 (option_map (λ r. Commit (m.first + length m.settled.results)) o)) ≡ []
        by_result None = refl
        by_result (Some r) = unless (record { worker = w; host = 0; act = Commit (m.first + length m.settled.results) }) (9 == n) a

    head_not : (n : ℕ) → (0 == n) ≡ false → (9 == n) ≡ false → of_kind n asked_head ≡ []
    head_not n a b = head_pieces n ∙ by_one idle
      where
        by_one : (o : Option ℕ) → by_taker o (λ w. of_kind n (admit_labels w m.head) ++ of_kind n (commit_labels w (m.first + length m.settled.results) m.commits)) ≡ []
        by_one None = refl
        by_one (Some w) = λ i. admit_not n a w i ++ commit_not n b w i

    admits_are : of_kind 0 asked_head ≡ T idle (record { host = 0; act = Admit (next_ticket s) } ∷ [])
    admits_are = head_pieces 0 ∙ by_idle (λ w. of_kind 0 (admit_labels w m.head) ++ of_kind 0 (commit_labels w (m.first + length m.settled.results) m.commits)) (record { host = 0; act = Admit (next_ticket s) } ∷ []) one
      where
        one : (w : ℕ) → w < m.plan.workers → s.hands w ≡ None → of_kind 0 (admit_labels w m.head) ++ of_kind 0 (commit_labels w (m.first + length m.settled.results) m.commits) ≡ takes sys m.plan.workers s w (record { host = 0; act = Admit (next_ticket s) } ∷ [])
        one w l e =
            let h = shows.head in
            let after_lines : s.admitted ≡ length h.lines = h.admitted ∙ sym h.as_many in
            let known_is : slice_get s.head.known s.admitted ≡ slice_get m.head.waiting 0 =
            (λ i. slice_get (ap (λ (x : Head Line). x.known) h.head i) (after_lines i)) ∙ slice_after h.lines m.head.waiting in
            let before = h.before in
            let first = h.first in
            let count = h.admitted in
            let ticket : m.head.first + m.head.admitted ≡ next_ticket s = omega (arith, before, first, count) in
            ap (λ r. of_kind 0 (admit_labels w m.head) ++ r) (commit_not 0 refl w)
            ∙ append-nil (of_kind 0 (admit_labels w m.head))
            ∙ shown w ticket (slice_get m.head.waiting 0)
            ∙ sym (taken_one sys m.plan.workers s w 0 (Admit (next_ticket s)) (is_some (slice_get m.head.waiting 0)) (admit_can sys m.plan.workers s w (within_is w m.plan.workers l) e ∙ ap is_some known_is))
          where
            shown : (w : ℕ) → m.head.first + m.head.admitted ≡ next_ticket s → (o : Option Line) → of_kind 0 (label_at w 0 (option_map (λ (t : Ticket). Admit t.0) (option_map (λ z. record { 0 = m.head.first + m.head.admitted }) o))) ≡ cond (is_some o) (record { worker = w; host = 0; act = Admit (next_ticket s) } ∷ []) []
            shown w ticket None = refl
            shown w ticket (Some x) = λ i. record { worker = w; host = 0; act = Admit (ticket i) } ∷ []

    commits_are : of_kind 9 asked_head ≡ T idle (record { host = 0; act = Commit (suc (s.before + s.head.done)) } ∷ [])
    commits_are = head_pieces 9 ∙ by_idle (λ w. of_kind 9 (admit_labels w m.head) ++ of_kind 9 (commit_labels w (m.first + length m.settled.results) m.commits)) (record { host = 0; act = Commit (suc (s.before + s.head.done)) } ∷ []) one
      where
        one : (w : ℕ) → w < m.plan.workers → s.hands w ≡ None → of_kind 9 (admit_labels w m.head) ++ of_kind 9 (commit_labels w (m.first + length m.settled.results) m.commits) ≡ takes sys m.plan.workers s w (record { host = 0; act = Commit (suc (s.before + s.head.done)) } ∷ [])
        one w l e =
            let h = shows.head in
            let r = shows.results in
            let t = suc (s.before + s.head.done) in
            let before = h.before in
            let done : s.head.done ≡ m.head.done = ap (λ (x : Head Line). x.done) h.head in
            let many = r.as_many in
            let next = r.next in
            let place : t ≡ m.commits.committed + 1 = omega (arith, before, done, next) in
            let ticket : m.first + length m.settled.results ≡ t = omega (arith, before, done, many) in
            let above : m.commits.committed < t = omega (arith, place) in
            let ready : (s.cells t).result ≡ ready_result m.commits = r.ended t above ∙ ap (table.get m.commits.results) place in
            ap (λ x. x ++ of_kind 9 (commit_labels w (m.first + length m.settled.results) m.commits)) (admit_not 9 refl w)
            ∙ shown w ticket (ready_result m.commits)
            ∙ sym (taken_one sys m.plan.workers s w 0 (Commit t) (is_some (ready_result m.commits)) (commit_can sys m.plan.workers s w (within_is w m.plan.workers l) e ∙ ap is_some ready))
          where
            shown : (w : ℕ) → m.first + length m.settled.results ≡ suc (s.before + s.head.done) → (o : Option EventResult) → of_kind 9 (label_at w 0 (option_map (λ r. Commit (m.first + length m.settled.results)) o)) ≡ cond (is_some o) (record { worker = w; host = 0; act = Commit (suc (s.before + s.head.done)) } ∷ []) []
            shown w ticket None = refl
            shown w ticket (Some x) = λ i. record { worker = w; host = 0; act = Commit (ticket i) } ∷ []

    -- the kinds that an idle worker takes, before the Stops and behind them
    early_is : T idle (early s m.plan.script.hosts) ≡ (((of_kind 0 asked_head ++ of_kind 1 asked_cells) ++ of_kind 2 asked_cells) ++ of_kind 3 asked_cells) ++ of_kind 4 asked_cells
    early_is =
        let a : List Choice = record { host = 0; act = Admit (next_ticket s) } ∷ [] in
        let q : List Choice = by_mails s (mail_act (λ t k p. Queue t k p)) in
        let g : List Choice = by_status s (grants_of s m.plan.script.hosts) in
        let v : List Choice = by_mails s (mail_act (λ t k p. Labels.Visit t k p)) in
        let b : List Choice = by_status s (starts_of s m.plan.script.hosts) in
        taken_append idle (((a ++ q) ++ g) ++ v) b
        ∙ ap (λ r. r ++ T idle b) (taken_append idle ((a ++ q) ++ g) v ∙ ap (λ r. r ++ T idle v) (taken_append idle (a ++ q) g ∙ ap (λ r. r ++ T idle g) (taken_append idle a q)))
        ∙ (λ i. (((sym admits_are i ++ sym queues_are i) ++ sym grants_are i) ++ sym visits_are i) ++ sym starts_are i)

    late_is : T idle (late s) ≡ ((of_kind 6 asked_cells ++ of_kind 7 asked_cells) ++ of_kind 8 asked_cells) ++ of_kind 9 asked_head
    late_is =
        let f : List Choice = by_mails s (mail_act (λ t k p. Free t k p)) in
        let p : List Choice = by_mails s (passes_of s) in
        let l : List Choice = by_mails s (mail_act (λ t k p. Land t k p)) in
        let c : List Choice = record { host = 0; act = Commit (suc (s.before + s.head.done)) } ∷ [] in
        taken_append idle ((f ++ p) ++ l) c
        ∙ ap (λ r. r ++ T idle c) (taken_append idle (f ++ p) l ∙ ap (λ r. r ++ T idle l) (taken_append idle f p))
        ∙ (λ i. ((sym frees_are i ++ sym passes_are i) ++ sym lands_are i) ++ sym commits_are i)

    of_cells : (n : ℕ) → (0 == n) ≡ false → (9 == n) ≡ false → of_kind n (asked_in m idle ws) ≡ of_kind n asked_cells
    of_cells n a b = filter-append (is_kind n) asked_head asked_cells ∙ ap (λ r. r ++ of_kind n asked_cells) (head_not n a b)

    of_head : (n : ℕ) → (5 == n) ≡ false → (1 == n) ≡ false → (3 == n) ≡ false → (6 == n) ≡ false → (7 == n) ≡ false → (8 == n) ≡ false → (2 == n) ≡ false → (4 == n) ≡ false → of_kind n (asked_in m idle ws) ≡ of_kind n asked_head
    of_head n x q v f p l g b = filter-append (is_kind n) asked_head asked_cells ∙ ap (λ r. of_kind n asked_head ++ r) (no_cells n x q v f p l g b) ∙ append-nil (of_kind n asked_head)

    pub in_order_is : in_order (asked_in m idle ws) ≡ (T idle (early s m.plan.script.hosts) ++ of_kind 5 asked_cells) ++ T idle (late s)
    in_order_is =
        (λ i. of_head 0 refl refl refl refl refl refl refl refl i
        ++ (of_cells 1 refl refl i ++ (of_cells 2 refl refl i ++ (of_cells 3 refl refl i ++ (of_cells 4 refl refl i ++ (of_cells 5 refl refl i ++ (of_cells 6 refl refl i ++ (of_cells 7 refl refl i ++ (of_cells 8 refl refl i
        ++ (of_head 9 refl refl refl refl refl refl refl refl i ++ []))))))))))
        ∙ ten (of_kind 0 asked_head) (of_kind 1 asked_cells) (of_kind 2 asked_cells) (of_kind 3 asked_cells) (of_kind 4 asked_cells) (of_kind 5 asked_cells) (of_kind 6 asked_cells) (of_kind 7 asked_cells) (of_kind 8 asked_cells) (of_kind 9 asked_head)
        ∙ (λ i. (sym early_is i ++ of_kind 5 asked_cells) ++ sym late_is i)

    -- the Stops, however they are read off the choices
    pub stops_are : (X : List Choice → List Label) → ((f : ℕ → List Choice) (ys : List ℕ) → X (flat_map f ys) ≡ flat_map (λ y. X (f y)) ys)
        → ((t h : ℕ) (p : Path) → place_in m.stores p ≡ Some h → stop_labels m.stores m.hands ws t p (Some h) ≡ X (record { host = h; act = Stop t p } ∷ [])) → of_kind 5 asked_cells ≡ X (stops s m.plan.script.hosts)
    stops_are X flat each = over_cells 5 X flat (Stated (stops_of s m.plan.script.hosts)) one
      where
        by_place : (t : ℕ) (p : Path) (o : Option ℕ) → place_in m.stores p ≡ o → stop_labels m.stores m.hands ws t p o ≡ X (at_host o (Stop t p))
        by_place t p None e = sym (flat (λ y. []) [])
        by_place t p (Some h) e = each t h p e

        by_status_of : (t : ℕ) (st : S.Status) → stops_labels m.stores m.hands ws t st ≡ X (stops_of s m.plan.script.hosts t (status_of st))
        by_status_of t status.Travelling = sym (flat (λ y. []) [])
        by_status_of t (status.Waiting p) = sym (flat (λ y. []) [])
        by_status_of t (status.Ready p) = sym (flat (λ y. []) [])
        by_status_of t status.Ended = sym (flat (λ y. []) [])
        by_status_of t (status.Running p) = by_place t p (place_in m.stores p) refl ∙ ap (λ o. X (at_host o (Stop t p))) (sym (place_same m start s shows list p))

        one : (t : ℕ) (c : Cell Actor) → IsCell m.plan.program c (s.cells t) → of_kind 5 (cell_labels m.stores m.hands idle ws t c) ≡ X (Stated (stops_of s m.plan.script.hosts) t)
        one t c is =
            only_stops m.stores m.hands idle ws t c
            ∙ by_status_of t c.status
            ∙ ap (λ u. X (stops_of s m.plan.script.hosts t u)) (sym is.stands.status)
            ∙ ap (λ o. X (by_event o (λ e. stops_of s m.plan.script.hosts t e.status))) (sym is.event)

  -- what is asked for is the canonical list, where the lowest idle worker takes all but the Stops
  pub enabled_is : in_order (asked_in m (position is_none m.hands) (tickets_from 0 (m.plan.workers - 0))) ≡ enabled_labels sys m.plan.workers m.plan.script.hosts s
  unfolding enabled_labels
  enabled_is =
      let same : m.plan.workers - 0 ≡ m.plan.workers = omega arith in
      let idle = idle_in s.hands (below m.plan.workers) in
      let ws = below m.plan.workers in
      (λ i. in_order (asked_in m (sym (idle_same m start s shows list) i) (tickets_from 0 (same i))))
      ∙ in_order_is idle ws (idle_lowest s.hands m.plan.workers)
      ∙ ap (λ r. (T idle (early s m.plan.script.hosts) ++ r) ++ T idle (late s)) (stops_are idle ws (idle_lowest s.hands m.plan.workers) (λ cs. flat_map (stop_by sys m.plan.workers s) cs) (flat_flat (stop_by sys m.plan.workers s)) each)
    where
      each : (t h : ℕ) (p : Path) → place_in m.stores p ≡ Some h → stop_labels m.stores m.hands (below m.plan.workers) t p (Some h) ≡ flat_map (stop_by sys m.plan.workers s) (record { host = h; act = Stop t p } ∷ [])
      each t h p at = sym (
          append-nil (stop_by sys m.plan.workers s (record { host = h; act = Stop t p }))
          ∙ filter_passed can (λ w. record { worker = w; host = h; act = Stop t p }) (λ w. runs_it (s.hands w) t p) (λ w e. can_stop w t h p at e) (below m.plan.workers)
          ∙ map_as (λ w. record { worker = w; host = h; act = Stop t p }) (λ w. runs_it (s.hands w) t p) (λ w. runs_out (slice_get m.hands w) t p) (λ w. runs_same m start s shows list w t p) (below m.plan.workers))

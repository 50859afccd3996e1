-- Where a Stop finds what it is about.
use Rattle.std.proofs.Common.{◌≡◌, ◌∙◌, ◌⊎◌, inl, inr, ℕ, zero, suc, ◌+◌, ◌-◌, ◌<◌, ◌≤◌, ◌^◌, Bool, true, false, List, [], ◌∷◌, length, is_some, get_or, Option, Some, None, refl, sym, ap, subst, cond, arith}
use Rattle.std.specs.Prelude.{nat_eq, nat_lt, position, slice_get}
use Rattle.std.specs.FinMap as table
use Rattle.std.proofs.lemmas.Bool.{cases_lt}
use Rattle.std.proofs.lemmas.Bool.Decides.{nat_tests}
use Rattle.std.proofs.lemmas.List.{length-map}
use Rattle.std.proofs.lemmas.List.Sums.{fails_before_first}
use Rattle.std.proofs.lemmas.Option.{get_or_from_slice_get, slice_get-get_or}
use Rattle.std.specs.List.{position_or_len}
use Rattle.wave_base.specs.declared.outcome.EventResult.{EventResult}
use Rattle.wave_base.specs.declared.path.Path.{Path}
use Rattle.wave_base.specs.declared.pause.Pause.{Pause}
use Rattle.wave_base.specs.declared.start.Start.{Start}
use Rattle.script_fold.specs.Lines.{most_jobs}
use Rattle.script_fold.proofs.LeftLemmas.{most_lines}
use Rattle.context_queue.specs.declared.entry.Entry as E
use Rattle.host_map.specs.Stores.{Stores, Matches, has}
use Rattle.event_cells.specs.declared.cell.Cell.{Cell}
use Rattle.event_cells.specs.Cells.{held_of, is_over}
use Rattle.code_actor.specs.CodeActors.{Fields}
use Rattle.wave_base.specs.Places.{with_contexts}
use Rattle.wave_base.specs.Tree.{Tree}
use Rattle.wave_states.specs.Alone.{fold_alone, job_after, places_alone, run_alone}
use Rattle.wave_states.specs.Begins.{Begin, has_moved}
use Rattle.wave_states.specs.Kinds.{Kind}
use Rattle.wave_states.specs.Labels.{Label}
use Rattle.wave_states.specs.States.{Entry, Event, Running, Ended}
use Rattle.wave_states.specs.Steps.{step}
use Rattle.wave_states.specs.Work.{WorkNumbers, moves_away, work_after, work_of_job}
use Rattle.wave_theory.proofs.Basics.{none_not, some_not, options}
use Rattle.wave_theory.specs.Hands.{CanStop}
use Rattle.wave_theory.specs.Trails.{IsTrail, IsUnborn}
use Rattle.plan_actors.specs.PlanActors as actors
use Rattle.plan_actors.specs.PlanActors.{plan_actors, plan_kind}
use Rattle.plan_actors.specs.Plans.{Plan, Fits, FitsStart, begin_in}
use Rattle.wave_effects.specs.declared.actor.Actor.{Actor}
use Rattle.wave_effects.specs.declared.lease.Lease.{Lease}
use Rattle.wave_effects.specs.Machines.{TheState, Kept, IsCell, IsReached, Stands, event_as}
use Rattle.wave_effects.specs.Running as running
use Rattle.wave_effects.specs.Running.{IsBack, IsStopping, stop_of}
use Rattle.wave_effects.proofs.CellParts.{same_event}
use Rattle.wave_effects.proofs.Reached.{has_it, host_is, not_over}
use Rattle.wave_effects.proofs.StoreParts.{stands_there}
use Rattle.wave_effects.proofs.Taking.{Laws, now, placed}

-- ---- how much there is to do

module _ {A F R J : Type 0} (kind : Kind A F R J) (b : Begin F) (batches : List (List J)) where
  few_away : (places : Tree ℕ) (o : Option (Path × ℕ)) → moves_away places o ≤ 1
  few_away places None = omega arith
  few_away places (Some m) = by_test (nat_eq (places.fields m.0) m.1)
    where
      by_test : (t : Bool) → cond t 0 1 ≤ 1
      by_test true = omega arith
      by_test false = omega arith

  one_more : (n : ℕ) (x : WorkNumbers) (o : Option J) → (x.tickets ≤ n) × (x.moves ≤ n) → ((work_of_job kind.system b batches n x o).tickets ≤ suc n) × ((work_of_job kind.system b batches n x o).moves ≤ suc n)
  one_more n x None h = (omega (arith, h.0), omega (arith, h.1))
  one_more n x (Some j) h =
      let tree : Tree F = (fold_alone kind.system b batches n).tree in
      let ran = run_alone kind.system (suc b.before + n) tree j in
      let away = few_away (with_contexts (places_alone kind.system b batches n) ran.entered) (kind.system.moved ran.result) in
      (omega (arith, h.0), omega (arith, h.1, away))

  -- no more tickets, and no more moves, than jobs
  pub work_small : (n : ℕ) → ((work_after kind.system b batches n).tickets ≤ n) × ((work_after kind.system b batches n).moves ≤ n)
  work_small zero = (omega arith, omega arith)
  work_small (suc n) = one_more n (work_after kind.system b batches n) (job_after kind.system b batches n) (work_small n)

-- ---- the first host that has it

place_test : {X : Type 0} (p : X → Bool) (xs : List X) (i : ℕ) (d : X) → i < length xs → p (get_or xs i d) ≡ true → position_or_len p xs < length xs
place_test p xs i d within e = by_place (cases_lt i (position_or_len p xs))
  where
    by_place : (i < position_or_len p xs) ⊎ (position_or_len p xs ≤ i) → position_or_len p xs < length xs
    by_place (inl l) = absurd (clash (p (get_or xs i d)) e (fails_before_first p xs i d l))
      where
        clash : (b : Bool) → b ≡ true → b ≡ false → ⊥
        clash b x y = grind arith
    by_place (inr l) = omega (arith, within)

pub place_there : {X : Type 0} (p : X → Bool) (xs : List X) (i : ℕ) (d : X) → i < length xs → p (get_or xs i d) ≡ true → is_some (position p xs) ≡ true
place_there p xs i d within e = by_test (nat_lt (position_or_len p xs) (length xs)) refl
  where
    by_test : (b : Bool) → nat_lt (position_or_len p xs) (length xs) ≡ b → is_some (cond b (Some (position_or_len p xs)) None) ≡ true
    by_test true t = refl
    by_test false t = let l = place_test p xs i d within e in grind (arith, nat_tests)

-- where the store has one, the theory has one
it_has : (o : Option E.Entry) (r : Option (Entry Fields)) → Matches o r → is_some o ≡ true → is_some r ≡ true
it_has None None h e = e
it_has None (Some en) h e = absurd h
it_has (Some x) None h e = absurd h
it_has (Some x) (Some en) h e = refl

-- ---- in one state

abbrev pub Segments : Type 0
Segments = (plan : Plan) (start : Start) (labels : List Label) (s : TheState) → Fits plan → FitsStart plan start → IsReached plan start labels s → running.SegmentsKnown plan start s

running_on : (p : Path) → Running p ≡ Ended → ⊥
running_on p e = cc

module _ (laws : Laws) (segments : Segments) (m : Kept) (lease : Lease) (why : Pause) (start : Start) (s : TheState) (stands : Stands m start s) (back : IsBack m.plan.program s lease why) where
  abbrev t : ℕ
  t = lease.ticket.0

  abbrev p : Path
  p = lease.path

  known : running.SegmentsKnown m.plan start s
  known = segments m.plan start stands.labels s stands.fits stands.begins stands.reached

  pub can : CanStop (plan_actors m.plan.program) m.plan.workers s lease.worker.0 back.hand
  can = known.stoppable lease.worker.0 back.hand back.there

  event_is : (s.cells t).event ≡ Some can.event
  event_is = ap (λ n. (s.cells n).event) (sym back.run.ticket) ∙ can.is_event

  -- it has no result
  pub no_result : (s.cells t).result ≡ None
  no_result = by_result (s.cells t).result refl
    where
      by_result : (o : Option EventResult) → (s.cells t).result ≡ o → o ≡ None
      by_result None e = refl
      by_result (Some r) e = absurd (running_on back.hand.path (sym can.running ∙ ((now laws m start s stands).agree.ended t can.event event_is).0 (ap is_some e)))

  -- so its event has not ended
  pub goes_on : (i : ℕ) (c : Cell Actor) → m.first + i ≡ t → slice_get m.cells i ≡ Some c → is_over c.status ≡ false
  goes_on i c at there =
      let is : IsCell m.plan.program c (s.cells t) = subst (λ n. IsCell m.plan.program c (s.cells n)) at (stands.shows.cells.each i c there) in
      let same = same_event can.event (event_as is.desk.event) (s.cells t).event event_is is.event in
      not_over c is.desk is.stands (λ e. running_on back.hand.path (sym can.running ∙ ap (λ (z : Event actors.Actor). z.status) same ∙ e))

  here : is_some ((s.columns p).store can.host) ≡ true
  here = ap (λ q. is_some ((s.columns q).store can.host)) (sym back.run.path) ∙ can.here

  pub enabled_here : is_some (step (plan_actors m.plan.program) m.plan.workers s (stop_of lease can.host)) ≡ true
  enabled_here = (λ j. is_some (step (plan_actors m.plan.program) m.plan.workers s (record { worker = lease.worker.0; host = can.host; act = Rattle.wave_states.specs.Labels.Stop (sym back.run.ticket j) (sym back.run.path j) }))) ∙ can.enabled

  -- no other host has it
  only_here : (h : ℕ) → is_some ((s.columns p).store h) ≡ true → can.host ≡ h
  only_here h e = by_trail (known.trails p)
    where
      by_trail : IsUnborn s p ⊎ ((trail : Rattle.wave_theory.specs.Trails.Trail) × IsTrail s p trail) → can.host ≡ h
      by_trail (inl u) = absurd (none_some (sym (ap is_some (u.no_entry h)) ∙ e))
        where
          none_some : false ≡ true → ⊥
          none_some x = grind arith
      by_trail (inr r) = r.1.owner can.host (inl here) ∙ sym (r.1.owner h (inl e))

  pub enabled : (h : ℕ) (st : Stores) → slice_get m.stores h ≡ Some st → has p st ≡ true → is_some (step (plan_actors m.plan.program) m.plan.workers s (stop_of lease h)) ≡ true
  enabled h st there e = subst (λ n. is_some (step (plan_actors m.plan.program) m.plan.workers s (stop_of lease n)) ≡ true) (only_here h (it_has (table.get st.store p) ((s.columns p).store h) (stands.shows.stores.each h st there p).entry e)) enabled_here

  -- its cell, its host and its worker
  pub cell_at : (m.first ≤ t) × (t < m.first + length m.cells)
  cell_at = placed laws m start s stands t can.event event_is

  host_at : can.host < length m.stores
  host_at =
      let e = options ((s.columns p).store can.host) in
      by_entry e
    where
      by_entry : ((s.columns p).store can.host ≡ None) ⊎ ((en : Entry Fields) × ((s.columns p).store can.host ≡ Some en)) → can.host < length m.stores
      by_entry (inl e) = absurd (none_some (sym (ap is_some e) ∙ here))
        where
          none_some : false ≡ true → ⊥
          none_some x = grind arith
      by_entry (inr e) =
          let place = host_is (plan_kind m.plan.program m.plan.script.hosts) m.plan.workers (begin_in m.plan start) m.plan.script.batches s (now laws m start s stands).bounds p can.host e.0 e.1 in
          let many = stands.shows.stores.as_many in
          omega (arith, place, many)

  pub worker_at : lease.worker.0 < length m.hands
  worker_at = by_place (cases_lt lease.worker.0 m.plan.workers)
    where
      by_place : (lease.worker.0 < m.plan.workers) ⊎ (m.plan.workers ≤ lease.worker.0) → lease.worker.0 < length m.hands
      by_place (inl l) = let many = stands.shows.hands.as_many in omega (arith, many)
      by_place (inr l) = absurd (none_not (sym ((now laws m start s stands).bounds.hands lease.worker.0 l) ∙ back.there))

  -- some host has it
  pub found : is_some (position (has p) m.stores) ≡ true
  found = by_store (slice_get m.stores can.host) refl
    where
      by_store : (o : Option Stores) → slice_get m.stores can.host ≡ o → is_some (position (has p) m.stores) ≡ true
      by_store None e = absurd (none_some_stores m.stores can.host host_at e)
        where
          none_some_stores : (xs : List Stores) (i : ℕ) → i < length xs → slice_get xs i ≡ None → ⊥
          none_some_stores [] i l e = omega (arith, l)
          none_some_stores (x ∷ xs) i l e = some_not (sym (slice_get-get_or (x ∷ xs) i x l) ∙ e)
      by_store (Some st) e =
          let entry = (stands.shows.stores.each can.host st e p).entry in
          let there : has p st ≡ true = by_entry (options ((s.columns p).store can.host)) (table.get st.store p) entry in
          let same : get_or m.stores can.host st ≡ st = get_or_from_slice_get m.stores can.host st st e in
          place_there (has p) m.stores can.host st host_at (ap (has p) same ∙ there)
        where
          by_entry : ((s.columns p).store can.host ≡ None) ⊎ ((en : Entry Fields) × ((s.columns p).store can.host ≡ Some en)) → (o : Option E.Entry) → Matches o ((s.columns p).store can.host) → is_some o ≡ true
          by_entry (inl f) o h = absurd (none_is_some (sym (ap is_some f) ∙ here))
            where
              none_is_some : false ≡ true → ⊥
              none_is_some x = grind arith
          by_entry (inr f) o h = has_it o ((s.columns p).store can.host) f.0 h f.1

  -- its result is still to come
  pub above : m.commits.committed < t
  above = by_place (cases_lt m.commits.committed t)
    where
      by_settled : (i : ℕ) → m.first + i ≡ t → i < length m.settled.results → ⊥
      by_settled i at l = by_list (slice_get m.settled.results i) refl
        where
          by_list : (o : Option _) → slice_get m.settled.results i ≡ o → ⊥
          by_list None e = none_settled m.settled.results i l e
            where
              none_settled : {X : Type 0} (xs : List X) (i : ℕ) → i < length xs → slice_get xs i ≡ None → ⊥
              none_settled [] i l e = omega (arith, l)
              none_settled (x ∷ xs) i l e = some_not (sym (slice_get-get_or (x ∷ xs) i x l) ∙ e)
          by_list (Some x) e = none_not (sym no_result ∙ ap (λ n. (s.cells n).result) (sym at) ∙ stands.shows.results.settled i x e)

      by_place : (m.commits.committed < t) ⊎ (t ≤ m.commits.committed) → m.commits.committed < t
      by_place (inl l) = l
      by_place (inr l) =
          let low = cell_at.0 in
          let next = stands.shows.results.next in
          let many = stands.shows.results.as_many in
          absurd (by_settled (t - m.first) (omega (arith, low)) (omega (arith, low, l, next, many)))

  pub fresh : table.get m.commits.results t ≡ None
  fresh = sym (stands.shows.results.ended t above) ∙ no_result

  -- numbers are small
  few_jobs : most_jobs m.plan.script.batches ≤ 1364000
  few_jobs =
      let lines = most_lines m.plan.script.batches in
      let few = stands.fits.script.few_lines in
      omega (arith, lines, few)

  pub counted : (h : ℕ) (st : Stores) (e : E.Entry) → slice_get m.stores h ≡ Some st → table.get st.store p ≡ Some e → e.moves + 1 < 2 ^ 64
  counted h st e there is = by_entry (options ((s.columns p).store h))
    where
      at : Matches (table.get st.store p) ((s.columns p).store h)
      at = (stands.shows.stores.each h st there p).entry

      by_entry : ((s.columns p).store h ≡ None) ⊎ ((en : Entry Fields) × ((s.columns p).store h ≡ Some en)) → e.moves + 1 < 2 ^ 64
      by_entry (inl f) = absurd (subst (Matches (Some e)) f (subst (λ o. Matches o ((s.columns p).store h)) is at))
      by_entry (inr f) =
          let n = most_jobs m.plan.script.batches in
          let kind = plan_kind m.plan.program m.plan.script.hosts in
          let b = begin_in m.plan start in
          let moves = (known.within n known.ends).moves p f.0 (inl (h, f.1)) in
          let small = (work_small kind b m.plan.script.batches n).1 in
          let same = (stands_there (table.get st.store p) ((s.columns p).store h) e f.0 at is f.1).moves in
          let once = at_most_one (has_moved b []) in
          omega (arith, moves, small, same, once, few_jobs)
        where
          at_most_one : (x : Bool) → cond x 1 0 ≤ 1
          at_most_one true = omega arith
          at_most_one false = omega arith

  -- each event has numbers for the mails that its next segment may send
  pub numbered : (i : ℕ) (c : Cell Actor) → slice_get m.cells i ≡ Some c → c.outbox.sent + length c.held.holds + 1 < 2 ^ 32
  numbered i c there =
      let is = stands.shows.cells.each i c there in
      let few : is.desk.event.sent + length is.desk.event.held + 1 < 2 ^ 32 = known.numbers (m.first + i) (event_as is.desk.event) is.event in
      let held : length is.desk.event.held ≡ length c.held.holds = ap length is.stands.held ∙ length-map c.held.holds held_of in
      omega (arith, few, held, is.stands.sent)

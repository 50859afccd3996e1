-- The labels that leave the hands: what the machine keeps after their calls stands for the state that the theory has after them.
use Rattle.std.proofs.Common.{◌≡◌, ◌≢◌, ◌∙◌, ℕ, suc, ◌+◌, true, false, [], Option, Some, None, refl, sym, ap, subst}
use Rattle.std.specs.Prelude.{nat_eq, slice_get, slice_set, option_and_then}
use Rattle.std.specs.BTreeMap.{insert_entry}
use Rattle.std.specs.FinMap as table
use Rattle.std.proofs.lemmas.List.{length-set}
use Rattle.wave_base.specs.declared.path.Path.{Path}
use Rattle.wave_base.specs.Paths.{path_cmp}
use Rattle.context_queue.specs.declared.entry.Entry.{Entry}
use Rattle.context_queue.specs.Entries.{StandsFor as EntryStands, next_in, with_next}
use Rattle.host_map.specs.Stores.{Stores, IsAt}
use Rattle.event_cells.specs.declared.cell.Cell.{Cell}
use Rattle.event_cells.specs.declared.held.Hold.{Hold}
use Rattle.event_cells.specs.declared.outbox.Envelope.{Envelope}
use Rattle.event_cells.specs.Cells.{IsEnvelope, is_over, hold_of}
use Rattle.wave_states.specs.Begins.{Begin}
use Rattle.wave_theory.specs.Agree.{Agree}
use Rattle.wave_states.specs.States as theory
use Rattle.wave_states.specs.States.{Ask, Enter, Hand, set}
use Rattle.wave_states.specs.Labels.{Visit, Free, Queue, Grant, Pass, Land}
use Rattle.wave_states.specs.Steps.{in_line, column_joined, let_in, may_join, only_if, others, part_of, route, step, with_holders, entry_for}
use Rattle.wave_theory.proofs.Opened.{visits, frees, queues, grants, passes, lands}
use Rattle.code_actor.specs.CodeActors.{Fields}
use Rattle.plan_actors.specs.PlanActors as actors
use Rattle.plan_actors.specs.PlanActors.{plan_actors, plan_kind}
use Rattle.wave_effects.specs.declared.actor.Actor.{Actor}
use Rattle.wave_effects.specs.Machines.{TheState, Kept, IsCell, IsOut, Shows, event_as}
use Rattle.wave_effects.proofs.Opening.{left_by, visit_found, free_found, queue_found, grant_found, pass_found, land_found}
use Rattle.wave_effects.proofs.Parts.{local, set_same, set_same_path, set_here}
use Rattle.wave_effects.proofs.Reached.{goes_on, not_over}
use Rattle.wave_effects.proofs.StoreParts.{Writes, stands_there, stores_written, stores_landed}
use Rattle.wave_effects.proofs.CellParts.{ThePart, TheCell, TakesMail, TakesAndWaits, Redirects, LetsIn, taken, taken_to, redirected, let_in_at, same_event}

-- another cell, and another store
abbrev pub with_cell : Kept → ℕ → Cell Actor → Kept
with_cell m i c = record { plan = m.plan; first = m.first; head = m.head; commits = m.commits; settled = m.settled; cells = slice_set m.cells i c; stores = m.stores; hands = m.hands }

abbrev pub with_store : Kept → ℕ → Stores → Kept
with_store m h st = record { plan = m.plan; first = m.first; head = m.head; commits = m.commits; settled = m.settled; cells = m.cells; stores = slice_set m.stores h st; hands = m.hands }

ready_goes_on : (p : Path) → theory.Ready p ≡ theory.Ended → ⊥
ready_goes_on p e = cc

next_is : (en : theory.Entry Fields) (c : theory.Claim) → en.waiting (suc en.served) ≡ Some c → may_join c.peek en.holders ≡ true → next_in en ≡ Some c
next_is en c w j = ap (option_and_then (λ d. only_if (may_join d.peek en.holders) d)) w ∙ ap (λ b. only_if b c) j

module _ (m : Kept) (b : Begin Fields) (s s' : TheState) (t k : ℕ) (p : Path) (w host : ℕ) (i : ℕ) (c c' : Cell Actor) (h : Shows m s) (at : m.first + i ≡ t) (there : slice_get m.cells i ≡ Some c) where
  cell_is : IsCell m.plan.program c (s.cells t)
  cell_is = subst (λ n. IsCell m.plan.program c (s.cells n)) at (h.cells.each i c there)

  -- the hands are as they were
  hands_stay : (o : Option (Hand actors.Actor Fields)) → o ≡ None → s.hands w ≡ None → (v : ℕ) (x : _) → slice_get m.hands v ≡ Some x → IsOut x (set nat_eq s.hands w o v)
  hands_stay o e idle v x f = subst (IsOut x) (sym (set_same s.hands w o (e ∙ sym idle) v)) (h.hands.each v x f)

  stores_stay : (column : theory.Column Fields) → column ≡ s.columns p → (g : ℕ) (st : Stores) → slice_get m.stores g ≡ Some st → (q : Path) → IsAt st q (set Rattle.wave_base.specs.Paths.path_eq s.columns p column q) g
  stores_stay column e g st f q = subst (λ z. IsAt st q z g) (sym (set_same_path s.columns p column e q)) (h.stores.each g st f q)

  -- Visit: the mail is taken, and the event is ready.
  pub visited : step (plan_actors m.plan.program) m.plan.workers s (record { worker = w; host = host; act = Visit t k p }) ≡ Some s' → TakesAndWaits c c' k (theory.Ready p) → is_over c.status ≡ false → Shows (with_cell m i c') s'
  visited e takes over =
      let sys = plan_actors m.plan.program in
      let left = left_by sys m.plan.workers s s' (record { worker = w; host = host; act = Visit t k p }) refl e in
      let y = left.bench in
      let x : ThePart = part_of s t p in
      let calm = visit_found sys host x y t k p (s.hands w) left.found in
      let v = visits k p host x y.part calm.part in
      let cell = taken_to m.plan.program c c' k (theory.Ready p) x.cell y.part.cell v.event cell_is takes over v.event_is (ap (λ (z : ThePart). z.cell.event) v.gives) (λ q. ap (λ (z : ThePart). z.cell.mails q) v.gives) in
      subst (Shows (with_cell m i c')) left.gives
      (local m s t p w y i c' m.stores m.hands h at cell (ap (λ (z : ThePart). z.cell.result) (sym v.gives)) refl (stores_stay y.part.column (ap (λ (z : ThePart). z.column) (sym v.gives))) refl (hands_stay y.hand calm.hand calm.idle))

  -- so the event had not ended
  pub visit_on : Agree (plan_kind m.plan.program m.plan.script.hosts) b m.plan.script.batches s → Agree (plan_kind m.plan.program m.plan.script.hosts) b m.plan.script.batches s'
      → step (plan_actors m.plan.program) m.plan.workers s (record { worker = w; host = host; act = Visit t k p }) ≡ Some s' → is_over c.status ≡ false
  visit_on agree agree' e =
      let sys = plan_actors m.plan.program in
      let left = left_by sys m.plan.workers s s' (record { worker = w; host = host; act = Visit t k p }) refl e in
      let y = left.bench in
      let x : ThePart = part_of s t p in
      let calm = visit_found sys host x y t k p (s.hands w) left.found in
      let v = visits k p host x y.part calm.part in
      let now : s'.cells t ≡ y.part.cell = ap (λ (z : TheState). z.cells t) (sym left.gives) ∙ sym (set_here s.cells t y.part.cell) in
      let there' : (s'.cells t).event ≡ Some (record { actor = v.event.actor; held = v.event.held; sent = v.event.sent; status = theory.Ready p }) =
      ap (λ (z : TheCell). z.event) now ∙ ap (λ (z : ThePart). z.cell.event) (sym v.gives) in
      let result : (s'.cells t).result ≡ (s.cells t).result = ap (λ (z : TheCell). z.result) now ∙ ap (λ (z : ThePart). z.cell.result) (sym v.gives) in
      let same : v.event ≡ event_as cell_is.desk.event = same_event v.event (event_as cell_is.desk.event) (s.cells t).event v.event_is cell_is.event in
      not_over c cell_is.desk cell_is.stands
      (λ f. goes_on (plan_kind m.plan.program m.plan.script.hosts) b m.plan.script.batches s s' t v.event (record { actor = v.event.actor; held = v.event.held; sent = v.event.sent; status = theory.Ready p }) agree agree' v.event_is there' result (ready_goes_on p)
      (ap (λ (z : theory.Event actors.Actor). z.status) same ∙ f))

  -- the same of a Grant
  pub grant_on : Agree (plan_kind m.plan.program m.plan.script.hosts) b m.plan.script.batches s → Agree (plan_kind m.plan.program m.plan.script.hosts) b m.plan.script.batches s'
      → step (plan_actors m.plan.program) m.plan.workers s (record { worker = w; host = host; act = Grant t p }) ≡ Some s' → is_over c.status ≡ false
  grant_on agree agree' e =
      let sys = plan_actors m.plan.program in
      let left = left_by sys m.plan.workers s s' (record { worker = w; host = host; act = Grant t p }) refl e in
      let y = left.bench in
      let x : ThePart = part_of s t p in
      let calm = grant_found sys host x y t k p (s.hands w) left.found in
      let v = grants t p host x y.part calm.part in
      let ready : theory.Event actors.Actor = record { actor = v.event.actor; held = insert_entry path_cmp v.event.held p (record { host = host; peek = v.claim.peek }); sent = v.event.sent; status = theory.Ready p } in
      let now : s'.cells t ≡ y.part.cell = ap (λ (z : TheState). z.cells t) (sym left.gives) ∙ sym (set_here s.cells t y.part.cell) in
      let there' : (s'.cells t).event ≡ Some ready = ap (λ (z : TheCell). z.event) now ∙ ap (λ (z : ThePart). z.cell.event) (sym v.gives) in
      let result : (s'.cells t).result ≡ (s.cells t).result = ap (λ (z : TheCell). z.result) now ∙ ap (λ (z : ThePart). z.cell.result) (sym v.gives) in
      let same : v.event ≡ event_as cell_is.desk.event = same_event v.event (event_as cell_is.desk.event) (s.cells t).event v.event_is cell_is.event in
      not_over c cell_is.desk cell_is.stands
      (λ f. goes_on (plan_kind m.plan.program m.plan.script.hosts) b m.plan.script.batches s s' t v.event ready agree agree' v.event_is there' result (ready_goes_on p) (ap (λ (z : theory.Event actors.Actor). z.status) same ∙ f))

  -- Pass: the Enter goes to the mark's host, and has followed the mark's number.
  pub passed : (g : ℕ) (env : Envelope) → step (plan_actors m.plan.program) m.plan.workers s (record { worker = w; host = host; act = Pass t k p g }) ≡ Some s' → Redirects c c' k env
      → ((a : Ask) (mark : theory.Mark) → (s.cells t).mails k ≡ Some (record { host = host; path = p; letter = Enter a }) → (s.columns p).gone host ≡ Some mark → IsEnvelope env (record { host = g; path = p; letter = Enter (record { number = a.number; followed = mark.number; peek = a.peek }) }))
      → Shows (with_cell m i c') s'
  passed g env e turns says =
      let sys = plan_actors m.plan.program in
      let left = left_by sys m.plan.workers s s' (record { worker = w; host = host; act = Pass t k p g }) refl e in
      let y = left.bench in
      let x : ThePart = part_of s t p in
      let calm = pass_found sys host x y t k p g (s.hands w) left.found in
      let v = passes k g p host x y.part calm.part in
      let mail : (s.cells t).mails k ≡ Some (record { host = host; path = p; letter = Enter v.ask }) =
      v.letter_at.mail_is ∙ (λ j. Some (record { host = v.letter_at.host_is j; path = v.letter_at.path_is j; letter = v.letter_at.letter_is j })) in
      let cell = redirected m.plan.program c c' k env (record { host = g; path = p; letter = Enter (record { number = v.ask.number; followed = v.mark.number; peek = v.ask.peek }) }) x.cell y.part.cell cell_is turns (says v.ask v.mark mail v.mark_is)
      (ap (λ (z : ThePart). z.cell.event) v.gives) (λ q. ap (λ (z : ThePart). z.cell.mails q) v.gives) in
      subst (Shows (with_cell m i c')) left.gives
      (local m s t p w y i c' m.stores m.hands h at cell (ap (λ (z : ThePart). z.cell.result) (sym v.gives)) refl (stores_stay y.part.column (ap (λ (z : ThePart). z.column) (sym v.gives))) refl (hands_stay y.hand calm.hand calm.idle))

  module _ (st st' : Stores) (here : slice_get m.stores host ≡ Some st) where
    -- Free: the mail is taken, and the ticket no longer holds the context.
    pub freed : (e e' : Entry) → step (plan_actors m.plan.program) m.plan.workers s (record { worker = w; host = host; act = Free t k p }) ≡ Some s' → TakesMail c c' k → table.get st.store p ≡ Some e → Writes st st' p e'
        → ((en : theory.Entry Fields) → EntryStands e en → EntryStands e' (with_holders en (others t en.holders))) → Shows (with_store (with_cell m i c') host st') s'
    freed e e' taking takes found writes frees_it =
        let sys = plan_actors m.plan.program in
        let left = left_by sys m.plan.workers s s' (record { worker = w; host = host; act = Free t k p }) refl taking in
        let y = left.bench in
        let x : ThePart = part_of s t p in
        let calm = free_found sys host x y t k p (s.hands w) left.found in
        let v = frees t k p host x y.part calm.part in
        let old : EntryStands e v.entry = stands_there (table.get st.store p) (x.column.store host) e v.entry (h.stores.each host st here p).entry found v.entry_is in
        let cell : IsCell m.plan.program c' y.part.cell = subst (IsCell m.plan.program c') (ap (λ (z : ThePart). z.cell) v.gives) (taken m.plan.program c c' k x.cell cell_is takes) in
        subst (Shows (with_store (with_cell m i c') host st')) left.gives
        (local m s t p w y i c' (slice_set m.stores host st') m.hands h at cell (ap (λ (z : ThePart). z.cell.result) (sym v.gives)) (length-set m.stores host st')
        (stores_written m.stores s.columns host p st st' h.stores.each here e' (with_holders v.entry (others t v.entry.holders)) y.part.column writes (frees_it v.entry old) (ap (λ (z : ThePart). z.column) v.gives))
        refl (hands_stay y.hand calm.hand calm.idle))

    -- Land: the mail is taken, and the context joins the store.
    pub arrived : step (plan_actors m.plan.program) m.plan.workers s (record { worker = w; host = host; act = Land t k p }) ≡ Some s' → TakesMail c c' k
        → ((en : theory.Entry Fields) → (s.cells t).mails k ≡ Some (record { host = host; path = p; letter = theory.Transfer en }) → IsAt st' p (column_joined (s.columns p) host (with_holders en [])) host)
        → ((q : Path) → q ≢ p → table.get st'.store q ≡ table.get st.store q) → ((q : Path) → q ≢ p → table.get st'.gone q ≡ table.get st.gone q) → Shows (with_store (with_cell m i c') host st') s'
    arrived taking takes lands_it stores marks =
        let sys = plan_actors m.plan.program in
        let left = left_by sys m.plan.workers s s' (record { worker = w; host = host; act = Land t k p }) refl taking in
        let y = left.bench in
        let x : ThePart = part_of s t p in
        let calm = land_found sys host x y t k p (s.hands w) left.found in
        let v = lands k p host x y.part calm.part in
        let mail : (s.cells t).mails k ≡ Some (record { host = host; path = p; letter = theory.Transfer v.entry }) =
        v.letter_at.mail_is ∙ (λ j. Some (record { host = v.letter_at.host_is j; path = v.letter_at.path_is j; letter = v.letter_at.letter_is j })) in
        let cell : IsCell m.plan.program c' y.part.cell = subst (IsCell m.plan.program c') (ap (λ (z : ThePart). z.cell) v.gives) (taken m.plan.program c c' k x.cell cell_is takes) in
        subst (Shows (with_store (with_cell m i c') host st')) left.gives
        (local m s t p w y i c' (slice_set m.stores host st') m.hands h at cell (ap (λ (z : ThePart). z.cell.result) (sym v.gives)) (length-set m.stores host st')
        (stores_landed m.stores s.columns host p st st' h.stores.each here (with_holders v.entry []) y.part.column (lands_it v.entry mail) stores marks (ap (λ (z : ThePart). z.column) v.gives))
        refl (hands_stay y.hand calm.hand calm.idle))

    -- Queue: the mail is taken, and the ticket waits under its entry number in the context, which is here or is born here.
    pub lined_up : (e' : Entry) → step (plan_actors m.plan.program) m.plan.workers s (record { worker = w; host = host; act = Queue t k p }) ≡ Some s' → TakesAndWaits c c' k (theory.Waiting p) → is_over c.status ≡ false → Writes st st' p e'
        → ((a : Ask) (en : theory.Entry Fields) → (s.cells t).mails k ≡ Some (record { host = host; path = p; letter = Enter a }) → entry_for (plan_actors m.plan.program) p host (s.columns p) (route (s.columns p) host a.followed) ≡ Some en
        → EntryStands e' (in_line en a.number (record { ticket = t; peek = a.peek }))) → Shows (with_store (with_cell m i c') host st') s'
    lined_up e' taking takes over writes queues_it =
        let sys = plan_actors m.plan.program in
        let left = left_by sys m.plan.workers s s' (record { worker = w; host = host; act = Queue t k p }) refl taking in
        let y = left.bench in
        let x : ThePart = part_of s t p in
        let calm = queue_found sys host x y t k p (s.hands w) left.found in
        let v = queues sys t k p host x y.part calm.part in
        let mail : (s.cells t).mails k ≡ Some (record { host = host; path = p; letter = Enter v.ask }) =
        v.letter_at.mail_is ∙ (λ j. Some (record { host = v.letter_at.host_is j; path = v.letter_at.path_is j; letter = v.letter_at.letter_is j })) in
        let cell = taken_to m.plan.program c c' k (theory.Waiting p) x.cell y.part.cell v.event cell_is takes over v.event_is (ap (λ (z : ThePart). z.cell.event) v.gives) (λ q. ap (λ (z : ThePart). z.cell.mails q) v.gives) in
        subst (Shows (with_store (with_cell m i c') host st')) left.gives
        (local m s t p w y i c' (slice_set m.stores host st') m.hands h at cell (ap (λ (z : ThePart). z.cell.result) (sym v.gives)) (length-set m.stores host st')
        (stores_written m.stores s.columns host p st st' h.stores.each here e' (in_line v.entry v.ask.number (record { ticket = t; peek = v.ask.peek })) y.part.column writes (queues_it v.ask v.entry mail v.entry_is) (ap (λ (z : ThePart). z.column) v.gives))
        refl (hands_stay y.hand calm.hand calm.idle))

    -- Grant: the next in line gets in, and is ready.
    pub got_in : (e e' : Entry) (hold : Hold) → step (plan_actors m.plan.program) m.plan.workers s (record { worker = w; host = host; act = Grant t p }) ≡ Some s' → LetsIn c c' p hold → is_over c.status ≡ false → table.get st.store p ≡ Some e → Writes st st' p e'
        → hold.host.0 ≡ host → ((en : theory.Entry Fields) (claim : theory.Claim) → EntryStands e en → next_in en ≡ Some claim → hold.peek ≡ claim.peek)
        → ((en : theory.Entry Fields) → EntryStands e en → EntryStands e' (with_next en (next_in en))) → Shows (with_store (with_cell m i c') host st') s'
    got_in e e' hold taking lets over found writes hold_host hold_peek grants_it =
        let sys = plan_actors m.plan.program in
        let left = left_by sys m.plan.workers s s' (record { worker = w; host = host; act = Grant t p }) refl taking in
        let y = left.bench in
        let x : ThePart = part_of s t p in
        let calm = grant_found sys host x y t k p (s.hands w) left.found in
        let v = grants t p host x y.part calm.part in
        let old : EntryStands e v.entry = stands_there (table.get st.store p) (x.column.store host) e v.entry (h.stores.each host st here p).entry found v.entry_is in
        let next : next_in v.entry ≡ Some v.claim = next_is v.entry v.claim v.claim_is v.joins in
        let in_now : EntryStands e' (let_in v.entry v.claim) = subst (λ o. EntryStands e' (with_next v.entry o)) next (grants_it v.entry old) in
        let the_hold : hold_of hold ≡ record { host = host; peek = v.claim.peek } = (λ j. record { host = hold_host j; peek = hold_peek v.entry v.claim old next j }) in
        let cell = let_in_at m.plan.program c c' p hold x.cell y.part.cell v.event cell_is lets over v.event_is
        (ap (λ (z : theory.Hold). Some (record { actor = v.event.actor; held = insert_entry path_cmp v.event.held p z; sent = v.event.sent; status = theory.Ready p })) the_hold ∙ ap (λ (z : ThePart). z.cell.event) v.gives) (λ q. ap (λ (z : ThePart). z.cell.mails q) v.gives) in
        subst (Shows (with_store (with_cell m i c') host st')) left.gives
        (local m s t p w y i c' (slice_set m.stores host st') m.hands h at cell (ap (λ (z : ThePart). z.cell.result) (sym v.gives)) (length-set m.stores host st')
        (stores_written m.stores s.columns host p st st' h.stores.each here e' (let_in v.entry v.claim) y.part.column writes in_now (ap (λ (z : ThePart). z.column) v.gives))
        refl (hands_stay y.hand calm.hand calm.idle))

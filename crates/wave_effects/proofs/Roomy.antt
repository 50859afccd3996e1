-- What is the same but for its rooms stands for the same.
use Rattle.std.proofs.Common.{◌≡◌, ◌≢◌, ◌∙◌, ◌⊎◌, inl, inr, ℕ, ◌+◌, ◌<◌, ◌≤◌, length, Some, refl, sym, ap, subst, arith}
use Rattle.std.specs.Prelude.{map, option_map, slice_get, slice_set, take}
use Rattle.std.specs.FinMap as table
use Rattle.std.proofs.lemmas.List.{length-set}
use Rattle.wave_base.specs.declared.pause.Pause.{Pause}
use Rattle.commit_order.specs.Commits.{Committing}
use Rattle.head_tickets.specs.Heads.{Heading, head_of}
use Rattle.host_map.specs.Stores.{Stores, Matches, mark_of}
use Rattle.event_cells.specs.declared.cell.Cell.{Cell}
use Rattle.event_cells.specs.Cells as cells
use Rattle.plan_actors.specs.Plans.{Plan, Fits, FitsStart}
use Rattle.wave_effects.specs.declared.actor.Actor.{Actor}
use Rattle.wave_effects.specs.declared.lease.Lease.{Lease}
use Rattle.wave_base.specs.Fold.{first_head, head_after, created_tickets}
use Rattle.script_fold.specs.Runs.{ticket_of}
use Rattle.wave_effects.specs.Kinds.{job_kind}
use Rattle.wave_effects.specs.Machines.{TheState, Kept, Ledger, IsCell, IsReached, Keeps, Shows, created_in}
use Rattle.wave_effects.specs.Running.{IsBack, IsStopping}
use Rattle.wave_effects.specs.Spare.{IsCellOf, IsStoreOf, SameButRooms}
use Rattle.wave_effects.proofs.Calm.{with_cell, with_store}
use Rattle.wave_effects.proofs.Freer.{same_cell}
use Rattle.wave_effects.proofs.Parts.{at_set}

-- ---- how rooms are made

abbrev pub with_commits : Kept → Committing → Kept
with_commits m k = record { plan = m.plan; first = m.first; head = m.head; commits = k; settled = m.settled; cells = m.cells; stores = m.stores; hands = m.hands }

module _ (m : Kept) where
  cell_itself : (i : ℕ) (c : Cell Actor) → slice_get m.cells i ≡ Some c → IsCellOf m i c
  cell_itself i c e = record { cell = c; there = e; room = omega arith; same = record { actor = refl; held = refl; sent = refl; mails = refl; status = refl } }

  store_itself : (h : ℕ) (st : Stores) → slice_get m.stores h ≡ Some st → IsStoreOf m h st
  store_itself h st e = record { stores = st; there = e; store = refl; gone = refl; room = omega arith }

  cells_with : (i : ℕ) (c c' : Cell Actor) → slice_get m.cells i ≡ Some c → cells.SameButRooms c c' → c.held.room ≤ c'.held.room → (j : ℕ) (x : Cell Actor) → slice_get (slice_set m.cells i c') j ≡ Some x → IsCellOf m j x
  cells_with i c c' there same more j x e = by_place (at_set m.cells i c' j x e)
    where
      by_place : ((i ≡ j) × (x ≡ c')) ⊎ ((i ≢ j) × (slice_get m.cells j ≡ Some x)) → IsCellOf m j x
      by_place (inl k) = record { cell = c; there = ap (slice_get m.cells) (sym k.0) ∙ there; same = subst (cells.SameButRooms c) (sym k.1) same; room = subst (λ (z : Cell Actor). c.held.room ≤ z.held.room) (sym k.1) more }
      by_place (inr k) = cell_itself j x k.1

  stores_with : (h : ℕ) (st st' : Stores) → slice_get m.stores h ≡ Some st → st'.store ≡ st.store → st'.gone ≡ st.gone → st.path_room ≤ st'.path_room → (j : ℕ) (x : Stores) → slice_get (slice_set m.stores h st') j ≡ Some x → IsStoreOf m j x
  stores_with h st st' there store gone more j x e = by_place (at_set m.stores h st' j x e)
    where
      by_place : ((h ≡ j) × (x ≡ st')) ⊎ ((h ≢ j) × (slice_get m.stores j ≡ Some x)) → IsStoreOf m j x
      by_place (inl k) = record { stores = st; there = ap (slice_get m.stores) (sym k.0) ∙ there; store = ap (λ (z : Stores). z.store) k.1 ∙ store; gone = ap (λ (z : Stores). z.gone) k.1 ∙ gone; room = subst (λ (z : Stores). st.path_room ≤ z.path_room) (sym k.1) more }
      by_place (inr k) = store_itself j x k.1

  module _ (i : ℕ) (c c' : Cell Actor) (there : slice_get m.cells i ≡ Some c) (same : cells.SameButRooms c c') (more : c.held.room ≤ c'.held.room) where
    pub cell_roomy : SameButRooms m (with_cell m i c')
    cell_roomy = record {
      plan = refl;
      first = refl;
      head = refl;
      settled = refl;
      hands = refl;
      committed = refl;
      results = refl;
      as_many_cells = length-set m.cells i c';
      cells = cells_with i c c' there same more;
      as_many_stores = refl;
      stores = store_itself;
    }

    module _ (h : ℕ) (st st' : Stores) (here : slice_get m.stores h ≡ Some st) (store : st'.store ≡ st.store) (gone : st'.gone ≡ st.gone) (more_paths : st.path_room ≤ st'.path_room) where
      pub store_roomy : SameButRooms m (with_store (with_cell m i c') h st')
      store_roomy = record {
        plan = refl;
        first = refl;
        head = refl;
        settled = refl;
        hands = refl;
        committed = refl;
        results = refl;
        as_many_cells = length-set m.cells i c';
        cells = cells_with i c c' there same more;
        as_many_stores = length-set m.stores h st';
        stores = stores_with h st st' here store gone more_paths;
      }

      pub commits_roomy : (k : Committing) → k.committed ≡ m.commits.committed → k.results ≡ m.commits.results → SameButRooms m (with_commits (with_store (with_cell m i c') h st') k)
      commits_roomy k committed results = record {
        plan = refl;
        first = refl;
        head = refl;
        settled = refl;
        hands = refl;
        committed = committed;
        results = results;
        as_many_cells = length-set m.cells i c';
        cells = cells_with i c c' there same more;
        as_many_stores = length-set m.stores h st';
        stores = stores_with h st st' here store gone more_paths;
      }

-- ---- and what stands then

module _ (m m' : Kept) (same : SameButRooms m m') where
  shows_still : (s : TheState) → Shows m s → Shows m' s
  shows_still s h = record {
    head = record {
      lines = h.head.lines;
      as_many = h.head.as_many ∙ ap (λ (x : Heading). x.admitted) (sym same.head);
      head = h.head.head ∙ ap (head_of h.head.lines) (sym same.head);
      admitted = h.head.admitted ∙ ap (λ (x : Heading). x.admitted) (sym same.head);
      before = h.head.before ∙ sym same.first;
      first = ap (λ (x : Heading). x.first) same.head ∙ h.head.first ∙ sym same.first;
    };
    cells = record {
      as_many = same.as_many_cells ∙ h.cells.as_many ∙ ap (λ (x : Heading). x.admitted) (sym same.head);
      each = λ i c' e.
          let of = same.cells i c' e in
          let old = h.cells.each i of.cell of.there in
          subst (λ n. IsCell m'.plan.program c' (s.cells (n + i))) (sym same.first) (subst (λ (x : Plan). IsCell x.program c' (s.cells (m.first + i))) (sym same.plan) (same_cell m.plan.program of.cell c' (s.cells (m.first + i)) of.same old));
    };
    results = record {
      as_many = ap (λ (x : Ledger). length x.results) same.settled ∙ h.results.as_many ∙ ap (λ (x : Heading). x.done) (sym same.head);
      next = ap (λ n. n + 1) same.committed ∙ h.results.next ∙ (λ j. sym same.first j + (sym same.head j).done);
      settled = λ i x e. ap (λ n. (s.cells (n + i)).result) same.first ∙ h.results.settled i x (sym (ap (λ (l : Ledger). slice_get l.results i) same.settled) ∙ e);
      ledger = record {
        kinds = ap (λ (x : Ledger). x.kinds) same.settled ∙ h.results.ledger.kinds ∙ ap (λ (x : Heading). map job_kind (take x.admitted s.head.known)) (sym same.head);
        head = h.results.ledger.head ∙ (λ j. head_after (first_head (sym same.plan j).script.batches) (created_in (sym same.settled j).results));
        made = ap (λ (x : Ledger). map (λ z. z.made) x.results) same.settled ∙ h.results.ledger.made
            ∙ (λ j. map (map ticket_of) (created_tickets (sym same.first j) (first_head (sym same.plan j).script.batches) (created_in (sym same.settled j).results)));
      };
      ended = λ t l. h.results.ended t (subst (λ n. n < t) same.committed l) ∙ ap (λ r. table.get r t) (sym same.results);
    };
    stores = record {
      as_many = same.as_many_stores ∙ h.stores.as_many ∙ ap (λ (x : Plan). x.script.hosts) (sym same.plan);
      each = λ g st' e p.
          let of = same.stores g st' e in
          let old = h.stores.each g of.stores of.there p in
          record {
            entry = subst (λ x. Matches (table.get x p) ((s.columns p).store g)) (sym of.store) old.entry;
            mark = old.mark ∙ ap (λ x. option_map mark_of (table.get x p)) (sym of.gone);
          };
    };
    hands = record {
      as_many = ap length same.hands ∙ h.hands.as_many ∙ ap (λ (x : Plan). x.workers) (sym same.plan);
      each = λ w o e. h.hands.each w o (sym (ap (λ l. slice_get l w) same.hands) ∙ e);
    };
  }

  pub keeps : Keeps m m'
  keeps start s h = record {
    fits = subst Fits (sym same.plan) h.fits;
    begins = subst (λ x. FitsStart x start) (sym same.plan) h.begins;
    labels = h.labels;
    reached = subst (λ x. IsReached x start h.labels s) (sym same.plan) h.reached;
    shows = shows_still s h.shows;
  }

  pub stopping_still : (lease : Lease) (why : Pause) → IsStopping m lease why → IsStopping m' lease why
  stopping_still lease why on = record {
    start = on.start;
    state = on.state;
    stands = keeps on.start on.state on.stands;
    back = subst (λ (x : Plan). IsBack x.program on.state lease why) (sym same.plan) on.back;
  }

-- What differs in rooms alone stands for the same states.
use Rattle.std.proofs.Common.{◌≡◌, ◌≢◌, ◌∙◌, ◌⊎◌, inl, inr, ℕ, ◌+◌, ◌-◌, ◌≤◌, is_some, Result, Ok, Err, Bool, true, false, List, [], Option, Some, None, refl, sym, ap, subst, true≢false}
use Rattle.std.specs.Prelude.{map, option_map, slice_get, slice_set}
use Rattle.std.specs.FinMap as table
use Rattle.std.specs.FinSet as set
use Rattle.std.specs.Ordering.{nat_cmp}
use Rattle.std.specs.Result.{OnOk}
use Rattle.std.proofs.lemmas.List.{length-set}
use Rattle.wave_base.specs.declared.path.Path.{Path}
use Rattle.wave_base.specs.declared.record.Record.{Record}
use Rattle.wave_base.specs.declared.shape.Shape.{Shape}
use Rattle.wave_base.specs.Paths.{path_eq}
use Rattle.wave_base.specs.PathLaws.{path_eq_decides}
use Rattle.wave_base.specs.Shapes.{initial_fields}
use Rattle.context_queue.specs.declared.entry.Entry.{Entry}
use Rattle.context_queue.specs.Entries.{StandsFor as EntryStands, SameButRooms as SameEntry, claim_of, is_holder, record_of}
use Rattle.host_map.specs.Stores.{Stores, IsAt, Matches, has, mark_of}
use Rattle.event_cells.specs.declared.cell.Cell.{Cell}
use Rattle.event_cells.specs.Cells.{StandsFor as CellStands, SameButRooms as SameCell, Carries, held_of, is_over, status_of}
use Rattle.event_cells.specs.Keeps.{mail_in}
use Rattle.code_actor.specs.CodeActors.{Fields}
use Rattle.service_code.specs.declared.program.Program.{Program}
use Rattle.wave_states.specs.States as theory
use Rattle.wave_states.specs.States.{Column}
use Rattle.wave_states.specs.Desks.{Desk}
use Rattle.wave_states.specs.Steps.{new_entry}
use Rattle.plan_actors.specs.PlanActors.{plan_actors}
use Rattle.wave_effects.specs.declared.actor.Actor.{Actor}
use Rattle.wave_effects.specs.Keeping.{RoomToGrant, RoomToLand}
use Rattle.wave_effects.specs.Rooms.{PartToQueue, RoomInLine}
use Rattle.wave_effects.specs.Machines.{Kept, IsCell, Keeps}
use Rattle.wave_effects.proofs.Calm.{with_cell, with_store}
use Rattle.wave_effects.proofs.CellParts.{TheCell}
use Rattle.wave_effects.proofs.Parts.{at_set}
use Rattle.wave_effects.proofs.StoreParts.{Writes, get_here, get_there}

pub set_there : {X : Type 0} (xs : List X) (i : ℕ) (x y : X) → slice_get (slice_set xs i x) i ≡ Some y → x ≡ y
set_there xs i x y e = by_place (at_set xs i x i y e)
  where
    by_place : ((i ≡ i) × (y ≡ x)) ⊎ ((i ≢ i) × (slice_get xs i ≡ Some y)) → x ≡ y
    by_place (inl h) = sym h.1
    by_place (inr h) = absurd (h.0 refl)

-- ---- cells

cell_stands : (c c' : Cell Actor) (d : Desk Actor Fields) → SameCell c c' → CellStands c d → CellStands c' d
cell_stands c c' d r h = record {
  actor = λ over. h.actor (sym (ap is_over r.status) ∙ over) ∙ sym r.actor;
  held = h.held ∙ ap (map held_of) (sym r.held);
  sent = h.sent ∙ sym r.sent;
  status = h.status ∙ ap status_of (sym r.status);
  mails = λ k. subst (λ x. Carries (mail_in x k) (d.mails k)) (sym r.mails) (h.mails k);
}

pub same_cell : (program : Program) (c c' : Cell Actor) (x : TheCell) → SameCell c c' → IsCell program c x → IsCell program c' x
same_cell program c c' x r is = record {
  desk = is.desk;
  stands = cell_stands c c' is.desk r is.stands;
  event = is.event;
  mails = is.mails;
  marked = λ a e. is.marked a (sym r.actor ∙ e);
}

pub cell_keeps : (m : Kept) (i : ℕ) (c c' : Cell Actor) → slice_get m.cells i ≡ Some c → SameCell c c' → Keeps m (with_cell m i c')
cell_keeps m i c c' there same start s stands =
    let h = stands.shows in
    record {
      fits = stands.fits;
      begins = stands.begins;
      labels = stands.labels;
      reached = stands.reached;
      shows = record {
        head = record { lines = h.head.lines; as_many = h.head.as_many; head = h.head.head; admitted = h.head.admitted; before = h.head.before; first = h.head.first };
        cells = record { as_many = length-set m.cells i c' ∙ h.cells.as_many; each = λ j d e. each j d (at_set m.cells i c' j d e) };
        results = record {
          as_many = h.results.as_many;
          next = h.results.next;
          settled = h.results.settled;
          ended = h.results.ended;
          ledger = record { kinds = h.results.ledger.kinds; head = h.results.ledger.head; made = h.results.ledger.made };
        };
        stores = record { as_many = h.stores.as_many; each = h.stores.each };
        hands = record { as_many = h.hands.as_many; each = h.hands.each };
      };
    }
  where
    each : (j : ℕ) (d : Cell Actor) → ((i ≡ j) × (d ≡ c')) ⊎ ((i ≢ j) × (slice_get m.cells j ≡ Some d)) → IsCell m.plan.program d (s.cells (m.first + j))
    each j d (inl k) = subst (λ n. IsCell m.plan.program d (s.cells (m.first + n))) k.0 (subst (λ z. IsCell m.plan.program z (s.cells (m.first + i))) (sym k.1) (same_cell m.plan.program c c' (s.cells (m.first + i)) same (stands.shows.cells.each i c there)))
    each j d (inr k) = stands.shows.cells.each j d k.1

-- ---- stores

-- the store has of each context what it had
abbrev pub SameStore : Stores → Stores → Type 0
SameStore st st' = (p : Path) (col : Column Fields) (h : ℕ) → IsAt st p col h → IsAt st' p col h

pub store_keeps : (m : Kept) (host : ℕ) (st st' : Stores) → slice_get m.stores host ≡ Some st → SameStore st st' → Keeps m (with_store m host st')
store_keeps m host st st' there same start s stands =
    let h = stands.shows in
    record {
      fits = stands.fits;
      begins = stands.begins;
      labels = stands.labels;
      reached = stands.reached;
      shows = record {
        head = record { lines = h.head.lines; as_many = h.head.as_many; head = h.head.head; admitted = h.head.admitted; before = h.head.before; first = h.head.first };
        cells = record { as_many = h.cells.as_many; each = h.cells.each };
        results = record {
          as_many = h.results.as_many;
          next = h.results.next;
          settled = h.results.settled;
          ended = h.results.ended;
          ledger = record { kinds = h.results.ledger.kinds; head = h.results.ledger.head; made = h.results.ledger.made };
        };
        stores = record { as_many = length-set m.stores host st' ∙ h.stores.as_many; each = λ g x e. each g x (at_set m.stores host st' g x e) };
        hands = record { as_many = h.hands.as_many; each = h.hands.each };
      };
    }
  where
    each : (g : ℕ) (x : Stores) → ((host ≡ g) × (x ≡ st')) ⊎ ((host ≢ g) × (slice_get m.stores g ≡ Some x)) → (p : Path) → IsAt x p (s.columns p) g
    each g x (inl k) p = subst (λ n. IsAt x p (s.columns p) n) k.0 (subst (λ z. IsAt z p (s.columns p) host) (sym k.1) (same p (s.columns p) host (stands.shows.stores.each host st there p)))
    each g x (inr k) p = stands.shows.stores.each g x k.1 p

-- a store with the same entries and the same marks
pub same_maps : (st st' : Stores) → st'.store ≡ st.store → st'.gone ≡ st.gone → SameStore st st'
same_maps st st' store gone p col h at = record {
  entry = subst (λ x. Matches (table.get x p) (col.store h)) (sym store) at.entry;
  mark = at.mark ∙ ap (λ x. option_map mark_of (table.get x p)) (sym gone);
}

entry_stands : (e e' : Entry) (en : theory.Entry Fields) → SameEntry e e' → EntryStands e en → EntryStands e' en
entry_stands e e' en r h = record {
  body = h.body ∙ ap (option_map record_of) (sym r.body);
  alone = λ t. h.alone t ∙ ap (λ x. is_holder x t) (sym r.holder);
  beside = λ t. h.beside t ∙ ap (λ x. set.contains x t) (sym r.peeks);
  served = h.served ∙ sym r.served;
  waiting = λ n. h.waiting n ∙ ap (λ x. option_map claim_of (table.get x n)) (sym r.waiting);
  moves = h.moves ∙ sym r.moves;
}

matches_too : (e e' : Entry) (o : Option (theory.Entry Fields)) → SameEntry e e' → Matches (Some e) o → Matches (Some e') o
matches_too e e' None r m = m
matches_too e e' (Some en) r m = entry_stands e e' en r m

-- a store in which an entry has other rooms
pub same_but_entry : (st st' : Stores) (p : Path) (e e' : Entry) → table.get st.store p ≡ Some e → SameEntry e e' → Writes st st' p e' → SameStore st st'
same_but_entry st st' p e e' there same writes q col h at = record {
  entry = by_path (path_eq q p) refl;
  mark = at.mark ∙ ap (λ x. option_map mark_of (table.get x q)) (sym writes.gone);
}
  where
    found : table.get st'.store p ≡ Some e'
    found = ap (λ x. table.get x p) writes.store ∙ get_here st.store p e'

    by_path : (b : Bool) → path_eq q p ≡ b → Matches (table.get st'.store q) (col.store h)
    by_path true is =
        let one : q ≡ p = (path_eq_decides q p).0 is in
        let old : Matches (Some e) (col.store h) = subst (λ x. Matches x (col.store h)) (ap (table.get st.store) one ∙ there) at.entry in
        subst (λ x. Matches x (col.store h)) (sym (ap (table.get st'.store) one ∙ found)) (matches_too e e' (col.store h) same old)
    by_path false is =
        let other : q ≢ p = (λ one. unlike one is) in
        subst (λ x. Matches x (col.store h)) (sym (ap (λ x. table.get x q) writes.store ∙ get_there st.store p e' q other)) at.entry
      where
        unlike : q ≡ p → path_eq q p ≡ false → ⊥
        unlike one apart = true≢false (sym ((path_eq_decides q p).1 one) ∙ apart)

pub keeps_on : (m n o : Kept) → Keeps m n → Keeps n o → Keeps m o
keeps_on m n o a b start s stands = b start s (a start s stands)

-- ---- what is born

pub first_stands : (program : Program) (shape : Shape) (p : Path) (r : Record) (e e' : Entry) → program.shape ≡ shape → r.fields ≡ initial_fields shape p → r.children ≡ [] → e.body ≡ Some r → e.holder ≡ None → e.peeks.tickets ≡ set.empty → e.served ≡ 0
    → e.waiting.claims ≡ table.empty → e.moves ≡ 0 → SameEntry e e' → EntryStands e' (new_entry (plan_actors program) p)
first_stands program shape p r e e' shape_is fields children body holder peeks served waiting moves same =
    entry_stands e e' (new_entry (plan_actors program) p) same (record {
      body = (λ i. Some (record { fields = ((λ j. initial_fields (shape_is j) p) ∙ sym fields) i; children = sym children i })) ∙ ap (option_map record_of) (sym body);
      alone = λ t. ap (λ x. is_holder x t) (sym holder);
      beside = λ t. sym (set.contains-empty nat_cmp t) ∙ ap (λ x. set.contains x t) (sym peeks);
      served = sym served;
      waiting = λ n. sym (ap (option_map claim_of) (table.get-empty nat_cmp n)) ∙ ap (λ x. option_map claim_of (table.get x n)) (sym waiting);
      moves = sym moves;
    })

-- ---- the room and the parts

pub on_ok : {T E : Type 0} (r : Result T E) (P Q : Type 0) → (P → Q) → OnOk r P → OnOk r Q
on_ok (Ok x) P Q f h = f h
on_ok (Err e) P Q f h = tt

same_some : {X : Type 0} (x y : X) → Some x ≡ Some y → x ≡ y
same_some x y e = cc

nothing : {X : Type 0} (o : Option X) → is_some o ≡ false → o ≡ None
nothing None h = refl
nothing (Some x) h = cc

module _ (m : Kept) (host : ℕ) (p : Path) (st st' : Stores) where
  pub grant_room : (t : ℕ) (c' : Cell Actor) (e' : Entry) → 1 ≤ c'.held.room → 1 ≤ e'.peeks.room → Writes st st' p e' → RoomToGrant (with_store (with_cell m (t - m.first) c') host st') host t p
  grant_room t c' e' held peeks writes = record {
    held = λ c is. subst (λ z. 1 ≤ z.held.room) (set_there m.cells (t - m.first) c' c is) held;
    peeks = λ x e claim is there waits looks.
        let one : table.get x.store p ≡ Some e' = ap (λ z. table.get z.store p) (sym (set_there m.stores host st' x is)) ∙ ap (λ z. table.get z p) writes.store ∙ get_here st.store p e' in
        subst (λ z. 1 ≤ z.peeks.room) (same_some e' e (sym one ∙ there)) peeks;
  }

  pub land_room : 1 ≤ st'.path_room → RoomToLand (with_store m host st') host
  land_room room x is = subst (λ z. 1 ≤ z.path_room) (set_there m.stores host st' x is) room

  pub here_part : (e' : Entry) → 1 ≤ e'.waiting.room → Writes st st' p e' → PartToQueue (with_store m host st') host p None
  here_part e' room writes = record {
    room = λ x is. subst (λ z. RoomInLine z (table.get z.store p) None) (set_there m.stores host st' x is) (subst (λ o. RoomInLine st' o None) (sym (ap (λ z. table.get z p) writes.store ∙ get_here st.store p e')) room);
    first = λ e is. absurd (none_not e is);
  }
    where
      none_not : (e : Entry) → None ≡ Some e → ⊥
      none_not e is = cc

  pub born_part : (e : Entry) → has p st ≡ false → st'.store ≡ st.store → 1 ≤ st'.path_room → 1 ≤ e.waiting.room → EntryStands e (new_entry (plan_actors m.plan.program) p) → PartToQueue (with_store m host st') host p (Some e)
  born_part e away same path_room room stands = record {
    room = λ x is. subst (λ z. RoomInLine z (table.get z.store p) (Some e)) (set_there m.stores host st' x is)
        (subst (λ o. RoomInLine st' o (Some e)) (sym (ap (λ z. table.get z p) same ∙ nothing (table.get st.store p) away)) (path_room, room));
    first = λ x is. subst (λ z. EntryStands z (new_entry (plan_actors m.plan.program) p)) (same_some e x is) stands;
  }

-- What is made beforehand changes nothing that a listing reads.
use Rattle.std.proofs.Common.{◌≡◌, ◌∙◌, ◌⊎◌, inl, inr, ℕ, ◌+◌, Bool, true, false, length, is_some, Option, Some, None, refl, sym, ap, subst, arith, true≢false}
use Rattle.std.specs.Prelude.{option_map, slice_get}
use Rattle.std.specs.FinMap as table
use Rattle.std.proofs.lemmas.List.{length-set}
use Rattle.std.proofs.lemmas.Option.{slice_get_within}
use Rattle.wave_base.specs.declared.path.Path.{Path}
use Rattle.wave_base.specs.Paths.{path_eq}
use Rattle.wave_base.specs.PathLaws.{path_eq_decides}
use Rattle.context_queue.specs.declared.entry.Entry.{Entry}
use Rattle.context_queue.specs.Entries.{SameButRooms as SameEntry, entry_of}
use Rattle.head_tickets.specs.Heads.{next_ticket}
use Rattle.host_map.specs.Stores.{Stores, has}
use Rattle.event_cells.specs.declared.cell.Cell.{Cell}
use Rattle.event_cells.specs.Cells.{SameButRooms as SameCell}
use Rattle.wave_states.specs.Labels.{Label, path_of}
use Rattle.wave_theory.proofs.Basics.{some_same}
use Rattle.wave_effects.specs.declared.actor.Actor.{Actor}
use Rattle.wave_effects.specs.Machines.{Kept, Ledger}
use Rattle.wave_effects.specs.Apart.{AsksAs, AnswersAs, AsksTheSame, Moves}
use Rattle.wave_effects.specs.Spare.{SameButRooms}
use Rattle.wave_effects.proofs.Calm.{with_cell, with_store}
use Rattle.wave_effects.proofs.Ending.{some_at}
use Rattle.wave_effects.proofs.Framing.{after_set, same_at, same_entry, written_apart}
use Rattle.wave_effects.proofs.StoreParts.{Writes, get_here}

asks_on : (c d e : Cell Actor) → AsksAs c d → AsksAs d e → AsksAs c e
asks_on c d e a b = record { status = b.status ∙ a.status; sent = b.sent ∙ a.sent; mails = b.mails ∙ a.mails }

answers_on : (s t u : Stores) (q : Path) → AnswersAs s t q → AnswersAs t u q → AnswersAs s u q
answers_on s t u q a b = record { entry = b.entry ∙ a.entry; mark = b.mark ∙ a.mark }

-- a store that answers the same has the context where the other has it
pub has_too : (s t : Stores) (q : Path) → AnswersAs s t q → has q t ≡ has q s
has_too s t q a = sym (mapped (table.get t.store q)) ∙ ap is_some a.entry ∙ mapped (table.get s.store q)
  where
    mapped : (o : Option Entry) → is_some (option_map entry_of o) ≡ is_some o
    mapped None = refl
    mapped (Some e) = refl

-- ---- what differs in rooms alone

pub same_asks : (m m' : Kept) → SameButRooms m m' → AsksTheSame m m'
same_asks m m' same = record {
  others = record {
    first = same.first;
    cells = λ i c c' apart was is.
        let of = same.cells i c' is in
        let old : of.cell ≡ c = some_same of.cell c (sym of.there ∙ was) in
        record {
          status = of.same.status ∙ ap (λ (z : Cell Actor). z.status) old;
          sent = of.same.sent ∙ ap (λ (z : Cell Actor). z.outbox.sent) old;
          mails = of.same.mails ∙ ap (λ (z : Cell Actor). z.outbox.mails) old;
        };
    as_many_stores = same.as_many_stores;
    stores = λ h q st st' apart was is.
        let of = same.stores h st' is in
        let old : of.stores ≡ st = some_same of.stores st (sym of.there ∙ was) in
        same_at st st' q (ap (λ m. table.get m q) of.store ∙ ap (λ (z : Stores). table.get z.store q) old) (ap (λ m. table.get m q) of.gone ∙ ap (λ (z : Stores). table.get z.gone q) old);
  };
  as_many = same.as_many_cells;
  next = ap next_ticket same.head;
  ready = λ j. table.get (same.results j) (same.committed j + 1);
  settled = ap (λ (x : Ledger). length x.results) same.settled;
}

-- ---- one after another

module _ (m n o : Kept) (a : AsksTheSame m n) where
  cell_between : (i : ℕ) (c : Cell Actor) → slice_get m.cells i ≡ Some c → (d : Cell Actor) × (slice_get n.cells i ≡ Some d)
  cell_between i c was = let within = slice_get_within m.cells i c was in let long = a.as_many in some_at n.cells i (omega (arith, within, long))

  store_between : (h : ℕ) (s : Stores) → slice_get m.stores h ≡ Some s → (t : Stores) × (slice_get n.stores h ≡ Some t)
  store_between h s was = let within = slice_get_within m.stores h s was in let long = a.others.as_many_stores in some_at n.stores h (omega (arith, within, long))

  pub asks_after : AsksTheSame n o → AsksTheSame m o
  asks_after b = record {
    others = record {
      first = b.others.first ∙ a.others.first;
      cells = λ i c c' apart was is. let d = cell_between i c was in asks_on c d.0 c' (a.others.cells i c d.0 (λ f. f) was d.1) (b.others.cells i d.0 c' (λ f. f) d.1 is);
      as_many_stores = b.others.as_many_stores ∙ a.others.as_many_stores;
      stores = λ h q s s' apart was is. let t = store_between h s was in answers_on s t.0 s' q (a.others.stores h q s t.0 (λ f. f) was t.1) (b.others.stores h q t.0 s' (λ f. f) t.1 is);
    };
    as_many = b.as_many ∙ a.as_many;
    next = b.next ∙ a.next;
    ready = b.ready ∙ a.ready;
    settled = b.settled ∙ a.settled;
  }

  -- a label after it
  pub moves_after : (l : Label) (more : ℕ) → Moves n o l more → Moves m o l more
  moves_after l more b = record {
    others = record {
      first = b.others.first ∙ a.others.first;
      cells = λ i c c' apart was is.
          let d = cell_between i c was in
          asks_on c d.0 c' (a.others.cells i c d.0 (λ f. f) was d.1) (b.others.cells i d.0 c' (λ e. apart (ap (λ (f : ℕ). f + i) (sym a.others.first) ∙ e)) d.1 is);
      as_many_stores = b.others.as_many_stores ∙ a.others.as_many_stores;
      stores = λ h q s s' apart was is. let t = store_between h s was in answers_on s t.0 s' q (a.others.stores h q s t.0 (λ f. f) was t.1) (b.others.stores h q t.0 s' apart t.1 is);
    };
    as_many = let x = a.as_many in let y = b.as_many in omega (arith, x, y);
    mails = λ i c c' was is.
        let d = cell_between i c was in
        let same : length d.0.outbox.mails ≡ length c.outbox.mails = ap length (a.others.cells i c d.0 (λ f. f) was d.1).mails in
        let few = b.mails i d.0 c' d.1 is in
        omega (arith, same, few);
    new = λ c' is. b.new c' (ap (slice_get o.cells) a.as_many ∙ is);
    mark = λ s s' was is away away'.
        let t = store_between l.host s was in
        let held = a.others.stores l.host (path_of l.act) s t.0 (λ f. f) was t.1 in
        b.mark t.0 s' t.1 is (has_too s t.0 (path_of l.act) held ∙ away) away' ∙ held.mark;
    head = λ off. let x = b.head off in record { next = x.next ∙ a.next; ready = x.ready ∙ a.ready; settled = x.settled ∙ a.settled };
  }

-- ---- one cell, or one store, that differs in rooms alone

pub cell_asks : (m : Kept) (i : ℕ) (c c' : Cell Actor) → slice_get m.cells i ≡ Some c → SameCell c c' → AsksTheSame m (with_cell m i c')
cell_asks m i c c' there same = record {
  others = record {
    first = refl;
    cells = λ j x x' apart was is. by_place j x x' was (after_set m.cells i c' j x x' was is);
    as_many_stores = refl;
    stores = λ h q s s' apart was is. subst (λ x. AnswersAs s x q) (some_same s s' (sym was ∙ is)) (record { entry = refl; mark = refl });
  };
  as_many = length-set m.cells i c';
  next = refl;
  ready = refl;
  settled = refl;
}
  where
    by_place : (j : ℕ) (x x' : Cell Actor) → slice_get m.cells j ≡ Some x → ((i ≡ j) × (x' ≡ c')) ⊎ (x' ≡ x) → AsksAs x x'
    by_place j x x' was (inl h) =
        let old : c ≡ x = some_same c x (sym there ∙ ap (slice_get m.cells) h.0 ∙ was) in
        subst (AsksAs x) (sym h.1) (subst (λ z. AsksAs z c') old (record { status = same.status; sent = same.sent; mails = same.mails }))
    by_place j x x' was (inr h) = subst (AsksAs x) (sym h) (record { status = refl; sent = refl; mails = refl })

pub store_asks : (m : Kept) (host : ℕ) (s s' : Stores) → slice_get m.stores host ≡ Some s → ((q : Path) → AnswersAs s s' q) → AsksTheSame m (with_store m host s')
store_asks m host s s' here same = record {
  others = record {
    first = refl;
    cells = λ i c c' apart was is. subst (AsksAs c) (some_same c c' (sym was ∙ is)) (record { status = refl; sent = refl; mails = refl });
    as_many_stores = length-set m.stores host s';
    stores = λ h q x x' apart was is. by_place h q x x' was (after_set m.stores host s' h x x' was is);
  };
  as_many = refl;
  next = refl;
  ready = refl;
  settled = refl;
}
  where
    by_place : (h : ℕ) (q : Path) (x x' : Stores) → slice_get m.stores h ≡ Some x → ((host ≡ h) × (x' ≡ s')) ⊎ (x' ≡ x) → AnswersAs x x' q
    by_place h q x x' was (inl k) =
        let old : s ≡ x = some_same s x (sym here ∙ ap (slice_get m.stores) k.0 ∙ was) in
        subst (λ z. AnswersAs x z q) (sym k.1) (subst (λ z. AnswersAs z s' q) old (same q))
    by_place h q x x' was (inr k) = subst (λ z. AnswersAs x z q) (sym k) (record { entry = refl; mark = refl })

-- a store with the same entries and the same marks
pub maps_answer : (s s' : Stores) → s'.store ≡ s.store → s'.gone ≡ s.gone → (q : Path) → AnswersAs s s' q
maps_answer s s' store gone q = same_at s s' q (ap (λ m. table.get m q) store) (ap (λ m. table.get m q) gone)

-- a store in which an entry has other rooms
pub entry_answers : (s s' : Stores) (p : Path) (e e' : Entry) → table.get s.store p ≡ Some e → SameEntry e e' → Writes s s' p e' → (q : Path) → AnswersAs s s' q
entry_answers s s' p e e' there same writes q = by_path (path_eq q p) refl
  where
    here : AnswersAs s s' p
    here = record {
      entry = ap (option_map entry_of) (ap (λ x. table.get x p) writes.store ∙ get_here s.store p e') ∙ ap Some (same_entry e e' same) ∙ sym (ap (option_map entry_of) there);
      mark = ap (λ x. table.get x p) writes.gone;
    }

    by_path : (b : Bool) → path_eq q p ≡ b → AnswersAs s s' q
    by_path true is = subst (AnswersAs s s') (sym ((path_eq_decides q p).0 is)) here
    by_path false is = written_apart s s' p e' writes q (λ one. true≢false (sym ((path_eq_decides q p).1 one) ∙ is))

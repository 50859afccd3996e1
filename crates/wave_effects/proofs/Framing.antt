-- What stays as it is where a label puts another cell in the place of one, and another store in the place of one.
use Rattle.std.proofs.Common.{◌≡◌, ◌≢◌, ◌∙◌, ◌⊎◌, inl, inr, ℕ, zero, suc, ◌+◌, ◌≤◌, true, false, List, ◌++◌, ◌∷◌, [], length, Option, Some, None, refl, sym, ap, subst, true≢false, arith}
use Rattle.std.specs.Prelude.{map, option_map, slice_get, slice_set}
use Rattle.std.specs.FinMap as table
use Rattle.std.specs.FinSet as set
use Rattle.std.proofs.lemmas.List.{length-set, length-append}
use Rattle.std.proofs.lemmas.Option.{slice_get_within}
use Rattle.wave_base.specs.declared.path.Path.{Path}
use Rattle.context_queue.specs.declared.entry.Entry.{Entry}
use Rattle.context_queue.specs.Entries.{SameButRooms as SameEntry, StandsFor, claim_of, entry_of, holder_claims, record_of}
use Rattle.context_queue.proofs.Holding.{stands}
use Rattle.code_actor.specs.CodeActors.{Fields}
use Rattle.host_map.specs.Stores.{Stores, IsAt, Matches, column_of, has}
use Rattle.event_cells.specs.declared.cell.Cell.{Cell}
use Rattle.wave_states.specs.Labels.{Label, ticket_of, path_of}
use Rattle.wave_states.specs.States as theory
use Rattle.wave_states.specs.States.{Column}
use Rattle.wave_states.specs.Steps.{column_joined, with_holders}
use Rattle.wave_theory.proofs.Basics.{none_not, some_same}
use Rattle.wave_effects.specs.declared.actor.Actor.{Actor}
use Rattle.wave_effects.specs.Machines.{Kept}
use Rattle.wave_effects.specs.Apart.{AsksAs, AnswersAs, HeadAsksTheSame, Moves, new_cells, on_head}
use Rattle.wave_effects.proofs.Parts.{at_set}
use Rattle.wave_effects.proofs.Reached.{has_it}
use Rattle.wave_effects.proofs.StoreParts.{Writes, get_there, landed_here}

-- ---- one element in the place of another

-- what is at a place after one was set: that one, at its place, or what was there
pub after_set : {X : Type 0} (xs : List X) (i : ℕ) (x : X) (j : ℕ) (a b : X) → slice_get xs j ≡ Some a → slice_get (slice_set xs i x) j ≡ Some b → ((i ≡ j) × (b ≡ x)) ⊎ (b ≡ a)
after_set xs i x j a b was is = by_place (at_set xs i x j b is)
  where
    by_place : ((i ≡ j) × (b ≡ x)) ⊎ ((i ≢ j) × (slice_get xs j ≡ Some b)) → ((i ≡ j) × (b ≡ x)) ⊎ (b ≡ a)
    by_place (inl h) = inl h
    by_place (inr h) = inr (some_same b a (sym h.1 ∙ was))

asks_itself : (c : Cell Actor) → AsksAs c c
asks_itself c = record { status = refl; sent = refl; mails = refl }

answers_itself : (st : Stores) (q : Path) → AnswersAs st st q
answers_itself st q = record { entry = refl; mark = refl }

asks_as : (c d : Cell Actor) → d ≡ c → AsksAs c d
asks_as c d e = subst (AsksAs c) (sym e) (asks_itself c)

answers_as : (st st' : Stores) (q : Path) → st' ≡ st → AnswersAs st st' q
answers_as st st' q e = subst (λ x. AnswersAs st x q) (sym e) (answers_itself st q)

-- ---- entries and stores

-- an entry that differs in rooms alone is the same to the theory
pub same_entry : (e f : Entry) → SameEntry e f → entry_of f ≡ entry_of e
same_entry e f s = λ j. record {
  body = option_map record_of (s.body j);
  holders = holder_claims (s.holder j) ++ map (λ t. record { ticket = t; peek = true }) (set.items (s.peeks j));
  served = s.served j;
  waiting = λ n. option_map claim_of (table.get (s.waiting j) n);
  moves = s.moves j;
}

-- a store in which one entry was written answers the same about all other contexts
pub written_apart : (st st' : Stores) (p : Path) (e : Entry) → Writes st st' p e → (q : Path) → q ≢ p → AnswersAs st st' q
written_apart st st' p e w q n = record {
  entry = ap (option_map entry_of) (ap (λ m. table.get m q) w.store ∙ get_there st.store p e q n);
  mark = ap (λ m. table.get m q) w.gone;
}

-- stores with the same at a context answer the same about it
pub same_at : (st st' : Stores) (q : Path) → table.get st'.store q ≡ table.get st.store q → table.get st'.gone q ≡ table.get st.gone q → AnswersAs st st' q
same_at st st' q store gone = record { entry = ap (option_map entry_of) store; mark = gone }

-- a store in which a context landed has it
pub has_landed : (st st' : Stores) (p : Path) (e : Entry) → ((c : Column Fields) (h : ℕ) (en : theory.Entry Fields) → IsAt st p c h → StandsFor e en → IsAt st' p (column_joined c h (with_holders en [])) h) → has p st' ≡ true
has_landed st st' p e lands =
    let en = with_holders (entry_of e) [] in
    let column = column_joined (column_of st p) 0 en in
    has_it (table.get st'.store p) (column.store 0) en (lands (column_of st p) 0 (entry_of e) itself (stands e)).entry (landed_here (column_of st p) 0 en)
  where
    matches : (o : Option Entry) → Matches o (option_map entry_of o)
    matches None = tt
    matches (Some x) = stands x

    itself : IsAt st p (column_of st p) 0
    itself = record { entry = matches (table.get st.store p); mark = refl }

-- ---- a label that puts another cell in the place of one

module _ (m m' : Kept) (l : Label) (more i : ℕ) (c c' : Cell Actor) (at : m.first + i ≡ ticket_of l.act) (as_before : new_cells l.act ≡ 0) (there : slice_get m.cells i ≡ Some c) (first : m'.first ≡ m.first)
    (cells : m'.cells ≡ slice_set m.cells i c') (few : length c'.outbox.mails ≤ more + length c.outbox.mails) where
  cell_after : (j : ℕ) (x x' : Cell Actor) → slice_get m.cells j ≡ Some x → slice_get m'.cells j ≡ Some x' → ((i ≡ j) × (x' ≡ c')) ⊎ (x' ≡ x)
  cell_after j x x' was is = after_set m.cells i c' j x x' was (sym (ap (λ cs. slice_get cs j) cells) ∙ is)

  cells_apart : (j : ℕ) (x x' : Cell Actor) → (m.first + j ≡ ticket_of l.act → ⊥) → slice_get m.cells j ≡ Some x → slice_get m'.cells j ≡ Some x' → AsksAs x x'
  cells_apart j x x' apart was is = by_place (cell_after j x x' was is)
    where
      by_place : ((i ≡ j) × (x' ≡ c')) ⊎ (x' ≡ x) → AsksAs x x'
      by_place (inl h) = absurd (apart (ap (λ n. m.first + n) (sym h.0) ∙ at))
      by_place (inr h) = asks_as x x' h

  mails_after : (j : ℕ) (x x' : Cell Actor) → slice_get m.cells j ≡ Some x → slice_get m'.cells j ≡ Some x' → length x'.outbox.mails ≤ more + length x.outbox.mails
  mails_after j x x' was is = by_place (cell_after j x x' was is)
    where
      by_place : ((i ≡ j) × (x' ≡ c')) ⊎ (x' ≡ x) → length x'.outbox.mails ≤ more + length x.outbox.mails
      by_place (inl h) =
          let old : c ≡ x = some_same c x (sym there ∙ ap (slice_get m.cells) h.0 ∙ was) in
          subst (λ (z : Cell Actor). length z.outbox.mails ≤ more + length x.outbox.mails) (sym h.1) (subst (λ (z : Cell Actor). length c'.outbox.mails ≤ more + length z.outbox.mails) old few)
      by_place (inr h) = subst (λ (z : Cell Actor). length z.outbox.mails ≤ more + length x.outbox.mails) (sym h) (omega arith)

  as_long : length m'.cells ≡ length m.cells
  as_long = ap length cells ∙ length-set m.cells i c'

  as_many : length m'.cells ≡ new_cells l.act + length m.cells
  as_many = let long = as_long in omega (arith, long, as_before)

  none_new : (x : Cell Actor) → slice_get m'.cells (length m.cells) ≡ Some x → length x.outbox.mails ≤ 1
  none_new x is = let within = slice_get_within m'.cells (length m.cells) x is in let long = as_long in absurd (omega (arith, within, long))

  -- and no store
  module _ (stores : m'.stores ≡ m.stores) (head : on_head l.act ≡ false → HeadAsksTheSame m m') where
    store_after : (h : ℕ) (st st' : Stores) → slice_get m.stores h ≡ Some st → slice_get m'.stores h ≡ Some st' → st' ≡ st
    store_after h st st' was is = some_same st' st (sym is ∙ ap (λ ss. slice_get ss h) stores ∙ was)

    pub moved_cell : Moves m m' l more
    moved_cell = record {
      others = record {
        first = first;
        cells = cells_apart;
        as_many_stores = ap length stores;
        stores = λ h q st st' apart was is. answers_as st st' q (store_after h st st' was is);
      };
      as_many = as_many;
      mails = mails_after;
      new = none_new;
      mark = λ st st' was is away away'. ap (λ (x : Stores). table.get x.gone (path_of l.act)) (store_after l.host st st' was is);
      head = head;
    }

  -- and another store in the place of its host's, which answers the same about all other contexts
  module _ (s s' : Stores) (here : slice_get m.stores l.host ≡ Some s) (stores : m'.stores ≡ slice_set m.stores l.host s') (apart_from_it : (q : Path) → q ≢ path_of l.act → AnswersAs s s' q)
      (mark_stays : has (path_of l.act) s ≡ false → has (path_of l.act) s' ≡ false → table.get s'.gone (path_of l.act) ≡ table.get s.gone (path_of l.act)) (head : on_head l.act ≡ false → HeadAsksTheSame m m') where
    stores_after : (h : ℕ) (st st' : Stores) → slice_get m.stores h ≡ Some st → slice_get m'.stores h ≡ Some st' → ((l.host ≡ h) × (st' ≡ s')) ⊎ (st' ≡ st)
    stores_after h st st' was is = after_set m.stores l.host s' h st st' was (sym (ap (λ ss. slice_get ss h) stores) ∙ is)

    stores_apart : (h : ℕ) (q : Path) (st st' : Stores) → ((h ≡ l.host) × (q ≡ path_of l.act) → ⊥) → slice_get m.stores h ≡ Some st → slice_get m'.stores h ≡ Some st' → AnswersAs st st' q
    stores_apart h q st st' apart was is = by_place (stores_after h st st' was is)
      where
        by_place : ((l.host ≡ h) × (st' ≡ s')) ⊎ (st' ≡ st) → AnswersAs st st' q
        by_place (inl k) =
            let old : s ≡ st = some_same s st (sym here ∙ ap (slice_get m.stores) k.0 ∙ was) in
            subst (λ x. AnswersAs st x q) (sym k.1) (subst (λ x. AnswersAs x s' q) old (apart_from_it q (λ e. apart (sym k.0, e))))
        by_place (inr k) = answers_as st st' q k

    pub moved_both : Moves m m' l more
    moved_both = record {
      others = record {
        first = first;
        cells = cells_apart;
        as_many_stores = ap length stores ∙ length-set m.stores l.host s';
        stores = stores_apart;
      };
      as_many = as_many;
      mails = mails_after;
      new = none_new;
      mark = mark_after;
      head = head;
    }
      where
        mark_after : (st st' : Stores) → slice_get m.stores l.host ≡ Some st → slice_get m'.stores l.host ≡ Some st' → has (path_of l.act) st ≡ false → has (path_of l.act) st' ≡ false
            → table.get st'.gone (path_of l.act) ≡ table.get st.gone (path_of l.act)
        mark_after st st' was is away away' = by_place (stores_after l.host st st' was is)
          where
            by_place : ((l.host ≡ l.host) × (st' ≡ s')) ⊎ (st' ≡ st) → table.get st'.gone (path_of l.act) ≡ table.get st.gone (path_of l.act)
            by_place (inl k) =
                let old : s ≡ st = some_same s st (sym here ∙ was) in
                let stays = mark_stays (ap (has (path_of l.act)) old ∙ away) (ap (has (path_of l.act)) (sym k.1) ∙ away') in
                ap (λ (x : Stores). table.get x.gone (path_of l.act)) k.1 ∙ stays ∙ ap (λ (x : Stores). table.get x.gone (path_of l.act)) old
            by_place (inr k) = ap (λ (x : Stores). table.get x.gone (path_of l.act)) k

-- ---- a label on the head

-- an Admit puts one cell behind the others
pub moved_admit : (m m' : Kept) (l : Label) (c : Cell Actor) → new_cells l.act ≡ 1 → on_head l.act ≡ true → m'.first ≡ m.first → m'.cells ≡ m.cells ++ c ∷ [] → m'.stores ≡ m.stores → length c.outbox.mails ≤ 1 → Moves m m' l 0
moved_admit m m' l c grows here first cells stores few = record {
  others = record {
    first = first;
    cells = λ i x x' apart was is. asks_as x x' (cell_after i x x' was is);
    as_many_stores = ap length stores;
    stores = λ h q st st' apart was is. answers_as st st' q (store_after h st st' was is);
  };
  as_many = let long : length m'.cells ≡ length m.cells + 1 = ap length cells ∙ length-append m.cells (c ∷ []) in omega (arith, long, grows);
  mails = λ i x x' was is. subst (λ (z : Cell Actor). length z.outbox.mails ≤ 0 + length x.outbox.mails) (sym (cell_after i x x' was is)) (omega arith);
  new = λ x is. subst (λ (z : Cell Actor). length z.outbox.mails ≤ 1) (some_same c x (sym (at_end m.cells) ∙ sym (ap (λ cs. slice_get cs (length m.cells)) cells) ∙ is)) few;
  mark = λ st st' was is away away'. ap (λ (x : Stores). table.get x.gone (path_of l.act)) (store_after l.host st st' was is);
  head = λ off. absurd (true≢false (sym here ∙ off));
}
  where
    at_end : (xs : List (Cell Actor)) → slice_get (xs ++ c ∷ []) (length xs) ≡ Some c
    at_end [] = refl
    at_end (x ∷ xs) = at_end xs

    still : (xs : List (Cell Actor)) (i : ℕ) (x : Cell Actor) → slice_get xs i ≡ Some x → slice_get (xs ++ c ∷ []) i ≡ Some x
    still [] i x is = absurd (none_not is)
    still (y ∷ ys) zero x is = is
    still (y ∷ ys) (suc i) x is = still ys i x is

    cell_after : (i : ℕ) (x x' : Cell Actor) → slice_get m.cells i ≡ Some x → slice_get m'.cells i ≡ Some x' → x' ≡ x
    cell_after i x x' was is = some_same x' x (sym is ∙ ap (λ cs. slice_get cs i) cells ∙ still m.cells i x was)

    store_after : (h : ℕ) (st st' : Stores) → slice_get m.stores h ≡ Some st → slice_get m'.stores h ≡ Some st' → st' ≡ st
    store_after h st st' was is = some_same st' st (sym is ∙ ap (λ ss. slice_get ss h) stores ∙ was)

-- a label that changes no cell and no store
pub moved_none : (m m' : Kept) (l : Label) → new_cells l.act ≡ 0 → on_head l.act ≡ true → m'.first ≡ m.first → m'.cells ≡ m.cells → m'.stores ≡ m.stores → Moves m m' l 0
moved_none m m' l stays here first cells stores = record {
  others = record {
    first = first;
    cells = λ i x x' apart was is. asks_as x x' (cell_after i x x' was is);
    as_many_stores = ap length stores;
    stores = λ h q st st' apart was is. answers_as st st' q (store_after h st st' was is);
  };
  as_many = let long : length m'.cells ≡ length m.cells = ap length cells in omega (arith, long, stays);
  mails = λ i x x' was is. subst (λ (z : Cell Actor). length z.outbox.mails ≤ 0 + length x.outbox.mails) (sym (cell_after i x x' was is)) (omega arith);
  new = λ x is. let within = slice_get_within m'.cells (length m.cells) x is in let long : length m'.cells ≡ length m.cells = ap length cells in absurd (omega (arith, within, long));
  mark = λ st st' was is away away'. ap (λ (x : Stores). table.get x.gone (path_of l.act)) (store_after l.host st st' was is);
  head = λ off. absurd (true≢false (sym here ∙ off));
}
  where
    cell_after : (i : ℕ) (x x' : Cell Actor) → slice_get m.cells i ≡ Some x → slice_get m'.cells i ≡ Some x' → x' ≡ x
    cell_after i x x' was is = some_same x' x (sym is ∙ ap (λ cs. slice_get cs i) cells ∙ was)

    store_after : (h : ℕ) (st st' : Stores) → slice_get m.stores h ≡ Some st → slice_get m'.stores h ≡ Some st' → st' ≡ st
    store_after h st st' was is = some_same st' st (sym is ∙ ap (λ ss. slice_get ss h) stores ∙ was)

-- What a label leaves of what other tickets ask for, and its own by its other mails.
use Rattle.std.proofs.Common.{◌≡◌, ◌≢◌, ◌∙◌, inl, inr, ℕ, zero, suc, ◌+◌, ◌-◌, ◌<◌, ◌≤◌, ◌&&◌, Bool, false, List, ◌++◌, length, Option, Some, None, refl, sym, ap, arith}
use Rattle.std.specs.Prelude.{flat_map, slice_get}
use Rattle.wave_base.specs.declared.path.Path.{Path}
use Rattle.wave_base.specs.Fold.{tickets_from}
use Rattle.event_cells.specs.declared.cell.Cell.{Cell}
use Rattle.event_cells.specs.Keeps.{mail_in}
use Rattle.host_map.specs.Stores.{Stores}
use Rattle.wave_states.specs.Labels.{Act, Label, Grant, Admit, Queue, Visit, Start, Stop, Free, Pass, Land, Commit, path_of, ticket_of}
use Rattle.wave_theory.proofs.Basics.{not_same, number_cases}
use Rattle.wave_effects.specs.declared.actor.Actor.{Actor}
use Rattle.wave_effects.specs.Machines.{Kept}
use Rattle.wave_effects.specs.Apart.{AsksAs, Moves, new_cells}
use Rattle.wave_machine.specs.inner.Asking.{mail_labels, status_labels}
use Rattle.wave_machine.specs.inner.Index.{is_enter, mail_at, mail_by, asked_as, asked_at, asked_by, asked_of, cell_at, act_number, sent_at, sent_by, slot_at, slot_by}
use Rattle.wave_machine.specs.inner.Updating.{KeepsMails, next_at}
use Rattle.wave_machine.proofs.ListingLists.{flat_same}
use Rattle.wave_machine.proofs.Owned.{cell_is, cell_there, slice_some}
use Rattle.wave_machine.proofs.Ways.{SameWays}

pub grown_few : (a : Act) → new_cells a ≤ 1
grown_few (Admit t) = omega arith
grown_few (Queue t k p) = omega arith
grown_few (Grant t p) = omega arith
grown_few (Visit t k p) = omega arith
grown_few (Start t p) = omega arith
grown_few (Stop t p) = omega arith
grown_few (Free t k p) = omega arith
grown_few (Pass t k p g) = omega arith
grown_few (Land t k p) = omega arith
grown_few (Commit t) = omega arith

-- a number but 0 is that of a mail
pub asked_mail : (stores : List Stores) (t : ℕ) (c : Cell Actor) (j : ℕ) → j ≢ 0 → asked_as stores t c j ≡ mail_labels stores 0 t j (mail_in c.outbox.mails j)
asked_mail stores t c zero some = absurd (some refl)
asked_mail stores t c (suc k) some = refl

module _ (m m' : Kept) (l : Label) (more : ℕ) (moves : Moves m m' l more) where
  abbrev p : Path
  p = path_of l.act

  abbrev t : ℕ
  t = ticket_of l.act

  -- the cells of another ticket, before and after
  record TwoCells (u : ℕ) : Type 0 where
    old : Cell Actor
    new : Cell Actor
    old_is : cell_at m u ≡ Some old
    new_is : cell_at m' u ≡ Some new
    asks : AsksAs old new

  two_cells : (new_cells l.act ≡ 1 → ticket_of l.act ≡ m.first + length m.cells) → (u : ℕ) → m'.first ≤ u → u < m'.first + length m'.cells → u ≢ ticket_of l.act → TwoCells u
  two_cells grows u low high apart =
      let first = moves.others.first in
      let many = moves.as_many in
      let few = grown_few l.act in
      let old_low : m.first ≤ u = omega (arith, low, first) in
      let old_high : u - m.first < length m.cells = within first many few in
      let some = slice_some m.cells (u - m.first) old_high in
      let some' = slice_some m'.cells (u - m'.first) (omega (arith, low, high)) in
      let place : u - m'.first ≡ u - m.first = ap (λ n. u - n) first in
      let at' : slice_get m'.cells (u - m.first) ≡ Some some'.0 = ap (slice_get m'.cells) (sym place) ∙ some'.1 in
      let here' : m.first + (u - m.first) ≡ u = omega (arith, old_low) in
      record {
        old = some.0;
        new = some'.0;
        old_is = cell_is m u old_low ∙ some.1;
        new_is = cell_is m' u low ∙ some'.1;
        asks = moves.others.cells (u - m.first) some.0 some'.0 (λ e. apart (sym here' ∙ e)) some.1 at';
      }
    where
      within : m'.first ≡ m.first → length m'.cells ≡ new_cells l.act + length m.cells → new_cells l.act ≤ 1 → u - m.first < length m.cells
      within first many few = elim (number_cases (new_cells l.act) 1) [
        | inl one ↦
            let t = grows one in
            let apart_t : u ≢ m.first + length m.cells = λ e. apart (e ∙ sym t) in
            omega (arith, first, many, one, low, high, apart_t)
        | inr d ↦
            let zero_is : new_cells l.act ≢ 1 = not_same (new_cells l.act) 1 d in
            omega (arith, first, many, few, zero_is, low, high)
      ]

  module _ (moved : Bool) (ways : SameWays m m' l moved) where
    asked_same : (u : ℕ) → (next_at p (slice_get m.stores l.host) ≡ Some u → ⊥) → (next_at p (slice_get m'.stores l.host) ≡ Some u → ⊥) → (i : ℕ) (c c' : Cell Actor) → slice_get m.cells i ≡ Some c → m.first + i ≢ ticket_of l.act → moved ≡ false → AsksAs c c' → asked_of m'.stores u c' ≡ asked_of m.stores u c
    asked_same u before after i c c' there other none a =
        (λ j. status_labels m'.stores 0 u (a.status j) ++ flat_map (λ k. mail_labels m'.stores 0 u k (mail_in (a.mails j) k)) (tickets_from 1 (a.sent j)))
        ∙ (λ j. ways.status i u c there other before after j ++ flat_same (λ k. mail_labels m'.stores 0 u k (mail_in c.outbox.mails k)) (λ k. mail_labels m.stores 0 u k (mail_in c.outbox.mails k)) (λ k. ways.mails i u k c there (ap (λ b. b && is_enter l.host p (mail_in c.outbox.mails k)) none)) (tickets_from 1 c.outbox.sent) j)

    other_place : (u : ℕ) (c : Cell Actor) → cell_at m u ≡ Some c → u ≢ ticket_of l.act → m.first + (u - m.first) ≢ ticket_of l.act
    other_place u c e apart same = let low = (cell_there m u c e).low in let here : u ≡ m.first + (u - m.first) = omega (arith, low) in apart (here ∙ same)

    -- another ticket asks for the same
    pub others_ask : (u : ℕ) → (next_at p (slice_get m.stores l.host) ≡ Some u → ⊥) → (next_at p (slice_get m'.stores l.host) ≡ Some u → ⊥) → moved ≡ false → (new_cells l.act ≡ 1 → ticket_of l.act ≡ m.first + length m.cells) → m'.first ≤ u → u < m'.first + length m'.cells → u ≢ ticket_of l.act → asked_at m u ≡ asked_at m' u
    others_ask u before after none grows low high apart =
        let it = two_cells grows u low high apart in
        ap (asked_by m.stores u) it.old_is ∙ sym (asked_same u before after (u - m.first) it.old it.new (cell_there m u it.old it.old_is).at (other_place u it.old it.old_is apart) none it.asks) ∙ sym (ap (asked_by m'.stores u) it.new_is)

    -- and so does each of its numbers; 0 is the status of who neither was nor is next
    pub others_slot : (new_cells l.act ≡ 1 → ticket_of l.act ≡ m.first + length m.cells) → (u j : ℕ) → m'.first ≤ u → u < m'.first + length m'.cells → u ≢ ticket_of l.act
        → (j ≡ 0 → next_at p (slice_get m.stores l.host) ≡ Some u → ⊥) → (j ≡ 0 → next_at p (slice_get m'.stores l.host) ≡ Some u → ⊥) → (moved && is_enter l.host p (mail_at m' u j)) ≡ false → slot_at m u j ≡ slot_at m' u j
    others_slot grows u j low high apart before after not =
        let it = two_cells grows u low high apart in
        ap (slot_by m.stores u j) it.old_is ∙ sym (by_number j before after it.old it.new (cell_there m u it.old it.old_is).at (other_place u it.old it.old_is apart) it.asks (ap (λ o. moved && is_enter l.host p o) (λ i. mail_in (sym it.asks.mails i) j) ∙ ap (λ o. moved && is_enter l.host p (mail_by j o)) (sym it.new_is) ∙ not)) ∙ sym (ap (slot_by m'.stores u j) it.new_is)
      where
        by_number : (j : ℕ) → (j ≡ 0 → next_at p (slice_get m.stores l.host) ≡ Some u → ⊥) → (j ≡ 0 → next_at p (slice_get m'.stores l.host) ≡ Some u → ⊥) → (c c' : Cell Actor) → slice_get m.cells (u - m.first) ≡ Some c → m.first + (u - m.first) ≢ ticket_of l.act → AsksAs c c' → (moved && is_enter l.host p (mail_in c.outbox.mails j)) ≡ false → asked_as m'.stores u c' j ≡ asked_as m.stores u c j
        by_number zero before after c c' there other a not = ap (status_labels m'.stores 0 u) a.status ∙ ways.status (u - m.first) u c there other (before refl) (after refl)
        by_number (suc k) before after c c' there other a not = ap (λ ms. mail_labels m'.stores 0 u (suc k) (mail_in ms (suc k))) a.mails ∙ ways.mails (u - m.first) u (suc k) c there not

    -- of the label's ticket each mail that was sent before, but the label's own, asks for the same
    pub own_slot : KeepsMails m m' l → (j : ℕ) → m'.first ≤ ticket_of l.act → ticket_of l.act < m'.first + length m'.cells → j ≢ 0 → j ≢ act_number l.act → j ≤ sent_at m (ticket_of l.act) → (moved && is_enter l.host p (mail_at m' (ticket_of l.act) j)) ≡ false → slot_at m (ticket_of l.act) j ≡ slot_at m' (ticket_of l.act) j
    own_slot keeps j low high some apart within not = by_cell (cell_at m t) refl
      where
        by_cell : (o : Option (Cell Actor)) → cell_at m t ≡ o → slot_at m t j ≡ slot_at m' t j
        by_cell None e = absurd (let none : sent_at m (ticket_of l.act) ≡ 0 = ap sent_by e in omega (arith, none, within, some))
        by_cell (Some c) e =
            let first = moves.others.first in
            let there = cell_there m t c e in
            let new = slice_some m'.cells (t - m'.first) (omega (arith, low, high)) in
            let place : t - m'.first ≡ t - m.first = ap (λ n. t - n) first in
            let old_low = there.low in
            let here' : m.first + (t - m.first) ≡ t = omega (arith, old_low) in
            let sent : sent_at m (ticket_of l.act) ≡ c.outbox.sent = ap sent_by e in
            let small : j ≤ c.outbox.sent = omega (arith, within, sent) in
            let kept = keeps.kept (t - m.first) c new.0 here' there.at (ap (slice_get m'.cells) (sym place) ∙ new.1) j small apart m'.stores in
            let at' : cell_at m' t ≡ Some new.0 = cell_is m' t low ∙ new.1 in
            let enter = keeps.enter (t - m.first) c new.0 here' there.at (ap (slice_get m'.cells) (sym place) ∙ new.1) j small apart l.host p in
            ap (slot_by m.stores t j) e
            ∙ asked_mail m.stores t c j some
            ∙ sym (ways.mails (t - m.first) t j c there.at (ap (λ b. moved && b) (sym enter) ∙ ap (λ o. moved && is_enter l.host p (mail_by j o)) (sym at') ∙ not))
            ∙ sym kept
            ∙ sym (asked_mail m'.stores t new.0 j some)
            ∙ sym (ap (slot_by m'.stores t j) (cell_is m' t low ∙ new.1))

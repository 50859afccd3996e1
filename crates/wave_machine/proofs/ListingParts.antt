-- A listing in three parts: what the index has before the Stops, as the idle worker takes it, the Stops, and what it has behind them.
use Rattle.std.proofs.Common.{◌≡◌, ◌≢◌, ◌∙◌, ℕ, suc, ◌+◌, ◌==◌, Bool, true, false, List, [], ◌∷◌, ◌++◌, length, map, take, drop, Option, Some, None, refl, sym, ap, subst, arith, append-nil}
use Rattle.std.specs.Prelude.{flat_map, if◌then◌else◌, option_map}
use Rattle.wave_base.specs.declared.numbers.Ticket.{Ticket}
use Rattle.wave_base.specs.declared.outcome.EventResult.{EventResult}
use Rattle.wave_base.specs.Fold.{tickets_from}
use Rattle.commit_order.specs.Commits.{ready_result}
use Rattle.head_tickets.specs.Heads.{next_ticket}
use Rattle.event_cells.specs.declared.cell.Cell.{Cell}
use Rattle.host_map.specs.Stores.{Stores}
use Rattle.wave_states.specs.Labels.{Label, Admit, Commit}
use Rattle.wave_theory.proofs.Basics.{differ}
use Rattle.wave_effects.specs.declared.actor.Actor.{Actor}
use Rattle.wave_machine.specs.declared.ready.Ready.{Ready}
use Rattle.wave_effects.specs.Ending.{is_done}
use Rattle.wave_effects.specs.Machines.{Kept}
use Rattle.wave_machine.specs.inner.Asking.{admit_labels, asked_in, by_taker, by_ticket, cell_labels, commit_labels, in_order, label_at, mails_labels, of_kind, status_labels, stops_labels}
use Rattle.wave_machine.specs.inner.Index.{IsIndex, Parted, asked_at, asked_by, asked_of, by_none, by_part, cell_at, head_in}
use Rattle.wave_machine.proofs.Bridged.{all_as, map_twice, no_workers, with_worker}
use Rattle.wave_machine.proofs.ListingCells.{cell_is, is_kind, mails_not, only_stops, pieces, status_not, stops_not}
use Rattle.wave_machine.proofs.ListingLists.{filter_by_ticket, filter_flat, filter_of_map, flat_none, flat_same, map_flat}
use Rattle.wave_machine.proofs.Ordering.{kind_append, kinds_are, lower, lower_same, parted, upper, upper_same}

module _ {C X : Type 0} where
  by_ticket_same : (f g : ℕ → C → List X) → ((t : ℕ) (c : C) → f t c ≡ g t c) → (t : ℕ) (cs : List C) → by_ticket f t cs ≡ by_ticket g t cs
  by_ticket_same f g h t [] = refl
  by_ticket_same f g h t (c ∷ cs) = λ i. h t c i ++ by_ticket_same f g h (suc t) cs i

  by_ticket_none : (f : ℕ → C → List X) → ((t : ℕ) (c : C) → f t c ≡ []) → (t : ℕ) (cs : List C) → by_ticket f t cs ≡ []
  by_ticket_none f h t [] = refl
  by_ticket_none f h t (c ∷ cs) = ap (λ r. r ++ by_ticket f (suc t) cs) (h t c) ∙ by_ticket_none f h (suc t) cs

-- ---- what an idle worker takes has no Stop

no_stop : (stores : List Stores) (t : ℕ) (c : Cell Actor) → of_kind 5 (asked_of stores t c) ≡ []
no_stop stores t c =
    kind_append 5 (status_labels stores 0 t c.status) (mails_labels stores 0 t c.outbox)
    ∙ (λ i. status_not stores 5 refl refl 0 t c.status i ++ mails_not stores 5 refl refl refl refl refl 0 t c.outbox i)

module _ (m : Kept) where
  abbrev pub all : List Label
  all = head_in m ++ by_part m (asked_at m)

  no_stop_at : (u : ℕ) → of_kind 5 (asked_at m u) ≡ []
  no_stop_at u = by_cell (cell_at m u)
    where
      by_cell : (o : Option (Cell Actor)) → of_kind 5 (asked_by m.stores u o) ≡ []
      by_cell None = refl
      by_cell (Some c) = no_stop m.stores u c

  no_head : (w : ℕ) → of_kind 5 (admit_labels w m.head ++ commit_labels w (m.first + length m.settled.results) m.commits) ≡ []
  no_head w = kind_append 5 (admit_labels w m.head) (commit_labels w (m.first + length m.settled.results) m.commits) ∙ (λ i. by_next (next_ticket m.head) i ++ by_result (ready_result m.commits) i)
    where
      by_next : (o : Option Ticket) → of_kind 5 (label_at w 0 (option_map (λ t. Admit t.0) o)) ≡ []
      by_next None = refl
      by_next (Some t) = refl

      by_result : (o : Option EventResult) → of_kind 5 (label_at w 0 (option_map (λ r. Commit (m.first + length m.settled.results)) o)) ≡ []
      by_result None = refl
      by_result (Some r) = refl

  no_stops : of_kind 5 all ≡ []
  no_stops =
      kind_append 5 (head_in m) (by_part m (asked_at m))
      ∙ (λ i. no_head 0 i ++ (filter_flat (is_kind 5) (asked_at m) (tickets_from m.first (length m.cells)) ∙ flat_none (λ u. of_kind 5 (asked_at m u)) no_stop_at (tickets_from m.first (length m.cells))) i)

  -- so the index is in two parts about the Stops
  pub about_stops : (index : List Ready) → IsIndex m index → Parted (map by_none index) 5 0 0 (lower 5 all) (upper 5 all)
  about_stops index e =
      subst (λ ls. Parted ls 5 0 0 (lower 5 all) (upper 5 all)) (sym e)
      (subst (λ low. Parted (in_order all) 5 0 0 low (upper 5 all)) (append-nil (lower 5 all)) (parted 5 0 0 all [] [] (omega arith) no_stops tt tt))

-- ---- a list of what is asked for, about the Stops

-- a ticket's Stops are what it asks for where nobody is idle
pub cell_stops : (m : Kept) (ws : List ℕ) (t : ℕ) (c : Cell Actor) → stops_labels m.stores m.hands ws t c.status ≡ cell_labels m.stores m.hands None ws t c
cell_stops m ws t c = sym (cell_is m.stores m.hands None ws t c ∙ append-nil (stops_labels m.stores m.hands ws t c.status))

module _ (m : Kept) (idle : Option ℕ) (ws : List ℕ) where
  abbrev cells : List ℕ → List Label
  cells vs = by_ticket (cell_labels m.stores m.hands idle vs) m.first m.cells

  abbrev head : List Label
  head = by_taker idle (λ w. admit_labels w m.head ++ commit_labels w (m.first + length m.settled.results) m.commits)

  -- whose Stops are asked for matters for no other kind
  cell_but : (j : ℕ) → (5 == j) ≡ false → (t : ℕ) (c : Cell Actor) → of_kind j (cell_labels m.stores m.hands idle ws t c) ≡ of_kind j (cell_labels m.stores m.hands idle [] t c)
  cell_but j x t c =
      pieces m.stores m.hands idle ws t c j
      ∙ ap (λ r. r ++ by_taker idle (λ w. of_kind j (status_labels m.stores w t c.status) ++ of_kind j (mails_labels m.stores w t c.outbox))) (stops_not m.stores j m.hands x ws t c.status ∙ sym (stops_not m.stores j m.hands x [] t c.status))
      ∙ sym (pieces m.stores m.hands idle [] t c j)

  but_stops : (j : ℕ) → j ≢ 5 → of_kind j (asked_in m idle ws) ≡ of_kind j (asked_in m idle [])
  but_stops j n =
      let f = cell_labels m.stores m.hands idle ws in
      let g = cell_labels m.stores m.hands idle [] in
      kind_append j head (cells ws)
      ∙ ap (λ r. of_kind j head ++ r) (filter_by_ticket f (is_kind j) m.first m.cells
      ∙ by_ticket_same (λ t c. of_kind j (f t c)) (λ t c. of_kind j (g t c)) (cell_but j (differ 5 j (λ e. n (sym e)))) m.first m.cells
      ∙ sym (filter_by_ticket g (is_kind j) m.first m.cells))
      ∙ sym (kind_append j head (cells []))

  stops_are : of_kind 5 (asked_in m idle ws) ≡ asked_in m None ws
  stops_are =
      let f = cell_labels m.stores m.hands idle ws in
      kind_append 5 head (cells ws)
      ∙ (λ i. by_idle idle i ++ (filter_by_ticket f (is_kind 5) m.first m.cells ∙ by_ticket_same (λ t c. of_kind 5 (f t c)) (cell_labels m.stores m.hands None ws) (λ t c. only_stops m.stores m.hands idle ws t c ∙ cell_stops m ws t c) m.first m.cells) i)
    where
      by_idle : (o : Option ℕ) → of_kind 5 (by_taker o (λ w. admit_labels w m.head ++ commit_labels w (m.first + length m.settled.results) m.commits)) ≡ []
      by_idle None = refl
      by_idle (Some w) = no_head m w

  about : in_order (asked_in m idle ws) ≡ lower 5 (asked_in m idle []) ++ (asked_in m None ws ++ upper 5 (asked_in m idle []))
  about =
      kinds_are 5 (asked_in m idle ws) (omega arith)
      ∙ (λ i. lower_same 5 (asked_in m idle ws) (asked_in m idle []) but_stops i ++ (stops_are i ++ upper_same 5 (asked_in m idle ws) (asked_in m idle []) but_stops i))

-- ---- without Stops it is what the index has, as the idle worker takes it
numbered_as : (w : ℕ) (ls : List Label) (ns : List ℕ) → flat_map (λ j. of_kind j (map (with_worker w) ls)) ns ≡ map (with_worker w) (flat_map (λ j. of_kind j ls) ns)
numbered_as w ls ns =
    flat_same (λ j. of_kind j (map (with_worker w) ls)) (λ j. map (with_worker w) (of_kind j ls)) (λ j. filter_of_map (is_kind j) (with_worker w) ls) ns
    ∙ sym (map_flat (with_worker w) (λ j. of_kind j ls) ns)

nobody_asks : (m : Kept) → asked_in m None [] ≡ []
nobody_asks m = by_ticket_none (cell_labels m.stores m.hands None []) (λ t c. by_done t c (is_done c)) m.first m.cells
  where
    by_done : (t : ℕ) (c : Cell Actor) (b : Bool) → (if b then [] else (stops_labels m.stores m.hands [] t c.status ++ [])) ≡ []
    by_done t c true = refl
    by_done t c false = ap (λ r. r ++ []) (no_workers m t c.status)

module _ (m : Kept) (ns : List ℕ) where
  idle_as : (o : Option ℕ) → flat_map (λ j. of_kind j (asked_in m o [])) ns ≡ by_taker o (λ w. map (with_worker w) (flat_map (λ j. of_kind j (all m)) ns))
  idle_as None = ap (λ ls. flat_map (λ j. of_kind j ls) ns) (nobody_asks m) ∙ flat_none (λ j. of_kind j []) (λ j. refl) ns
  idle_as (Some w) = ap (λ ls. flat_map (λ j. of_kind j ls) ns) (all_as m w [] (no_workers m)) ∙ numbered_as w (all m) ns

-- ---- and a part of the index
module _ {X Y : Type 0} (f : X → Y) where
  front_is : (xs : List X) (low high : List Y) → map f xs ≡ low ++ high → map f (take (length low) xs) ≡ low
  front_is xs [] high e = refl
  front_is [] (y ∷ low) high e = cc
  front_is (x ∷ xs) (y ∷ low) high e =
      let first : f x ≡ y = cc in
      let rest : map f xs ≡ low ++ high = cc in
      λ i. first i ∷ front_is xs low high rest i

  rest_is : (xs : List X) (low high : List Y) → map f xs ≡ low ++ high → map f (drop (length low) xs) ≡ high
  rest_is xs [] high e = e
  rest_is [] (y ∷ low) high e = cc
  rest_is (x ∷ xs) (y ∷ low) high e = let rest : map f xs ≡ low ++ high = cc in rest_is xs low high rest

-- what the idle worker takes of these, if there is one
abbrev pub taken : Option ℕ → List Ready → List Label
taken o xs = by_taker o (λ w. map (λ (r : Ready). with_worker w (by_none r)) xs)

taken_is : (o : Option ℕ) (xs : List Ready) (ls : List Label) → map by_none xs ≡ ls → taken o xs ≡ by_taker o (λ w. map (with_worker w) ls)
taken_is None xs ls e = refl
taken_is (Some w) xs ls e = sym (map_twice (with_worker w) by_none xs) ∙ ap (map (with_worker w)) e

-- the listing, where the index is parted at the Stops
pub listing_is : (m : Kept) (idle : Option ℕ) (ws : List ℕ) (index : List Ready) → IsIndex m index → (n : ℕ) → n ≡ length (lower 5 (all m)) → taken idle (take n index) ++ (asked_in m None ws ++ taken idle (drop n index)) ≡ in_order (asked_in m idle ws)
listing_is m idle ws index e n at =
    let low = lower 5 (all m) in
    let high = upper 5 (all m) in
    let p = (about_stops m index e).all in
    (λ i. taken idle (take (at i) index) ++ (asked_in m None ws ++ taken idle (drop (at i) index)))
    ∙ (λ i. taken_is idle (take (length low) index) low (front_is by_none index low high p) i ++ (asked_in m None ws ++ taken_is idle (drop (length low) index) high (rest_is by_none index low high p) i))
    ∙ sym (about m idle ws ∙ (λ i. idle_as m (tickets_from 0 5) idle i ++ (asked_in m None ws ++ idle_as m (tickets_from 6 4) idle i)))

-- What a label changes of the list.
use Rattle.std.proofs.Common.{◌≡◌, ◌≢◌, ◌∙◌, ◌⊎◌, inl, inr, ℕ, ◌+◌, ◌-◌, ◌<◌, ◌≤◌, ◌==◌, ◌&&◌, ◌||◌, Bool, true, false, not, List, [], ◌∷◌, ◌++◌, length, map, Option, Some, None, refl, sym, ap, subst, arith, append-nil, true≢false}
use Rattle.std.specs.Prelude.{flat_map, if◌then◌else◌, nat_lt, option_map, slice_get}
use Rattle.std.specs.List.{AllByRecursion}
use Rattle.std.proofs.lemmas.Bool.Decides.{nat_tests}
use Rattle.wave_base.specs.declared.numbers.Ticket.{Ticket}
use Rattle.wave_base.specs.Fold.{tickets_from}
use Rattle.event_cells.specs.declared.cell.Cell.{Cell}
use Rattle.host_map.specs.Stores.{Stores}
use Rattle.wave_states.specs.Labels.{Label, path_of, ticket_of}
use Rattle.wave_theory.proofs.Basics.{bool_cases, and_both, and_first, and_second, clash, none_not, not_same, number_cases, number_is, number_self}
use Rattle.wave_effects.specs.declared.actor.Actor.{Actor}
use Rattle.wave_machine.specs.declared.listed.Seen.{Seen}
use Rattle.wave_machine.specs.declared.ready.Ready.{Ready}
use Rattle.wave_effects.specs.Machines.{Kept}
use Rattle.wave_effects.specs.Apart.{Moves, new_cells}
use Rattle.wave_effects.specs.Sized.{IsNumbered}
use Rattle.wave_machine.specs.inner.Asking.{in_order, mail_labels}
use Rattle.wave_machine.specs.inner.Index.{AreOwn, IsEntering, IsHead, IsInner, IsOwn, RelistsNear, Renews, is_enter, mail_at, asked_as, asked_at, asked_by, asked_of, by_none, by_part, by_slot, cell_at, act_number, numbers_in, sent_at, sent_by, slot_at, slot_by, with_above, with_next, with_slot}
use Rattle.wave_machine.specs.inner.Updating.{KeepsMails, Taken, has_at, is_queue, next_at}
use Rattle.wave_machine.proofs.Renewed.{own_above, same_slots}
use Rattle.wave_machine.proofs.Near.{silent_slot}
use Rattle.wave_machine.proofs.Elsewhere.{asked_mail, grown_few, others_slot, own_slot}
use Rattle.wave_machine.proofs.ListingLists.{flat_none}
use Rattle.wave_machine.proofs.Ordering.{all_flat, all_map, flat_append, numbers_append, same_numbered}
use Rattle.wave_machine.proofs.Owned.{by_numbers, by_slots, cell_is, cell_there, own_next, own_slots, own_with, slice_some}
use Rattle.wave_machine.proofs.Relisted.{own_inner}
use Rattle.wave_machine.proofs.Ways.{SameWays, ways_alone, ways_born, ways_here}

equal : (a b : ℕ) → a ≡ b → (a == b) ≡ true
equal a b e = ap (λ n. a == n) (sym e) ∙ number_self a

less_is : (a b : ℕ) → a < b → nat_lt a b ≡ true
less_is a b l = grind (arith, nat_tests)

-- ---- a ticket that has more numbers than mails
module _ (stores : List Stores) (t : ℕ) where
  numbers_of : (c : Cell Actor) (n : ℕ) → c.outbox.sent ≤ n → ((j : ℕ) → c.outbox.sent < j → asked_as stores t c j ≡ []) → flat_map (asked_as stores t c) (tickets_from 0 (1 + n)) ≡ asked_of stores t c
  numbers_of c n low none =
      let f = asked_as stores t c in
      let first = 1 + c.outbox.sent in
      let rest = n - c.outbox.sent in
      let many : 1 + n ≡ first + rest = omega (arith, low) in
      let past : flat_map f (tickets_from (0 + first) rest) ≡ [] = same_numbered f (λ k. []) (0 + first) rest (λ k from below. none k (omega (arith, from))) ∙ flat_none (λ k. []) (λ k. refl) (tickets_from (0 + first) rest) in
      ap (λ k. flat_map f (tickets_from 0 k)) many
      ∙ ap (flat_map f) (numbers_append 0 first rest)
      ∙ flat_append f (tickets_from 0 first) (tickets_from (0 + first) rest)
      ∙ (λ i. by_numbers stores t c i ++ past i)
      ∙ append-nil (asked_of stores t c)

-- all of them are between an Admit and a Commit
pub inner_part : (m : Kept) → AllByRecursion IsInner (by_part m (asked_at m))
inner_part m = subst (AllByRecursion IsInner) (by_slots m) (all_flat IsInner (λ t. flat_map (slot_at m t) (tickets_from 0 (numbers_in (cell_at m t)))) of_ticket (tickets_from m.first (length m.cells)))
  where
    of_slot : (t k : ℕ) → AllByRecursion IsInner (slot_at m t k)
    of_slot t k = all_map IsInner (IsOwn t k) (λ l h. own_inner t k l h) (slot_at m t k) ((own_slots m).own t k)

    of_ticket : (t : ℕ) → AllByRecursion IsInner (flat_map (slot_at m t) (tickets_from 0 (numbers_in (cell_at m t))))
    of_ticket t = all_flat IsInner (slot_at m t) (of_slot t) (tickets_from 0 (numbers_in (cell_at m t)))

-- ---- a slot that is listed anew has what it asks for, and another one what it has
module _ (m : Kept) (part : ℕ → ℕ → List Label) (u j : ℕ) where
  pub slot_or : (t k : ℕ) → ((u ≡ t → j ≡ k → ⊥) → part u j ≡ slot_at m u j) → with_slot part t k (slot_at m t k) u j ≡ slot_at m u j
  slot_or t k h = by_test ((u == t) && (j == k)) refl
    where
      by_test : (b : Bool) → ((u == t) && (j == k)) ≡ b → (if b then slot_at m t k else part u j) ≡ slot_at m u j
      by_test true e = λ i. slot_at m (sym (number_is u t (and_first (u == t) (j == k) e)) i) (sym (number_is j k (and_second (u == t) (j == k) e)) i)
      by_test false e = h (λ a b. clash ((u == t) && (j == k)) (and_both (u == t) (j == k) (equal u t a) (equal j k b)) e)

  pub above_or : (t n : ℕ) → ((u ≡ t → n < j → ⊥) → part u j ≡ slot_at m u j) → with_above m t n part u j ≡ slot_at m u j
  above_or t n h = by_test ((u == t) && nat_lt n j) refl
    where
      by_test : (b : Bool) → ((u == t) && nat_lt n j) ≡ b → (if b then slot_at m t j else part u j) ≡ slot_at m u j
      by_test true e = λ i. slot_at m (sym (number_is u t (and_first (u == t) (nat_lt n j) e)) i) j
      by_test false e = h (λ a l. clash ((u == t) && nat_lt n j) (and_both (u == t) (nat_lt n j) (equal u t a) (less_is n j l)) e)

  pub next_or : (next : Option ℕ) → ((j ≡ 0 → next ≡ Some u → ⊥) → part u j ≡ slot_at m u j) → with_next m next part u j ≡ slot_at m u j
  next_or None h = h (λ z e. none_not e)
  next_or (Some t) h = slot_or t 0 (λ d. h (λ z e. d (sym (same t u e)) z))
    where
      same : (a b : ℕ) → Some a ≡ Some b → a ≡ b
      same a b e = cc

module _ (m m' : Kept) (l : Label) (more : ℕ) (moves : Moves m m' l more) (grows : new_cells l.act ≡ 1 → ticket_of l.act ≡ m.first + length m.cells) where
  -- an admitted ticket had nothing before
  wider : by_part m' (asked_at m) ≡ by_part m (asked_at m)
  wider = elim (number_cases (new_cells l.act) 1) [ inl one ↦ came one | inr d ↦ stayed (not_same (new_cells l.act) 1 d) ]
    where
      came : new_cells l.act ≡ 1 → by_part m' (asked_at m) ≡ by_part m (asked_at m)
      came one =
          let many = moves.as_many in
          let n : length m'.cells ≡ length m.cells + 1 = omega (arith, many, one) in
          let t = m.first + length m.cells in
          let place : t - m.first ≡ length m.cells = omega arith in
          let none : asked_at m t ≡ [] = ap (asked_by m.stores t) (cell_is m t (omega arith) ∙ ap (slice_get m.cells) place ∙ nothing m.cells) in
          (λ i. flat_map (asked_at m) (tickets_from (moves.others.first i) (n i)))
          ∙ ap (flat_map (asked_at m)) (numbers_append m.first (length m.cells) 1)
          ∙ flat_append (asked_at m) (tickets_from m.first (length m.cells)) (tickets_from t 1)
          ∙ ap (λ r. by_part m (asked_at m) ++ (r ++ [])) none
          ∙ append-nil (by_part m (asked_at m))
        where
          nothing : {X : Type 0} (xs : List X) → slice_get xs (length xs) ≡ None
          nothing [] = refl
          nothing (x ∷ xs) = nothing xs

      stayed : new_cells l.act ≢ 1 → by_part m' (asked_at m) ≡ by_part m (asked_at m)
      stayed d =
          let many = moves.as_many in
          let few = grown_few l.act in
          let n : length m'.cells ≡ length m.cells = omega (arith, many, few, d) in
          λ i. flat_map (asked_at m) (tickets_from (moves.others.first i) (n i))

  module _ (keeps : KeepsMails m m' l) (numbered : (i : ℕ) (c : Cell Actor) → slice_get m.cells i ≡ Some c → IsNumbered c.outbox) where
    -- past the mails that were sent there is nothing
    past_sent : (u : ℕ) (c : Cell Actor) → cell_at m u ≡ Some c → (j : ℕ) → c.outbox.sent < j → asked_as m.stores u c j ≡ []
    past_sent u c e j low =
        asked_mail m.stores u c j (λ z. omega (arith, z, low))
        ∙ ap (mail_labels m.stores 0 u j) ((numbered (u - m.first) c (cell_there m u c e).at).below j low)

    -- no ticket has sent fewer mails
    sends_more : (u : ℕ) (c c' : Cell Actor) → cell_at m u ≡ Some c → cell_at m' u ≡ Some c' → c.outbox.sent ≤ c'.outbox.sent
    sends_more u c c' e e' =
        let first = moves.others.first in
        let there = cell_there m u c e in
        let there' = cell_there m' u c' e' in
        let low = there.low in
        let here : m.first + (u - m.first) ≡ u = omega (arith, low) in
        let at' : slice_get m'.cells (u - m.first) ≡ Some c' = ap (λ n. slice_get m'.cells (u - n)) (sym first) ∙ there'.at in
        elim (number_cases u (ticket_of l.act)) [
          | inl same ↦ keeps.sent (u - m.first) c c' (here ∙ same) there.at at'
          | inr d ↦ (let as_sent = (moves.others.cells (u - m.first) c c' (λ z. not_same u (ticket_of l.act) d (sym here ∙ z)) there.at at').sent in omega (arith, as_sent))
        ]

    -- by number there is nothing more where a ticket has more numbers
    wider_at : (u : ℕ) → u < m'.first + length m'.cells → flat_map (slot_at m u) (tickets_from 0 (numbers_in (cell_at m' u))) ≡ asked_at m u
    wider_at u high = by_cell (cell_at m u) refl
      where
        by_cell : (o : Option (Cell Actor)) → cell_at m u ≡ o → flat_map (λ k. slot_by m.stores u k o) (tickets_from 0 (numbers_in (cell_at m' u))) ≡ asked_by m.stores u o
        by_cell None e = flat_none (λ k. slot_by m.stores u k None) (λ k. refl) (tickets_from 0 (numbers_in (cell_at m' u)))
        by_cell (Some c) e =
            let first = moves.others.first in
            let there = cell_there m u c e in
            let low = there.low in
            let low' : m'.first ≤ u = omega (arith, low, first) in
            let some = slice_some m'.cells (u - m'.first) (omega (arith, low', high)) in
            let at' : cell_at m' u ≡ Some some.0 = cell_is m' u low' ∙ some.1 in
            ap (λ o. flat_map (asked_as m.stores u c) (tickets_from 0 (numbers_in o))) at'
            ∙ numbers_of m.stores u c some.0.outbox.sent (sends_more u c some.0 e at') (past_sent u c e)

    wider_slots : by_slot m' (slot_at m) ≡ by_part m (asked_at m)
    wider_slots =
        same_numbered (λ t. flat_map (slot_at m t) (tickets_from 0 (numbers_in (cell_at m' t)))) (asked_at m) m'.first (length m'.cells) (λ u low high. wider_at u high) ∙ wider

    none_above : (t j : ℕ) → sent_at m t < j → slot_at m t j ≡ []
    none_above t j low = by_cell (cell_at m t) refl low
      where
        by_cell : (o : Option (Cell Actor)) → cell_at m t ≡ o → sent_at m t < j → slot_by m.stores t j o ≡ []
        by_cell None e past = refl
        by_cell (Some c) e past = past_sent t c e j (subst (λ o. sent_by o < j) e past)

    -- where all goes the same ways each slot has what it asks for
    slots_are : (moved : Bool) → SameWays m m' l moved
        → (u j : ℕ) → m'.first ≤ u → u < m'.first + length m'.cells → (u ≡ ticket_of l.act → sent_at m (ticket_of l.act) < j → ⊥) → (u ≡ ticket_of l.act → j ≡ act_number l.act → ⊥) → (u ≡ ticket_of l.act → j ≡ 0 → ⊥)
        → (j ≡ 0 → next_at (path_of l.act) (slice_get m.stores l.host) ≡ Some u → ⊥) → (j ≡ 0 → next_at (path_of l.act) (slice_get m'.stores l.host) ≡ Some u → ⊥) → (moved && is_enter l.host (path_of l.act) (mail_at m' u j)) ≡ false → slot_at m u j ≡ slot_at m' u j
    slots_are moved ways u j low high above own status before after not = elim (number_cases u (ticket_of l.act)) [
      | inl e ↦
          let t = ticket_of l.act in
          ap (λ n. slot_at m n j) e
          ∙ own_slot m m' l more moves moved ways keeps j (subst (λ n. m'.first ≤ n) e low) (subst (λ n. n < m'.first + length m'.cells) e high) (status e) (own e) (not_less (sent_at m t) j (above e)) (ap (λ n. moved && is_enter l.host (path_of l.act) (mail_at m' n j)) (sym e) ∙ not)
          ∙ ap (λ n. slot_at m' n j) (sym e)
      | inr d ↦ others_slot m m' l more moves moved ways grows u j low high (not_same u (ticket_of l.act) d) before after not
    ]
      where
        not_less : (a b : ℕ) → (a < b → ⊥) → b ≤ a
        not_less a b h = omega (arith, h)

    abbrev before : Option ℕ
    before = next_at (path_of l.act) (slice_get m.stores l.host)

    abbrev after : Option ℕ
    after = next_at (path_of l.act) (slice_get m'.stores l.host)

    -- what is listed anew, one after the other
    abbrev status_new : ℕ → ℕ → List Label
    status_new = with_slot (slot_at m) (ticket_of l.act) 0 (slot_at m' (ticket_of l.act) 0)

    abbrev own_new : ℕ → ℕ → List Label
    own_new = with_slot status_new (ticket_of l.act) (act_number l.act) (slot_at m' (ticket_of l.act) (act_number l.act))

    abbrev mails_new : ℕ → ℕ → List Label
    mails_new = with_above m' (ticket_of l.act) (sent_at m (ticket_of l.act)) own_new

    abbrev before_new : ℕ → ℕ → List Label
    before_new = with_next m' before mails_new

    abbrev all_new : ℕ → ℕ → List Label
    all_new = with_next m' after before_new

    all_new_is : (moved : Bool) → SameWays m m' l moved → (u : ℕ) → m'.first ≤ u → u < m'.first + length m'.cells → (j : ℕ) → (moved && is_enter l.host (path_of l.act) (mail_at m' u j)) ≡ false → all_new u j ≡ slot_at m' u j
    all_new_is moved ways u low high j not =
        next_or m' before_new u j after (λ not_after. next_or m' mails_new u j before (λ not_before. above_or m' own_new u j (ticket_of l.act) (sent_at m (ticket_of l.act)) (λ not_above.
        slot_or m' status_new u j (ticket_of l.act) (act_number l.act) (λ not_own. slot_or m' (slot_at m) u j (ticket_of l.act) 0 (λ not_status.
        slots_are moved ways u j low high not_above not_own not_status not_before not_after not)))))

    own_all : AreOwn all_new
    own_all =
        let t = ticket_of l.act in
        own_next m' after before_new (own_next m' before mails_new (own_above m' own_new t (sent_at m t) (own_with m' status_new t (act_number l.act) (own_with m' (slot_at m) t 0 (own_slots m)))))

    near_by : (asked : Bool) → (asked ≡ false → slot_at m (ticket_of l.act) 0 ≡ []) → (h : List Label) → IsHead h → (moved : Bool) → SameWays m m' l moved → (old mid new : List Ready)
        → RelistsNear m' (ticket_of l.act) (act_number l.act) (sent_at m (ticket_of l.act)) asked before after old mid → Renews m' (IsEntering m' l moved) mid new
        → map by_none old ≡ in_order (h ++ by_part m (asked_at m)) → map by_none new ≡ in_order (h ++ by_part m' (asked_at m'))
    near_by asked none h head moved ways old mid new r rest e =
        let x = rest.parts h head all_new own_all (r.parts h head (slot_at m) (own_slots m) none (none_above (ticket_of l.act)) keeps.number (e ∙ ap (λ ls. in_order (h ++ ls)) (sym wider_slots))) in
        x.2 ∙ ap (λ ls. in_order (h ++ ls)) (same_slots m' x.0 (slot_at m') (λ u j low high within. each x.0 u j low high (x.1.each u j)) ∙ by_slots m')
      where
        each : (later : ℕ → ℕ → List Label) (u j : ℕ) → m'.first ≤ u → u < m'.first + length m'.cells → (later u j ≡ slot_at m' u j) ⊎ ((later u j ≡ all_new u j) × (IsEntering m' l moved u j → ⊥)) → later u j ≡ slot_at m' u j
        each later u j low high (inl is) = is
        each later u j low high (inr old) = old.0 ∙ all_new_is moved ways u low high j (elim (bool_cases (moved && is_enter l.host (path_of l.act) (mail_at m' u j))) [ inl must ↦ absurd (old.1 must) | inr need_not ↦ need_not ])

-- where the context stays, or stays away, and at a Queue, all goes the same ways
pub same_ways : (m m' : Kept) (l : Label) (seen : Seen) (more : ℕ) → Taken m m' l seen more → (same : Bool) → (same ≡ true → has_at (path_of l.act) (slice_get m'.stores l.host) ≡ seen.here) → (same || is_queue l.act) ≡ true → SameWays m m' l false
same_ways m m' l seen more taken true stays near = ways_here m m' l more taken.moves (stays refl ∙ taken.sees.here)
same_ways m m' l seen more taken false stays queue = elim (taken.born queue) [ inl here ↦ ways_here m m' l more taken.moves here | inr nowhere ↦ ways_born m m' l more taken.moves nowhere ]

-- and all but the Enters to it where it comes or goes
pub other_ways : (m m' : Kept) (l : Label) (seen : Seen) (more : ℕ) → Taken m m' l seen more → (same : Bool) → (has_at (path_of l.act) (slice_get m'.stores l.host) ≡ seen.here → same ≡ true) → (same || is_queue l.act) ≡ false → SameWays m m' l true
other_ways m m' l seen more taken true stays near = absurd (true≢false near)
other_ways m m' l seen more taken false stays near = ways_alone m m' l more taken.moves (taken.alone (λ here. true≢false (sym (stays (here ∙ sym taken.sees.here)))))

pub ways_by : (m m' : Kept) (l : Label) (seen : Seen) (more : ℕ) → Taken m m' l seen more → (moved same : Bool) → (same ≡ true → has_at (path_of l.act) (slice_get m'.stores l.host) ≡ seen.here)
    → (has_at (path_of l.act) (slice_get m'.stores l.host) ≡ seen.here → same ≡ true) → moved ≡ not (same || is_queue l.act) → SameWays m m' l moved
ways_by m m' l seen more taken moved same stays back is = by_near (same || is_queue l.act) refl is
  where
    by_near : (b : Bool) → (same || is_queue l.act) ≡ b → moved ≡ not b → SameWays m m' l moved
    by_near true near is = subst (SameWays m m' l) (sym is) (same_ways m m' l seen more taken same stays near)
    by_near false near is = subst (SameWays m m' l) (sym is) (other_ways m m' l seen more taken same back near)

pub near_is : (m m' : Kept) (l : Label) (seen : Seen) (more : ℕ) → Taken m m' l seen more → (h : List Label) → IsHead h → (moved : Bool) → SameWays m m' l moved → (old mid new : List Ready)
    → RelistsNear m' (ticket_of l.act) (act_number l.act) seen.sent seen.asked (option_map (λ (t : Ticket). t.0) seen.next) (next_at (path_of l.act) (slice_get m'.stores l.host)) old mid → Renews m' (IsEntering m' l moved) mid new
    → map by_none old ≡ in_order (h ++ by_part m (asked_at m)) → map by_none new ≡ in_order (h ++ by_part m' (asked_at m'))
near_is m m' l seen more taken h head moved ways old mid new r =
    let after = next_at (path_of l.act) (slice_get m'.stores l.host) in
    near_by m m' l more taken.moves taken.grows taken.mails taken.numbered seen.asked (λ e. silent_slot m (ticket_of l.act) (sym taken.sees.asked ∙ e)) h head moved ways old mid new
    (subst (λ o. RelistsNear m' (ticket_of l.act) (act_number l.act) (sent_at m (ticket_of l.act)) seen.asked o after old mid) taken.sees.next
    (subst (λ n. RelistsNear m' (ticket_of l.act) (act_number l.act) n seen.asked (option_map (λ (t : Ticket). t.0) seen.next) after old mid) taken.sees.sent r))

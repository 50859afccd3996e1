-- What a ticket asks for is its own, and as much as its share.
use Rattle.std.proofs.Common.{◌≡◌, ◌≢◌, ◌∙◌, ◌⊎◌, inl, inr, ℕ, zero, suc, ◌&&◌, ◌+◌, ◌-◌, ◌<◌, ◌≤◌, ◌==◌, Bool, true, false, List, [], ◌∷◌, ◌++◌, length, map, take, drop, Option, Some, None, refl, sym, ap, subst, arith, append_assoc, append-nil}
use Rattle.std.specs.Prelude.{flat_map, if◌then◌else◌, nat_lt, slice_get}
use Rattle.std.specs.List.{AllByRecursion}
use Rattle.std.proofs.lemmas.Bool.Decides.{nat_tests}
use Rattle.std.proofs.lemmas.Option.{slice_get_within}
use Rattle.wave_base.specs.declared.path.Path.{Path}
use Rattle.wave_base.specs.Fold.{tickets_from}
use Rattle.wave_labels.specs.declared.label.Label as program
use Rattle.event_cells.specs.declared.cell.Cell.{Cell}
use Rattle.event_cells.specs.declared.outbox.Envelope.{Envelope}
use Rattle.event_cells.specs.declared.status.Status.{Status}
use Rattle.event_cells.specs.declared.status.Status.TheVariants as status
use Rattle.event_cells.specs.Cells.{is_over}
use Rattle.event_cells.specs.Keeps.{is_empty, mail_in}
use Rattle.host_map.specs.Stores.{Stores}
use Rattle.migration_core.specs.declared.mail.Letter.{Letter}
use Rattle.migration_core.specs.declared.mail.Letter.TheVariants as letter
use Rattle.wave_states.specs.Labels.{Act, Label, Grant, ticket_of}
use Rattle.wave_states.specs.Steps.{Route, Deliver, Born, Wait, Forward}
use Rattle.wave_theory.specs.Listed.{IsIn, kind_rank}
use Rattle.wave_theory.proofs.Basics.{differ, none_not, not_same, number_cases, number_self}
use Rattle.wave_effects.specs.declared.actor.Actor.{Actor}
use Rattle.wave_machine.specs.declared.ready.Ready.{Ready}
use Rattle.wave_effects.specs.Ending.{is_done}
use Rattle.wave_effects.specs.Machines.{Kept}
use Rattle.wave_machine.specs.inner.Asking.{enter_act, grant_labels, in_order, is_next, label_at, labels_in, mail_act, mail_labels, mails_labels, route_at, start_labels, status_labels}
use Rattle.wave_effects.specs.Keeping.{place_in}
use Rattle.wave_machine.specs.inner.Done.{AreDone}
use Rattle.wave_machine.specs.inner.Index.{AreOwn, Below, From, IsBelow, IsFrom, IsOwn, Lists, asked_as, asked_at, asked_by, asked_of, by_none, by_part, by_slot, cell_at, kinds_at, act_number, numbers_in, share_of, slot_at, slot_by, weight_of, with_next, with_slot}
use Rattle.wave_machine.proofs.ListingLists.{flat_none, flat_same}
use Rattle.wave_machine.proofs.Ordering.{all_flat, all_map, all_numbered, flat_append, middle_of, numbers_append, same_numbered}

-- ---- whose they are
abbrev OwnAct : ℕ → ℕ → Option Act → Type 0
OwnAct t k None = Unit {0}
OwnAct t k (Some a) = (ticket_of a ≡ t) × ((act_number a ≡ k) × IsIn (kinds_at k) (kind_rank a))

own_label : (t k h : ℕ) (o : Option Act) → OwnAct t k o → AllByRecursion (IsOwn t k) (label_at 0 h o)
own_label t k h None a = tt
own_label t k h (Some x) a = (record { worker = refl; ticket = a.0; number = a.1.0; kind = a.1.1 }, tt)

own_enter : (t k : ℕ) (p : Path) (r : Route) → OwnAct t (suc k) (enter_act t (suc k) p r)
own_enter t k p Deliver = (refl, (refl, inl refl))
own_enter t k p Born = (refl, (refl, inl refl))
own_enter t k p Wait = tt
own_enter t k p (Forward g) = (refl, (refl, inr (inr (inr (inl refl)))))

few_at : (h : ℕ) (o : Option Act) → length (label_at 0 h o) ≤ 1
few_at h None = omega arith
few_at h (Some a) = omega arith

module _ (stores : List Stores) (t : ℕ) where
  own_letter : (k host : ℕ) (p : Path) (l : Letter) → OwnAct t (suc k) (mail_act stores t (suc k) host p l)
  own_letter k host p (letter.Enter number followed peek) = own_enter t k p (route_at (slice_get stores host) p followed)
  own_letter k host p letter.Visit = (refl, (refl, inr (inl refl)))
  own_letter k host p letter.Back = (refl, (refl, inr (inl refl)))
  own_letter k host p letter.Release = (refl, (refl, inr (inr (inl refl))))
  own_letter k host p (letter.Transfer e) = (refl, (refl, inr (inr (inr (inr (inl refl))))))

  pub own_mail : (k : ℕ) (o : Option Envelope) → AllByRecursion (IsOwn t (suc k)) (mail_labels stores 0 t (suc k) o)
  own_mail k None = tt
  own_mail k (Some e) = own_label t (suc k) e.to.0 (mail_act stores t (suc k) e.to.0 e.path e.letter) (own_letter k e.to.0 e.path e.letter)

  few_mail : (k : ℕ) (o : Option Envelope) → length (mail_labels stores 0 t k o) ≤ 1
  few_mail k None = omega arith
  few_mail k (Some e) = few_at e.to.0 (mail_act stores t k e.to.0 e.path e.letter)

  pub own_status : (st : Status) → AllByRecursion (IsOwn t 0) (status_labels stores 0 t st)
  own_status status.Travelling = tt
  own_status (status.Waiting p) = by_place (place_in stores p)
    where
      by_next : (h : ℕ) (b : Bool) → AllByRecursion (IsOwn t 0) (if b then record { worker = 0; host = h; act = Grant t p } ∷ [] else [])
      by_next h true = (record { worker = refl; ticket = refl; number = refl; kind = inl refl }, tt)
      by_next h false = tt

      by_place : (o : Option ℕ) → AllByRecursion (IsOwn t 0) (grant_labels stores 0 t p o)
      by_place None = tt
      by_place (Some h) = by_next h (is_next t p (slice_get stores h))
  own_status (status.Ready p) = by_place (place_in stores p)
    where
      by_place : (o : Option ℕ) → AllByRecursion (IsOwn t 0) (start_labels stores 0 t p o)
      by_place None = tt
      by_place (Some h) = (record { worker = refl; ticket = refl; number = refl; kind = inr (inl refl) }, tt)
  own_status (status.Running p) = tt
  own_status status.Ended = tt

  few_status : (st : Status) → length (status_labels stores 0 t st) ≤ 1
  few_status status.Travelling = omega arith
  few_status (status.Waiting p) = by_place (place_in stores p)
    where
      by_next : (h : ℕ) (b : Bool) → length {A = Label} (if b then record { worker = 0; host = h; act = Grant t p } ∷ [] else []) ≤ 1
      by_next h true = omega arith
      by_next h false = omega arith

      by_place : (o : Option ℕ) → length (grant_labels stores 0 t p o) ≤ 1
      by_place None = omega arith
      by_place (Some h) = by_next h (is_next t p (slice_get stores h))
  few_status (status.Ready p) = by_place (place_in stores p)
    where
      by_place : (o : Option ℕ) → length (start_labels stores 0 t p o) ≤ 1
      by_place None = omega arith
      by_place (Some h) = omega arith
  few_status (status.Running p) = omega arith
  few_status status.Ended = omega arith

  pub own_as : (k : ℕ) (c : Cell Actor) → AllByRecursion (IsOwn t k) (asked_as stores t c k)
  own_as zero c = own_status c.status
  own_as (suc k) c = own_mail k (mail_in c.outbox.mails (suc k))

  few_as : (k : ℕ) (c : Cell Actor) → length (asked_as stores t c k) ≤ 1
  few_as zero c = few_status c.status
  few_as (suc k) c = few_mail (suc k) (mail_in c.outbox.mails (suc k))

  -- by number, what the status asks for and what the mails ask for
  pub by_numbers : (c : Cell Actor) → flat_map (asked_as stores t c) (tickets_from 0 (1 + c.outbox.sent)) ≡ asked_of stores t c
  by_numbers c =
      let more : 1 + c.outbox.sent ≡ suc c.outbox.sent = omega arith in
      ap (λ n. flat_map (asked_as stores t c) (tickets_from 0 n)) more
      ∙ ap (λ r. status_labels stores 0 t c.status ++ r) (same_numbered (asked_as stores t c) (λ k. mail_labels stores 0 t k (mail_in c.outbox.mails k)) 1 c.outbox.sent each)
    where
      each : (k : ℕ) → 1 ≤ k → k < 1 + c.outbox.sent → asked_as stores t c k ≡ mail_labels stores 0 t k (mail_in c.outbox.mails k)
      each zero low high = absurd (omega (arith, low))
      each (suc k) low high = refl

  pub own_asked : (c : Cell Actor) → AllByRecursion (λ (l : Label). ticket_of l.act ≡ t) (asked_of stores t c)
  own_asked c = subst (AllByRecursion (λ (l : Label). ticket_of l.act ≡ t)) (by_numbers c)
      (all_flat (λ (l : Label). ticket_of l.act ≡ t) (asked_as stores t c) (λ k. all_map (λ (l : Label). ticket_of l.act ≡ t) (IsOwn t k) (λ l h. h.ticket) (asked_as stores t c k) (own_as k c)) (tickets_from 0 (1 + c.outbox.sent)))

  -- what is done asks for nothing
  pub done_asks : (c : Cell Actor) → is_done c ≡ true → asked_of stores t c ≡ []
  done_asks c d = by_status c.status d
    where
      no_mails : (ms : List (ℕ × Envelope)) → is_empty ms ≡ true → flat_map (λ k. mail_labels stores 0 t k (mail_in ms k)) (tickets_from 1 c.outbox.sent) ≡ []
      no_mails [] e = flat_none (λ k. mail_labels stores 0 t k (mail_in [] k)) (λ k. refl) (tickets_from 1 c.outbox.sent)
      no_mails (m ∷ ms) e = cc

      by_status : (st : Status) → (is_over st && is_empty c.outbox.mails) ≡ true → status_labels stores 0 t st ++ mails_labels stores 0 t c.outbox ≡ []
      by_status status.Ended e = no_mails c.outbox.mails e
      by_status status.Travelling e = cc
      by_status (status.Waiting p) e = cc
      by_status (status.Ready p) e = cc
      by_status (status.Running p) e = cc

pub few_in : (o : Option program.Label) → length (labels_in o) ≤ 1
few_in None = omega arith
few_in (Some l) = omega arith

-- ---- the cell of a ticket
pub record IsThere (m : Kept) (t : ℕ) (c : Cell Actor) : Type 0 where
  pub low : m.first ≤ t
  pub at : slice_get m.cells (t - m.first) ≡ Some c
  pub within : t - m.first < length m.cells

not_less : (a b : ℕ) → nat_lt a b ≡ false → b ≤ a
not_less a b e = grind (arith, nat_tests)

low_not : (a b : ℕ) → b ≤ a → nat_lt a b ≡ false
low_not a b l = grind (arith, nat_tests)

pub cell_there : (m : Kept) (t : ℕ) (c : Cell Actor) → cell_at m t ≡ Some c → IsThere m t c
cell_there m t c e = by_test (nat_lt t m.first) refl e
  where
    by_test : (b : Bool) → nat_lt t m.first ≡ b → (if b then None else slice_get m.cells (t - m.first)) ≡ Some c → IsThere m t c
    by_test true l e = absurd (none_not e)
    by_test false l e = record { low = not_less t m.first l; at = e; within = slice_get_within m.cells (t - m.first) c e }

pub cell_is : (m : Kept) (t : ℕ) → m.first ≤ t → cell_at m t ≡ slice_get m.cells (t - m.first)
cell_is m t l = ap (λ b. if b then None else slice_get m.cells (t - m.first)) (low_not t m.first l)

pub slice_some : {X : Type 0} (xs : List X) (i : ℕ) → i < length xs → (x : X) × (slice_get xs i ≡ Some x)
slice_some [] i l = absurd (omega (arith, l))
slice_some (x ∷ xs) zero l = (x, refl)
slice_some (x ∷ xs) (suc i) l = slice_some xs i (omega (arith, l))

pub own_slot : (m : Kept) (t k : ℕ) → AllByRecursion (IsOwn t k) (slot_at m t k)
own_slot m t k = by_cell (cell_at m t)
  where
    by_cell : (o : Option (Cell Actor)) → AllByRecursion (IsOwn t k) (slot_by m.stores t k o)
    by_cell None = tt
    by_cell (Some c) = own_as m.stores t k c

pub one_slot : (m : Kept) (t k : ℕ) → length (slot_at m t k) ≤ 1
one_slot m t k = by_cell (cell_at m t)
  where
    by_cell : (o : Option (Cell Actor)) → length (slot_by m.stores t k o) ≤ 1
    by_cell None = omega arith
    by_cell (Some c) = few_as m.stores t k c

pub own_slots : (m : Kept) → AreOwn (slot_at m)
own_slots m = record { own = own_slot m; one = one_slot m }

-- what all slots ask for is what all tickets ask for
pub by_slots : (m : Kept) → by_slot m (slot_at m) ≡ by_part m (asked_at m)
by_slots m = flat_same (λ t. flat_map (slot_at m t) (tickets_from 0 (numbers_in (cell_at m t)))) (asked_at m) (λ t. by_cell t (cell_at m t)) (tickets_from m.first (length m.cells))
  where
    by_cell : (t : ℕ) (o : Option (Cell Actor)) → flat_map (λ k. slot_by m.stores t k o) (tickets_from 0 (numbers_in o)) ≡ asked_by m.stores t o
    by_cell t None = refl
    by_cell t (Some c) = by_numbers m.stores t c

-- ---- one slot that has something else
module _ (part : ℕ → ℕ → List Label) (t k : ℕ) (ls : List Label) where
  pub at_slot : with_slot part t k ls t k ≡ ls
  at_slot = ap (λ b. if b then ls else part t k) (λ i. number_self t i && number_self k i)

  pub other_ticket : (u j : ℕ) → u ≢ t → with_slot part t k ls u j ≡ part u j
  other_ticket u j d = ap (λ b. if b && (j == k) then ls else part u j) (differ u t d)

  pub other_number : (j : ℕ) → j ≢ k → with_slot part t k ls t j ≡ part t j
  other_number j d = ap (λ b. if b then ls else part t j) (λ i. number_self t i && differ j k d i)

  -- it is this one, or another
  pub slot_or : (P : ℕ → ℕ → List Label → Type 0) (u j : ℕ) → P t k ls → P u j (part u j) → P u j (with_slot part t k ls u j)
  slot_or P u j here there = by_ticket (number_cases u t)
    where
      by_number : u ≡ t → (j ≡ k) ⊎ ((j == k) ≡ false) → P u j (with_slot part t k ls u j)
      by_number e (inl f) = subst (λ n. P n j (with_slot part t k ls n j)) (sym e) (subst (λ n. P t n (with_slot part t k ls t n)) (sym f) (subst (P t k) (sym at_slot) here))
      by_number e (inr d) = subst (λ n. P n j (with_slot part t k ls n j)) (sym e) (subst (P t j) (sym (other_number j (not_same j k d))) (subst (λ n. P n j (part n j)) e there))

      by_ticket : (u ≡ t) ⊎ ((u == t) ≡ false) → P u j (with_slot part t k ls u j)
      by_ticket (inl e) = by_number e (number_cases j k)
      by_ticket (inr d) = subst (P u j) (sym (other_ticket u j (not_same u t d))) there

pub own_with : (m : Kept) (part : ℕ → ℕ → List Label) (t k : ℕ) → AreOwn part → AreOwn (with_slot part t k (slot_at m t k))
own_with m part t k own = record {
  own = λ u j. slot_or part t k (slot_at m t k) (λ u j ls. AllByRecursion (IsOwn u j) ls) u j (own_slot m t k) (own.own u j);
  one = λ u j. slot_or part t k (slot_at m t k) (λ u j ls. length ls ≤ 1) u j (one_slot m t k) (own.one u j);
}

pub own_next : (m : Kept) (next : Option ℕ) (part : ℕ → ℕ → List Label) → AreOwn part → AreOwn (with_next m next part)
own_next m None part own = own
own_next m (Some t) part own = own_with m part t 0 own

-- ---- the tickets before one, and those behind it; the numbers before one, and those behind it
module _ (part : ℕ → ℕ → List Label) (own : AreOwn part) where
  own_row : (u n : ℕ) → AllByRecursion (λ (l : Label). ticket_of l.act ≡ u) (flat_map (part u) (tickets_from 0 n))
  own_row u n = all_flat (λ (l : Label). ticket_of l.act ≡ u) (part u) (λ j. all_map (λ (l : Label). ticket_of l.act ≡ u) (IsOwn u j) (λ l h. h.ticket) (part u j) (own.own u j)) (tickets_from 0 n)

  pub numbers_below : (t k a n : ℕ) → a + n ≤ k → Below t k (flat_map (part t) (tickets_from a n))
  numbers_below t k a n l = all_numbered (IsBelow t k) (part t) a n (λ j low high. all_map (IsBelow t k) (IsOwn t j) (λ x h i. record { ticket = let it = h.ticket in omega (arith, it); number = λ same. let is = h.number in omega (arith, is, high, l) }) (part t j) (own.own t j))

  pub numbers_from : (t k a n : ℕ) → k ≤ a → From t k (flat_map (part t) (tickets_from a n))
  numbers_from t k a n l = all_numbered (IsFrom t k) (part t) a n (λ j low high. all_map (IsFrom t k) (IsOwn t j) (λ x h i. record { ticket = let it = h.ticket in omega (arith, it); number = λ same. let is = h.number in omega (arith, is, low, l) }) (part t j) (own.own t j))

-- rows of tickets
module _ (row : ℕ → List Label) (own : (u : ℕ) → AllByRecursion (λ (l : Label). ticket_of l.act ≡ u) (row u)) where
  pub tickets_below : (t k a n : ℕ) → a + n ≤ t → Below t k (flat_map row (tickets_from a n))
  tickets_below t k a n l = all_numbered (IsBelow t k) row a n (λ u low high. all_map (IsBelow t k) (λ (x : Label). ticket_of x.act ≡ u) (λ x h i. record { ticket = omega (arith, h, high, l); number = λ same. absurd (omega (arith, h, high, l, same)) }) (row u) (own u))

  pub tickets_behind : (t a n : ℕ) → t < a → From (t + 1) 0 (flat_map row (tickets_from a n))
  tickets_behind t a n l = all_numbered (IsFrom (t + 1) 0) row a n (λ u low high. all_map (IsFrom (t + 1) 0) (λ (x : Label). ticket_of x.act ≡ u) (λ x h i. record { ticket = omega (arith, h, low, l); number = λ same. omega arith }) (row u) (own u))

-- ---- a ticket that is there
module _ (m : Kept) (t : ℕ) (c : Cell Actor) (at : cell_at m t ≡ Some c) where
  abbrev numbers : ℕ
  numbers = 1 + c.outbox.sent

  abbrev row : (ℕ → ℕ → List Label) → ℕ → List Label
  row part u = flat_map (part u) (tickets_from 0 (numbers_in (cell_at m u)))

  pub before : (ℕ → ℕ → List Label) → List Label
  before part = flat_map (row part) (tickets_from m.first (t - m.first))

  pub behind : (ℕ → ℕ → List Label) → List Label
  behind part = flat_map (row part) (tickets_from (suc t) (length m.cells - suc (t - m.first)))

  pub split_at : (part : ℕ → ℕ → List Label) → by_slot m part ≡ before part ++ (flat_map (part t) (tickets_from 0 numbers) ++ behind part)
  unfolding before behind
  split_at part =
      let there = cell_there m t c at in
      let low = there.low in
      let here : m.first + (t - m.first) ≡ t = omega (arith, low) in
      middle_of (row part) m.first (t - m.first) (length m.cells) there.within
      ∙ ap (λ u. before part ++ (row part u ++ flat_map (row part) (tickets_from (suc u) (length m.cells - suc (t - m.first))))) here
      ∙ ap (λ o. before part ++ (flat_map (part t) (tickets_from 0 (numbers_in o)) ++ behind part)) at

  -- where another part is the same for all other tickets
  module _ (part new : ℕ → ℕ → List Label) (same : (u j : ℕ) → u ≢ t → new u j ≡ part u j) where
    same_row : (u : ℕ) → u ≢ t → row new u ≡ row part u
    same_row u d = flat_same (new u) (part u) (λ j. same u j d) (tickets_from 0 (numbers_in (cell_at m u)))

    same_before : before new ≡ before part
    unfolding before
    same_before =
        let low = (cell_there m t c at).low in
        same_numbered (row new) (row part) m.first (t - m.first) (λ u l h. same_row u (λ e. omega (arith, e, h, low)))

    same_behind : behind new ≡ behind part
    unfolding behind
    same_behind = same_numbered (row new) (row part) (suc t) (length m.cells - suc (t - m.first)) (λ u l h. same_row u (λ e. omega (arith, e, l)))

    pub split_new : by_slot m new ≡ before part ++ (flat_map (new t) (tickets_from 0 numbers) ++ behind part)
    split_new = split_at new ∙ (λ i. same_before i ++ (flat_map (new t) (tickets_from 0 numbers) ++ same_behind i))

  module _ (part : ℕ → ℕ → List Label) (own : AreOwn part) where
    pub before_below : (k : ℕ) → Below t k (before part)
    unfolding before
    before_below k =
        let low = (cell_there m t c at).low in
        tickets_below (row part) (λ u. own_row part own u (numbers_in (cell_at m u))) t k m.first (t - m.first) (omega (arith, low))

    pub behind_from : From (t + 1) 0 (behind part)
    unfolding behind
    behind_from = tickets_behind (row part) (λ u. own_row part own u (numbers_in (cell_at m u))) t (suc t) (length m.cells - suc (t - m.first)) (omega arith)

-- ---- all tickets, from the first on
own_row_asked : (m : Kept) (t : ℕ) → AllByRecursion (λ (l : Label). ticket_of l.act ≡ t) (asked_at m t)
own_row_asked m t = by_cell (cell_at m t)
  where
    by_cell : (o : Option (Cell Actor)) → AllByRecursion (λ (l : Label). ticket_of l.act ≡ t) (asked_by m.stores t o)
    by_cell None = tt
    by_cell (Some c) = own_asked m.stores t c

module _ (m : Kept) where
  pub so_far : ℕ → List Label
  so_far n = flat_map (asked_at m) (tickets_from m.first n)

  pub asked_here : (i : ℕ) (c : Cell Actor) → slice_get m.cells i ≡ Some c → asked_at m (m.first + i) ≡ asked_of m.stores (m.first + i) c
  asked_here i c e =
      let place : m.first + i - m.first ≡ i = omega arith in
      ap (asked_by m.stores (m.first + i)) (cell_is m (m.first + i) (omega arith) ∙ ap (slice_get m.cells) place ∙ e)

  pub done_so_far : (n : ℕ) → AreDone m n → (so_far n) ≡ []
  unfolding so_far
  done_so_far n d = same_numbered (asked_at m) (λ k. []) m.first n each ∙ flat_none (λ k. []) (λ k. refl) (tickets_from m.first n)
    where
      each : (k : ℕ) → m.first ≤ k → k < m.first + n → asked_at m k ≡ []
      each k low high =
          let in_n : k - m.first < n = omega (arith, low, high) in
          let within = d.within in
          let some = slice_some m.cells (k - m.first) (omega (arith, in_n, within)) in
          let here : m.first + (k - m.first) ≡ k = omega (arith, low) in
          ap (asked_at m) (sym here) ∙ asked_here (k - m.first) some.0 some.1 ∙ done_asks m.stores (m.first + (k - m.first)) some.0 (d.each (k - m.first) some.0 in_n some.1)

  pub all_first : (index : List Ready) (n : ℕ) → index ≡ [] → AreDone m n → map by_none index ≡ in_order (so_far n)
  all_first index n e d = ap (map by_none) e ∙ ap in_order (sym (done_so_far n d))

  pub all_more : (old new : List Ready) (i : ℕ) (c : Cell Actor) → slice_get m.cells i ≡ Some c → map by_none old ≡ in_order (so_far i) → Lists (m.first + i) 0 old new (asked_of m.stores (m.first + i) c) → map by_none new ≡ in_order (so_far (i + 1))
  unfolding so_far
  all_more old new i c at was lists =
      let u = flat_map (asked_at m) (tickets_from m.first i) in
      let t = m.first + i in
      let below : Below t 0 u = tickets_below (asked_at m) (own_row_asked m) t 0 m.first i (omega arith) in
      lists.parts u [] below tt (was ∙ ap in_order (sym (append-nil u)))
      ∙ ap in_order (append_assoc u (asked_of m.stores t c) [] ∙ ap (λ x. u ++ (x ++ [])) (sym (asked_here i c at)) ∙ sym (flat_append (asked_at m) (tickets_from m.first i) (tickets_from t 1)) ∙ ap (flat_map (asked_at m)) (sym (numbers_append m.first i 1)))

  pub all_last : (index : List Ready) (i : ℕ) → i ≡ length m.cells → map by_none index ≡ in_order (so_far i) → map by_none index ≡ in_order (by_part m (asked_at m))
  unfolding so_far
  all_last index i e was = was ∙ ap (λ n. in_order (flat_map (asked_at m) (tickets_from m.first n))) e

-- ---- shares
pub weight_drop : (n : ℕ) (cs : List (Cell Actor)) → weight_of (drop n cs) ≤ weight_of cs
weight_drop zero cs = omega arith
weight_drop (suc n) [] = omega arith
weight_drop (suc n) (c ∷ cs) = let less = weight_drop n cs in omega (arith, less)

weight_step : (i : ℕ) (cs : List (Cell Actor)) (c : Cell Actor) → slice_get cs i ≡ Some c → weight_of (drop i cs) ≡ share_of c + weight_of (drop (suc i) cs)
weight_step zero [] c e = cc
weight_step zero (d ∷ cs) c e = let same : d ≡ c = cc in ap (λ x. share_of x + weight_of cs) same
weight_step (suc i) [] c e = cc
weight_step (suc i) (d ∷ cs) c e = weight_step i cs c e

pub weight_next : (i : ℕ) (cs : List (Cell Actor)) (c : Cell Actor) → slice_get cs i ≡ Some c → weight_of (drop i cs) ≡ share_of c + weight_of (drop (i + 1) cs)
weight_next i cs c e = let next : suc i ≡ i + 1 = omega arith in weight_step i cs c e ∙ ap (λ n. share_of c + weight_of (drop n cs)) next

-- ---- mails, one by one
flat_step : {X Y : Type 0} (f : Y → List X) (ys : List Y) (i : ℕ) (y : Y) → slice_get ys i ≡ Some y → flat_map f (take (suc i) ys) ≡ flat_map f (take i ys) ++ f y
flat_step f [] i y e = cc
flat_step f (z ∷ ys) zero y e = let same : z ≡ y = cc in append-nil (f z) ∙ ap f same
flat_step f (z ∷ ys) (suc i) y e = ap (λ r. f z ++ r) (flat_step f ys i y e) ∙ sym (append_assoc (f z) (flat_map f (take i ys)) (f y))

pub flat_take : {X Y : Type 0} (f : Y → List X) (ys : List Y) (i : ℕ) (y : Y) → slice_get ys i ≡ Some y → flat_map f (take (i + 1) ys) ≡ flat_map f (take i ys) ++ f y
flat_take f ys i y e = let next : i + 1 ≡ suc i = omega arith in ap (λ n. flat_map f (take n ys)) next ∙ flat_step f ys i y e

pub flat_whole : {X Y : Type 0} (f : Y → List X) (ys : List Y) (i : ℕ) → length ys ≤ i → flat_map f (take i ys) ≡ flat_map f ys
flat_whole f [] zero l = refl
flat_whole f [] (suc i) l = refl
flat_whole f (y ∷ ys) zero l = absurd (omega (arith, l))
flat_whole f (y ∷ ys) (suc i) l = ap (λ r. f y ++ r) (flat_whole f ys i (omega (arith, l)))

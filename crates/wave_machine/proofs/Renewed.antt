-- What a ticket has in the list, listed anew: one slot, or the mails past a number.
use Rattle.std.proofs.Common.{◌≡◌, ◌≢◌, ◌∙◌, ◌⊎◌, inl, inr, ℕ, zero, suc, ◌&&◌, ◌+◌, ◌-◌, ◌<◌, ◌≤◌, ◌==◌, true, false, List, [], ◌∷◌, ◌++◌, length, map, take, drop, Option, Some, None, refl, sym, ap, subst, arith, append_assoc, append-nil, length-drop}
use Rattle.std.specs.Prelude.{flat_map, option_map, if◌then◌else◌, nat_lt, slice_get}
use Rattle.std.specs.List.{AllByRecursion}
use Rattle.std.specs.List.Sorted.{IsStrictlySortedBy}
use Rattle.std.specs.BTreeMap.{is_at}
use Rattle.std.specs.Map.{keys_of, lookup}
use Rattle.std.specs.Ordering.{nat_cmp}
use Rattle.std.specs.declared.cmp.Ordering.TheVariants.{Less}
use Rattle.std.proofs.lemmas.Bool.{cases_lt}
use Rattle.std.proofs.lemmas.List.{take_all}
use Rattle.std.proofs.lemmas.Bool.Decides.{nat_tests}
use Rattle.wave_base.specs.Fold.{tickets_from}
use Rattle.event_cells.specs.declared.cell.Cell.{Cell}
use Rattle.event_cells.specs.declared.outbox.Envelope.{Envelope}
use Rattle.event_cells.specs.declared.status.Status.{Status}
use Rattle.event_cells.specs.declared.status.Status.TheVariants as status
use Rattle.event_cells.specs.Cells.{is_over}
use Rattle.event_cells.specs.Keeps.{Sending, is_empty, mail_in}
use Rattle.host_map.specs.Stores.{Stores}
use Rattle.wave_states.specs.Labels.{Label, Admit, Commit}
use Rattle.wave_theory.proofs.Basics.{differ, not_same, number_cases, number_self, some_not}
use Rattle.wave_effects.specs.declared.actor.Actor.{Actor}
use Rattle.wave_machine.specs.declared.ready.Ready.{Ready}
use Rattle.wave_effects.specs.Machines.{Kept}
use Rattle.wave_effects.specs.Sized.{IsNumbered}
use Rattle.wave_machine.specs.inner.Asking.{in_order, label_at, mail_labels}
use Rattle.wave_machine.specs.inner.Index.{AreOwn, Below, Cuts, From, Goes, IsBelow, IsFrom, IsHead, IsOwn, Lists, ListsNew, Relists, RelistsNext, RelistsStatus, asked_as, by_none, by_slot, cell_at, numbers_in, slot_at, share_of, slot_by, with_above, with_slot}
use Rattle.wave_machine.proofs.ListingLists.{by_number, find_apart, find_first, flat_none, less_is}
use Rattle.wave_machine.proofs.Ordering.{all_append, all_map, flat_append, middle_of, numbers_append, same_numbered}
use Rattle.wave_machine.proofs.Owned.{at_slot, before, before_below, behind, behind_from, numbers_below, numbers_from, one_slot, other_number, other_ticket, own_as, own_mail, own_slot, split_at, split_new}
use Rattle.wave_machine.proofs.Relisted.{later_from, own_goes}

-- ---- parts that are the same for each number that a ticket has
pub same_slots : (m : Kept) (f g : ℕ → ℕ → List Label) → ((u j : ℕ) → m.first ≤ u → u < m.first + length m.cells → j < numbers_in (cell_at m u) → f u j ≡ g u j) → by_slot m f ≡ by_slot m g
same_slots m f g h = same_numbered (λ u. flat_map (f u) (tickets_from 0 (numbers_in (cell_at m u)))) (λ u. flat_map (g u) (tickets_from 0 (numbers_in (cell_at m u)))) m.first (length m.cells)
    (λ u low high. same_numbered (f u) (g u) 0 (numbers_in (cell_at m u)) (λ j from within. h u j low high (omega (arith, within))))

-- ---- a row of numbers, about one of them
record Divided (part : ℕ → ℕ → List Label) (t k n : ℕ) (ls a x b : List Label) : Type 0 where
  pub old : flat_map (part t) (tickets_from 0 n) ≡ a ++ (x ++ b)
  pub new : flat_map (with_slot part t k ls t) (tickets_from 0 n) ≡ a ++ (ls ++ b)
  pub below : Below t k a
  pub past : From t (k + 1) b
  pub own : AllByRecursion (IsOwn t k) x
  pub few : length x ≤ 1

module _ (part : ℕ → ℕ → List Label) (own : AreOwn part) (t k n : ℕ) (ls : List Label) where
  divided_within : k < n → Divided part t k n ls (flat_map (part t) (tickets_from 0 k)) (part t k) (flat_map (part t) (tickets_from (suc k) (n - suc k)))
  divided_within l =
      let here : 0 + k ≡ k = omega arith in
      let new = with_slot part t k ls in
      record {
        old = middle_of (part t) 0 k n l ∙ ap (λ j. flat_map (part t) (tickets_from 0 k) ++ (part t j ++ flat_map (part t) (tickets_from (suc j) (n - suc k)))) here;
        new = middle_of (new t) 0 k n l ∙ ap (λ j. flat_map (new t) (tickets_from 0 k) ++ (new t j ++ flat_map (new t) (tickets_from (suc j) (n - suc k)))) here
            ∙ (λ i. same_numbered (new t) (part t) 0 k (λ j low high. other_number part t k ls j (λ e. omega (arith, e, high))) i
            ++ (at_slot part t k ls i ++ same_numbered (new t) (part t) (suc k) (n - suc k) (λ j low high. other_number part t k ls j (λ e. omega (arith, e, low))) i));
        below = numbers_below part own t k 0 k (omega arith);
        past = numbers_from part own t (k + 1) (suc k) (n - suc k) (omega arith);
        own = own.own t k;
        few = own.one t k;
      }

  divided_past : n ≤ k → ls ≡ [] → Divided part t k n ls (flat_map (part t) (tickets_from 0 n)) [] []
  divided_past l none =
      let new = with_slot part t k ls in
      record {
        old = sym (append-nil (flat_map (part t) (tickets_from 0 n)));
        new = same_numbered (new t) (part t) 0 n (λ j low high. other_number part t k ls j (λ e. omega (arith, e, high, l)))
            ∙ sym (append-nil (flat_map (part t) (tickets_from 0 n))) ∙ ap (λ r. flat_map (part t) (tickets_from 0 n) ++ (r ++ [])) (sym none);
        below = numbers_below part own t k 0 n (omega (arith, l));
        past = tt;
        own = tt;
        few = omega arith;
      }

-- the head's is below all slots
head_below : (t k : ℕ) (h : List Label) → IsHead h → Below t k h
head_below t k h head = subst (Below t k) (sym head.are) (all_append (IsBelow t k) (label_at 0 0 (option_map (λ n. Admit n) head.admit)) (label_at 0 0 (option_map (λ n. Commit n) head.commit)) (first head.admit) (last head.commit))
  where
    first : (o : Option ℕ) → Below t k (label_at 0 0 (option_map (λ n. Admit n) o))
    first None = tt
    first (Some n) = ((λ i. absurd (omega (arith, i.0))), tt)

    last : (o : Option ℕ) → Below t k (label_at 0 0 (option_map (λ n. Commit n) o))
    last None = tt
    last (Some n) = ((λ i. absurd (omega (arith, i.1))), tt)

regroup : (a b x c d : List Label) → a ++ ((b ++ (x ++ c)) ++ d) ≡ (a ++ b) ++ (x ++ (c ++ d))
regroup a b x c d = ap (λ r. a ++ r) (append_assoc b (x ++ c) d ∙ ap (λ r. b ++ r) (append_assoc x c d)) ∙ sym (append_assoc a b (x ++ (c ++ d)))

module _ (m : Kept) (t k : ℕ) (c : Cell Actor) (at : cell_at m t ≡ Some c) (old mid new : List Ready) (Had : List Label → Type 0)
    (cuts : (u x v : List Label) → Had x → Below t k u → AllByRecursion (IsOwn t k) x → length x ≤ 1 → From t (k + 1) v → map by_none old ≡ in_order (u ++ (x ++ v)) → map by_none mid ≡ in_order (u ++ v)) (puts : (u v : List Label) → Goes (asked_as m.stores t c k) u v → map by_none mid ≡ in_order (u ++ v) → map by_none new ≡ in_order ((u ++ asked_as m.stores t c k) ++ v)) where
  abbrev ls : List Label
  ls = asked_as m.stores t c k

  relists_by : (h : List Label) → IsHead h → (part : ℕ → ℕ → List Label) → AreOwn part → (a x b : List Label) → Had x → Divided part t k (1 + c.outbox.sent) ls a x b → map by_none old ≡ in_order (h ++ by_slot m part) → map by_none new ≡ in_order (h ++ by_slot m (with_slot part t k ls))
  relists_by h head part own a x b had d e =
      let first = before m t c at part in
      let last = behind m t c at part in
      let u = h ++ (first ++ a) in
      let v = b ++ last in
      let below : Below t k u = all_append (IsBelow t k) h (first ++ a) (head_below t k h head) (all_append (IsBelow t k) first a (before_below m t c at part own k) d.below) in
      let past : From t (k + 1) v = all_append (IsFrom t (k + 1)) b last d.past (later_from t (k + 1) last (behind_from m t c at part own)) in
      let was : h ++ by_slot m part ≡ u ++ (x ++ v) = ap (λ r. h ++ r) (split_at m t c at part ∙ ap (λ r. first ++ (r ++ last)) d.old ∙ regroup first a x b last) ∙ sym (append_assoc h (first ++ a) (x ++ v)) in
      let is : h ++ by_slot m (with_slot part t k ls) ≡ u ++ (ls ++ v) =
      ap (λ r. h ++ r) (split_new m t c at part (with_slot part t k ls) (λ w j apart. other_ticket part t k ls w j apart) ∙ ap (λ r. first ++ (r ++ last)) d.new ∙ regroup first a ls b last) ∙ sym (append_assoc h (first ++ a) (ls ++ v)) in
      let gone : map by_none mid ≡ in_order (u ++ v) = cuts u x v had below d.own d.few past (e ∙ ap in_order was) in
      puts u v (own_goes t k ls u v (own_as m.stores t k c) below past) gone ∙ ap in_order (append_assoc u ls v ∙ sym is)

  -- no mail has a number past those that were sent
  nothing_past : IsNumbered c.outbox → 1 + c.outbox.sent ≤ k → ls ≡ []
  nothing_past numbered far = by_number_of k far
    where
      by_number_of : (j : ℕ) → 1 + c.outbox.sent ≤ j → asked_as m.stores t c j ≡ []
      by_number_of zero l = absurd (omega (arith, l))
      by_number_of (suc j) l = ap (mail_labels m.stores 0 t (suc j)) (numbered.below (suc j) (omega (arith, l)))

-- one slot: what it had is cut, and what it asks for is put
module _ (m : Kept) (t k : ℕ) (c : Cell Actor) (at : cell_at m t ≡ Some c) (old mid new : List Ready) (cuts : Cuts t k old mid) (puts : (u v : List Label) → Goes (asked_as m.stores t c k) u v → map by_none mid ≡ in_order (u ++ v) → map by_none new ≡ in_order ((u ++ asked_as m.stores t c k) ++ v)) where
  abbrev Any : List Label → Type 0
  Any x = Unit {0}

  by_cuts : (u x v : List Label) → Any x → Below t k u → AllByRecursion (IsOwn t k) x → length x ≤ 1 → From t (k + 1) v → map by_none old ≡ in_order (u ++ (x ++ v)) → map by_none mid ≡ in_order (u ++ v)
  by_cuts u x v any below own few past e = cuts.parts u x v below own few past e

  pub relists_at : IsNumbered c.outbox → Relists m t k old new
  relists_at numbered = record {
    parts = λ h head part own e. let asked : asked_as m.stores t c k ≡ slot_at m t k = ap (slot_by m.stores t k) (sym at) in
        subst (λ (x : List Label). map by_none new ≡ in_order (h ++ by_slot m (with_slot part t k x))) asked (elim (cases_lt k (1 + c.outbox.sent)) [
          | inl l ↦ relists_by m t k c at old mid new Any by_cuts puts h head part own _ _ _ tt (divided_within part own t k (1 + c.outbox.sent) (asked_as m.stores t c k) l) e
          | inr l ↦ relists_by m t k c at old mid new Any by_cuts puts h head part own _ _ _ tt (divided_past part own t k (1 + c.outbox.sent) (asked_as m.stores t c k) l (nothing_past m t k c at old mid new Any by_cuts puts numbered l)) e
        ]);
  }

-- a status that had nothing: what it asks for is put
module _ (m : Kept) (t : ℕ) (c : Cell Actor) (at : cell_at m t ≡ Some c) (old new : List Ready) (puts : (u v : List Label) → Goes (asked_as m.stores t c 0) u v → map by_none old ≡ in_order (u ++ v) → map by_none new ≡ in_order ((u ++ asked_as m.stores t c 0) ++ v)) where
  abbrev Nothing : List Label → Type 0
  Nothing x = x ≡ []

  uncut : (u x v : List Label) → Nothing x → Below t 0 u → AllByRecursion (IsOwn t 0) x → length x ≤ 1 → From t (0 + 1) v → map by_none old ≡ in_order (u ++ (x ++ v)) → map by_none old ≡ in_order (u ++ v)
  uncut u x v none below own few past e = e ∙ ap (λ r. in_order (u ++ (r ++ v))) none

  pub status_put : RelistsStatus m t false old new
  status_put = record {
    parts = λ h head part own none e. let asked : asked_as m.stores t c 0 ≡ slot_at m t 0 = ap (slot_by m.stores t 0) (sym at) in
        subst (λ (x : List Label). map by_none new ≡ in_order (h ++ by_slot m (with_slot part t 0 x))) asked
        (relists_by m t 0 c at old old new Nothing uncut puts h head part own _ _ _ (none refl) (divided_within part own t 0 (1 + c.outbox.sent) (asked_as m.stores t c 0) (omega arith)) e);
  }

-- a ticket that is not there has nothing
pub relists_none : (m : Kept) (t k : ℕ) (xs : List Ready) → cell_at m t ≡ None → Relists m t k xs xs
relists_none m t k xs none = record {
  parts = λ h head part own e. e ∙ ap (λ r. in_order (h ++ r)) (same_slots m part (with_slot part t k (slot_at m t k)) (λ u j low high within. sym (other_ticket part t k (slot_at m t k) u j (λ same.
      let few : numbers_in (cell_at m u) ≡ 0 = ap (λ n. numbers_in (cell_at m n)) same ∙ ap numbers_in none in omega (arith, few, within)))));
}

pub next_none : (m : Kept) (xs : List Ready) → RelistsNext m None xs xs
next_none m xs = record { parts = λ h head part own e. e }

pub next_some : (m : Kept) (t : ℕ) (old new : List Ready) → Relists m t 0 old new → RelistsNext m (Some t) old new
next_some m t old new r = record { parts = r.parts }

-- ---- mails whose numbers are above one
-- a list from a place on
pub rest_is : {X : Type 0} (xs : List X) (i : ℕ) → take (length xs - i) (drop i xs) ≡ drop i xs
rest_is xs i = take_all (length xs - i) (drop i xs) (omega (arith, length-drop i xs))

module _ {E : Type 0} where
  none_low : (es : List (ℕ × E)) (k : ℕ) → AllByRecursion (λ e. k < e.0) es → lookup (is_at (nat_cmp k)) es ≡ None
  none_low [] k a = refl
  none_low (e ∷ es) k a = let up = a.0 in find_apart e es k (λ h. omega (arith, h, up)) ∙ none_low es k a.1

  find_drop : (n : ℕ) (es : List (ℕ × E)) (k : ℕ) → AllByRecursion (λ e. e.0 < k) (take n es) → lookup (is_at (nat_cmp k)) (drop n es) ≡ lookup (is_at (nat_cmp k)) es
  find_drop zero es k a = refl
  find_drop (suc n) [] k a = refl
  find_drop (suc n) (e ∷ es) k a = let up = a.0 in find_drop n es k a.1 ∙ sym (find_apart e es k (λ h. omega (arith, h, up)))

  pub sorted_drop : (n : ℕ) (es : List (ℕ × E)) → IsStrictlySortedBy nat_cmp (keys_of es) → IsStrictlySortedBy nat_cmp (keys_of (drop n es))
  unfolding IsStrictlySortedBy
  sorted_drop zero es s = s
  sorted_drop (suc n) [] s = s
  sorted_drop (suc n) (e ∷ es) s = sorted_drop n es s.1

  pub all_above_zero : (es : List (ℕ × E)) → lookup (is_at (nat_cmp 0)) es ≡ None → AllByRecursion (λ e. 0 < e.0) es
  all_above_zero [] none = tt
  all_above_zero (e ∷ es) none = elim (number_cases e.0 0) [
    | inl is ↦ absurd (some_not (sym (find_first e es) ∙ ap (λ k. lookup (is_at (nat_cmp k)) (e ∷ es)) is ∙ none))
    | inr d ↦ let apart : e.0 ≢ 0 = not_same e.0 0 d in (omega (arith, apart), all_above_zero es (sym (find_apart e es 0 (λ h. apart (sym h))) ∙ none))
  ]

  key_at : (P : ℕ → Type 0) (es : List (ℕ × E)) (i : ℕ) (x : ℕ × E) → slice_get es i ≡ Some x → AllByRecursion P (keys_of es) → P x.0
  key_at P [] i x at a = cc
  key_at P (e ∷ es) zero x at a = let same : e ≡ x = cc in subst (λ y. P y.0) same a.0
  key_at P (e ∷ es) (suc i) x at a = key_at P es i x at a.1

  pub all_at : (P : ℕ × E → Type 0) (es : List (ℕ × E)) (i : ℕ) (x : ℕ × E) → slice_get es i ≡ Some x → AllByRecursion P es → P x
  all_at P [] i x at a = cc
  all_at P (e ∷ es) zero x at a = let same : e ≡ x = cc in subst P same a.0
  all_at P (e ∷ es) (suc i) x at a = all_at P es i x at a.1

  -- those before one have smaller numbers
  pub before_it : (low : ℕ) (es : List (ℕ × E)) (i : ℕ) (x : ℕ × E) → slice_get es i ≡ Some x → IsStrictlySortedBy nat_cmp (keys_of es) → AllByRecursion (λ e. low < e.0) es → AllByRecursion (λ e. (low < e.0) × (e.0 < x.0)) (take i es)
  unfolding IsStrictlySortedBy
  before_it low [] i x at s a = cc
  before_it low (e ∷ es) zero x at s a = tt
  before_it low (e ∷ es) (suc i) x at s a = ((a.0, less_is e.0 x.0 (key_at (λ y. nat_cmp e.0 y ≡ Less) es i x at s.0)), before_it low es i x at s.1 a.1)

  -- up to one, and from one on
  pub up_to_it : (n : ℕ) (es : List (ℕ × E)) (i : ℕ) (x : ℕ × E) → slice_get es i ≡ Some x → IsStrictlySortedBy nat_cmp (keys_of es) → x.0 ≤ n → AllByRecursion (λ e. e.0 ≤ n) (take (i + 1) es)
  unfolding IsStrictlySortedBy
  up_to_it n es i x at s l = let next : suc i ≡ i + 1 = omega arith in subst (λ j. AllByRecursion (λ e. e.0 ≤ n) (take j es)) next (each es i at s)
    where
      each : (ys : List (ℕ × E)) (j : ℕ) → slice_get ys j ≡ Some x → IsStrictlySortedBy nat_cmp (keys_of ys) → AllByRecursion (λ e. e.0 ≤ n) (take (suc j) ys)
      each [] j at s = cc
      each (e ∷ ys) zero at s = let same : e ≡ x = cc in (subst (λ (y : ℕ × E). y.0 ≤ n) (sym same) l, tt)
      each (e ∷ ys) (suc j) at s = let less = less_is e.0 x.0 (key_at (λ y. nat_cmp e.0 y ≡ Less) ys j x at s.0) in (omega (arith, less, l), each ys j at s.1)

module _ (stores : List Stores) (t : ℕ) where
  pub own_mail_at : (k : ℕ) → 0 < k → (o : Option Envelope) → AllByRecursion (IsOwn t k) (mail_labels stores 0 t k o)
  own_mail_at zero l o = absurd (omega (arith, l))
  own_mail_at (suc k) l o = own_mail stores t k o

  pub mails_below : (low k : ℕ) (es : List (ℕ × Envelope)) → AllByRecursion (λ e. (low < e.0) × (e.0 < k)) es → Below t k (flat_map (λ e. mail_labels stores 0 t e.0 (Some e.1)) es)
  mails_below low k [] a = tt
  mails_below low k (e ∷ es) a =
      let above = a.0.0 in
      let under = a.0.1 in
      all_append (IsBelow t k) (mail_labels stores 0 t e.0 (Some e.1)) (flat_map (λ e. mail_labels stores 0 t e.0 (Some e.1)) es)
      (all_map (IsBelow t k) (IsOwn t e.0) (λ l h i. record { ticket = let it = h.ticket in omega (arith, it); number = λ same. let is = h.number in omega (arith, is, under) }) (mail_labels stores 0 t e.0 (Some e.1)) (own_mail_at e.0 (omega (arith, above)) (Some e.1)))
      (mails_below low k es a.1)

  -- the last mails, whose numbers are above one, by number
  pub above_asked : (o : Sending) → IsNumbered o → IsStrictlySortedBy nat_cmp (keys_of o.mails) → (n f : ℕ) → AllByRecursion (λ e. n < e.0) (drop f o.mails) → AllByRecursion (λ e. e.0 ≤ n) (take f o.mails)
      → flat_map (λ e. mail_labels stores 0 t e.0 (Some e.1)) (drop f o.mails) ≡ flat_map (λ k. mail_labels stores 0 t k (mail_in o.mails k)) (tickets_from (n + 1) (o.sent - n))
  above_asked o numbered sorted n f above below =
      let last = drop f o.mails in
      let found : (k : ℕ) → n < k → mail_in last k ≡ mail_in o.mails k = λ k l. find_drop f o.mails k (all_map (λ e. e.0 < k) (λ e. e.0 ≤ n) (λ e h. omega (arith, h, l)) (take f o.mails) below) in
      sym (by_number (mail_labels stores 0 t) (λ k. refl) (o.sent - n) (n + 1) last (sorted_drop f o.mails sorted)
      (λ k l. none_low last k (all_map (λ e. k < e.0) (λ e. n < e.0) (λ e h. omega (arith, h, l)) last above))
      (λ k l. found k (omega (arith, l)) ∙ numbered.below k (omega (arith, l))))
      ∙ same_numbered (λ k. mail_labels stores 0 t k (mail_in last k)) (λ k. mail_labels stores 0 t k (mail_in o.mails k)) (n + 1) (o.sent - n) (λ k low high. ap (mail_labels stores 0 t k) (found k (omega (arith, low))))

-- ---- the mails that are new
-- a row of numbers that gets some more at its end
record Rows (old new : ℕ → List Label) (t k n : ℕ) (a x : List Label) : Type 0 where
  pub was : flat_map old (tickets_from 0 n) ≡ a
  pub is : flat_map new (tickets_from 0 n) ≡ a ++ x
  pub below : Below t k a

module _ (m : Kept) (t n : ℕ) where
  new_mail : (part : ℕ → ℕ → List Label) (j : ℕ) → n < j → with_above m t n part t j ≡ slot_at m t j
  new_mail part j l = let up : nat_lt n j ≡ true = grind (arith, nat_tests) in ap (λ b. if b then slot_at m t j else part t j) (λ i. number_self t i && up i)

  pub old_mail : (part : ℕ → ℕ → List Label) (j : ℕ) → j ≤ n → with_above m t n part t j ≡ part t j
  old_mail part j l = let down : nat_lt n j ≡ false = grind (arith, nat_tests) in ap (λ b. if b then slot_at m t j else part t j) (λ i. number_self t i && down i)

  other_mails : (part : ℕ → ℕ → List Label) (u j : ℕ) → u ≢ t → with_above m t n part u j ≡ part u j
  other_mails part u j d = ap (λ b. if b && nat_lt n j then slot_at m t j else part u j) (differ u t d)

  pub new_none : (xs : List Ready) → cell_at m t ≡ None → ListsNew m t n xs xs
  new_none xs none = record {
    parts = λ h head part own gone e. e ∙ ap (λ r. in_order (h ++ r)) (same_slots m part (with_above m t n part) (λ u j low high within. sym (other_mails part u j (λ same.
        let few : numbers_in (cell_at m u) ≡ 0 = ap (λ k. numbers_in (cell_at m k)) same ∙ ap numbers_in none in omega (arith, few, within)))));
  }

  module _ (c : Cell Actor) (at : cell_at m t ≡ Some c) (old new : List Ready) (x : List Label) (are : x ≡ flat_map (λ k. mail_labels m.stores 0 t k (mail_in c.outbox.mails k)) (tickets_from (n + 1) (c.outbox.sent - n))) (lists : Lists t (n + 1) old new x) where
    asks : (j : ℕ) → n < j → slot_at m t j ≡ mail_labels m.stores 0 t j (mail_in c.outbox.mails j)
    asks zero l = absurd (omega (arith, l))
    asks (suc j) l = ap (slot_by m.stores t (suc j)) at

    rows_same : (part : ℕ → ℕ → List Label) → AreOwn part → c.outbox.sent ≤ n → Rows (part t) (with_above m t n part t) t (n + 1) (1 + c.outbox.sent) (flat_map (part t) (tickets_from 0 (1 + c.outbox.sent))) x
    rows_same part own l =
        let none : c.outbox.sent - n ≡ 0 = omega (arith, l) in
        let empty : x ≡ [] = are ∙ ap (λ k. flat_map (λ k. mail_labels m.stores 0 t k (mail_in c.outbox.mails k)) (tickets_from (n + 1) k)) none in
        let whole = flat_map (part t) (tickets_from 0 (1 + c.outbox.sent)) in
        record {
          was = refl;
          is = same_numbered (with_above m t n part t) (part t) 0 (1 + c.outbox.sent) (λ j low high. old_mail part j (omega (arith, high, l))) ∙ sym (append-nil whole) ∙ ap (λ r. whole ++ r) (sym empty);
          below = numbers_below part own t (n + 1) 0 (1 + c.outbox.sent) (omega (arith, l));
        }

    rows_more : (part : ℕ → ℕ → List Label) → AreOwn part → ((j : ℕ) → n < j → part t j ≡ []) → n ≤ c.outbox.sent → Rows (part t) (with_above m t n part t) t (n + 1) (1 + c.outbox.sent) (flat_map (part t) (tickets_from 0 (n + 1))) x
    rows_more part own gone l =
        let many : 1 + c.outbox.sent ≡ (n + 1) + (c.outbox.sent - n) = omega (arith, l) in
        let here : 0 + (n + 1) ≡ n + 1 = omega arith in
        let first = flat_map (part t) (tickets_from 0 (n + 1)) in
        let split : (f : ℕ → List Label) → flat_map f (tickets_from 0 (1 + c.outbox.sent)) ≡ flat_map f (tickets_from 0 (n + 1)) ++ flat_map f (tickets_from (n + 1) (c.outbox.sent - n)) =
        λ f. ap (λ k. flat_map f (tickets_from 0 k)) many ∙ ap (flat_map f) (numbers_append 0 (n + 1) (c.outbox.sent - n)) ∙ flat_append f (tickets_from 0 (n + 1)) (tickets_from (0 + (n + 1)) (c.outbox.sent - n)) ∙ ap (λ k. flat_map f (tickets_from 0 (n + 1)) ++ flat_map f (tickets_from k (c.outbox.sent - n))) here in
        let none : flat_map (part t) (tickets_from (n + 1) (c.outbox.sent - n)) ≡ [] =
        same_numbered (part t) (λ k. []) (n + 1) (c.outbox.sent - n) (λ j low high. gone j (omega (arith, low))) ∙ flat_none (λ k. []) (λ k. refl) (tickets_from (n + 1) (c.outbox.sent - n)) in
        let start : flat_map (with_above m t n part t) (tickets_from 0 (n + 1)) ≡ first = same_numbered (with_above m t n part t) (part t) 0 (n + 1) (λ j low high. old_mail part j (omega (arith, high))) in
        let rest : flat_map (with_above m t n part t) (tickets_from (n + 1) (c.outbox.sent - n)) ≡ x =
        same_numbered (with_above m t n part t) (λ k. mail_labels m.stores 0 t k (mail_in c.outbox.mails k)) (n + 1) (c.outbox.sent - n) (λ j low high. new_mail part j (omega (arith, low)) ∙ asks j (omega (arith, low))) ∙ sym are in
        record {
          was = split (part t) ∙ ap (λ r. first ++ r) none ∙ append-nil first;
          is = split (with_above m t n part t) ∙ (λ i. start i ++ rest i);
          below = numbers_below part own t (n + 1) 0 (n + 1) (omega arith);
        }

    new_by : (h : List Label) → IsHead h → (part : ℕ → ℕ → List Label) → AreOwn part → (a : List Label) → Rows (part t) (with_above m t n part t) t (n + 1) (1 + c.outbox.sent) a x → map by_none old ≡ in_order (h ++ by_slot m part) → map by_none new ≡ in_order (h ++ by_slot m (with_above m t n part))
    new_by h head part own a r e =
        let first = before m t c at part in
        let last = behind m t c at part in
        let start = first ++ a in
        let u = h ++ start in
        let below : Below t (n + 1) u = all_append (IsBelow t (n + 1)) h start (head_below t (n + 1) h head) (all_append (IsBelow t (n + 1)) first a (before_below m t c at part own (n + 1)) r.below) in
        let was : h ++ by_slot m part ≡ u ++ last = ap (λ r. h ++ r) (split_at m t c at part ∙ ap (λ r. first ++ (r ++ last)) r.was ∙ sym (append_assoc first a last)) ∙ sym (append_assoc h start last) in
        let is : h ++ by_slot m (with_above m t n part) ≡ (u ++ x) ++ last =
        ap (λ r. h ++ r) (split_new m t c at part (with_above m t n part) (λ w j apart. other_mails part w j apart) ∙ ap (λ r. first ++ (r ++ last)) r.is ∙ sym (append_assoc first (a ++ x) last) ∙ ap (λ r. r ++ last) (sym (append_assoc first a x)))
        ∙ sym (append_assoc h (start ++ x) last) ∙ ap (λ r. r ++ last) (sym (append_assoc h start x)) in
        lists.parts u last below (behind_from m t c at part own) (e ∙ ap in_order was) ∙ ap in_order (sym is)

    pub new_at : ListsNew m t n old new
    new_at = record {
      parts = λ h head part own gone e. elim (cases_lt n c.outbox.sent) [
        | inl l ↦ new_by h head part own _ (rows_more part own gone (omega (arith, l))) e
        | inr l ↦ new_by h head part own _ (rows_same part own l) e
      ];
    }

pub own_above : (m : Kept) (part : ℕ → ℕ → List Label) (t n : ℕ) → AreOwn part → AreOwn (with_above m t n part)
own_above m part t n own = record {
  own = λ u j. above_or (λ u j ls. AllByRecursion (IsOwn u j) ls) u j (own_slot m t j) (own.own u j);
  one = λ u j. above_or (λ u j ls. length ls ≤ 1) u j (one_slot m t j) (own.one u j);
}
  where
    above_or : (P : ℕ → ℕ → List Label → Type 0) (u j : ℕ) → P t j (slot_at m t j) → P u j (part u j) → P u j (with_above m t n part u j)
    above_or P u j here there = by_ticket (number_cases u t)
      where
        by_ticket : (u ≡ t) ⊎ ((u == t) ≡ false) → P u j (with_above m t n part u j)
        by_ticket (inl e) = subst (λ w. P w j (with_above m t n part w j)) (sym e) (by_number (cases_lt n j))
          where
            by_number : (n < j) ⊎ (j ≤ n) → P t j (with_above m t n part t j)
            by_number (inl l) = subst (P t j) (sym (new_mail m t n part j l)) here
            by_number (inr l) = subst (P t j) (sym (old_mail m t n part j l)) (subst (λ w. P w j (part w j)) e there)
        by_ticket (inr d) = subst (P u j) (sym (other_mails m t n part u j (not_same u t d))) there

-- ---- as many as its share
pub mails_share : (c : Cell Actor) → length c.outbox.mails ≤ share_of c
mails_share c = by_status c.status c.outbox.mails
  where
    by_mails : (ms : List (ℕ × Envelope)) → length ms ≤ (if is_empty ms then 0 else 1 + length ms)
    by_mails [] = omega arith
    by_mails (m ∷ ms) = omega arith

    by_status : (st : Status) (ms : List (ℕ × Envelope)) → length ms ≤ (if is_over st && is_empty ms then 0 else 1 + length ms)
    by_status status.Ended ms = by_mails ms
    by_status status.Travelling ms = omega arith
    by_status (status.Waiting p) ms = omega arith
    by_status (status.Ready p) ms = omega arith
    by_status (status.Running p) ms = omega arith

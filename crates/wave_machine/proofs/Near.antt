-- All that a label changes near it: the status of its ticket, its mail, and the statuses of who was and is next in a line.
use Rattle.std.proofs.Common.{◌≡◌, ◌≢◌, ◌∙◌, ◌⊎◌, inl, inr, ℕ, ◌&&◌, ◌+◌, ◌-◌, ◌<◌, ◌≤◌, ◌==◌, Bool, true, false, List, [], ◌++◌, Option, Some, None, refl, sym, ap, subst, arith, true≢false}
use Rattle.std.specs.Prelude.{if◌then◌else◌}
use Rattle.event_cells.specs.declared.cell.Cell.{Cell}
use Rattle.event_cells.specs.declared.status.Status.{Status}
use Rattle.event_cells.specs.declared.status.Status.TheVariants as status
use Rattle.host_map.specs.Stores.{Stores}
use Rattle.wave_states.specs.Labels.{Label}
use Rattle.wave_theory.proofs.Basics.{not_same, number_cases, number_is}
use Rattle.wave_effects.specs.declared.actor.Actor.{Actor}
use Rattle.wave_machine.specs.declared.ready.Ready.{Ready}
use Rattle.wave_effects.specs.Machines.{Kept}
use Rattle.wave_machine.specs.inner.Asking.{in_order, status_labels}
use Rattle.wave_machine.specs.inner.Index.{ListsNew, Relists, RelistsBoth, RelistsNear, RelistsNext, RelistsOwn, RelistsStatus, asks_at, asks_by, asks_in, cell_at, slot_at, slot_by, with_above, with_next, with_own, with_slot}
use Rattle.wave_machine.specs.inner.Others.{but}
use Rattle.wave_machine.proofs.ListingLists.{by_number}
use Rattle.wave_machine.proofs.Owned.{at_slot, before, other_number, other_ticket, own_next, own_with, slot_or}
use Rattle.wave_machine.proofs.Renewed.{same_slots, old_mail, own_above}

pub status_all : (m : Kept) (t : ℕ) (asked : Bool) (a b : List Ready) → Relists m t 0 a b → RelistsStatus m t asked a b
status_all m t asked a b r = record { parts = λ h head part own none e. r.parts h head part own e }

-- a status that asked for nothing, and asks for nothing now
silent : (stores : List Stores) (w t : ℕ) (s : Status) → asks_in s ≡ false → status_labels stores w t s ≡ []
silent stores w t (status.Waiting p) e = absurd (true≢false e)
silent stores w t (status.Ready p) e = absurd (true≢false e)
silent stores w t status.Travelling e = refl
silent stores w t (status.Running p) e = refl
silent stores w t status.Ended e = refl

pub silent_slot : (m : Kept) (t : ℕ) → asks_at m t ≡ false → slot_at m t 0 ≡ []
silent_slot m t = by_cell (cell_at m t)
  where
    by_cell : (o : Option (Cell Actor)) → asks_by o ≡ false → slot_by m.stores t 0 o ≡ []
    by_cell None e = refl
    by_cell (Some c) e = silent m.stores 0 t c.status e

pub status_none : (m : Kept) (t : ℕ) (asked : Bool) (a : List Ready) → asked ≡ false → asks_at m t ≡ false → RelistsStatus m t asked a a
status_none m t asked a unasked none_now = record {
  parts = λ h head part own none e. e ∙ ap (λ r. in_order (h ++ r)) (same_slots m part (with_slot part t 0 (slot_at m t 0)) (λ u j low high within. sym (slot_or part t 0 (slot_at m t 0) (λ v i ls. ls ≡ part v i) u j (silent_slot m t none_now ∙ sym (none unasked)) refl)));
}

pub own_two : (m : Kept) (t k : ℕ) (asked : Bool) (a b c : List Ready) → RelistsStatus m t asked a b → Relists m t k b c → RelistsOwn m t k asked a c
own_two m t k asked a b c first second = record { parts = λ h head part own none e. second.parts h head (with_slot part t 0 (slot_at m t 0)) (own_with m part t 0 own) (first.parts h head part own none e) }

-- a status that is listed anew twice
twice : (m : Kept) (t : ℕ) (part : ℕ → ℕ → List Label) (u j : ℕ) → with_own m t 0 part u j ≡ with_slot part t 0 (slot_at m t 0) u j
twice m t part u j = by_test ((u == t) && (j == 0))
  where
    by_test : (b : Bool) → (if b then slot_at m t 0 else (if b then slot_at m t 0 else part u j)) ≡ (if b then slot_at m t 0 else part u j)
    by_test true = refl
    by_test false = refl

pub own_one : (m : Kept) (t k : ℕ) (asked : Bool) (a b : List Ready) → k ≡ 0 → RelistsStatus m t asked a b → RelistsOwn m t k asked a b
own_one m t k asked a b zero_is first = subst (λ n. RelistsOwn m t n asked a b) (sym zero_is) (record { parts = λ h head part own none e. first.parts h head part own none e ∙ ap (λ r. in_order (h ++ r)) (same_slots m (with_slot part t 0 (slot_at m t 0)) (with_own m t 0 part) (λ u j low high within. sym (twice m t part u j))) })

pub both_two : (m : Kept) (before after : Option ℕ) (a b c : List Ready) → RelistsNext m before a b → RelistsNext m after b c → RelistsBoth m before after a c
both_two m before after a b c first second = record { parts = λ h head part own e. second.parts h head (with_next m before part) (own_next m before part own) (first.parts h head part own e) }

pub both_one : (m : Kept) (before after : Option ℕ) (a b : List Ready) → after ≡ before → RelistsNext m before a b → RelistsBoth m before after a b
both_one m before after a b same first = subst (λ o. RelistsBoth m before o a b) (sym same) (record { parts = λ h head part own e. first.parts h head part own e ∙ ap (λ r. in_order (h ++ r)) (same_slots m (with_next m before part) (with_next m before (with_next m before part)) (λ u j low high within. sym (next_twice before part u j))) })
  where
    next_twice : (next : Option ℕ) (part : ℕ → ℕ → List Label) (u j : ℕ) → with_next m next (with_next m next part) u j ≡ with_next m next part u j
    next_twice None part u j = refl
    next_twice (Some t) part u j = twice m t part u j

-- whoever is next and has its status listed anew already need not be listed once more
module _ (m : Kept) (t : ℕ) where
  kept_as : (part : ℕ → ℕ → List Label) → part t 0 ≡ slot_at m t 0 → (u j : ℕ) → with_slot part t 0 (slot_at m t 0) u j ≡ part u j
  kept_as part there u j = by_ticket (number_cases u t)
    where
      by_number : (j ≡ 0) ⊎ ((j == 0) ≡ false) → with_slot part t 0 (slot_at m t 0) t j ≡ part t j
      by_number (inl z) = subst (λ w. with_slot part t 0 (slot_at m t 0) t w ≡ part t w) (sym z) (at_slot part t 0 (slot_at m t 0) ∙ sym there)
      by_number (inr d) = other_number part t 0 (slot_at m t 0) j (not_same j 0 d)

      by_ticket : (u ≡ t) ⊎ ((u == t) ≡ false) → with_slot part t 0 (slot_at m t 0) u j ≡ part u j
      by_ticket (inl e) = subst (λ w. with_slot part t 0 (slot_at m t 0) w j ≡ part w j) (sym e) (by_number (number_cases j 0))
      by_ticket (inr d) = other_ticket part t 0 (slot_at m t 0) u j (not_same u t d)

  but_as : (o : Option ℕ) (part : ℕ → ℕ → List Label) → part t 0 ≡ slot_at m t 0 → (u j : ℕ) → with_next m (but t o) part u j ≡ with_next m o part u j
  but_as None part there u j = refl
  but_as (Some v) part there u j = by_test (v == t) refl
    where
      by_test : (b : Bool) → (v == t) ≡ b → with_next m (if b then None else Some v) part u j ≡ with_slot part v 0 (slot_at m v 0) u j
      by_test true e = sym (subst (λ w. with_slot part w 0 (slot_at m w 0) u j ≡ part u j) (sym (number_is v t e)) (kept_as part there u j))
      by_test false e = refl

  next_as : (o : Option ℕ) (p q : ℕ → ℕ → List Label) → ((u j : ℕ) → p u j ≡ q u j) → (u j : ℕ) → with_next m o p u j ≡ with_next m o q u j
  next_as None p q h u j = h u j
  next_as (Some v) p q h u j = ap (λ x. if (u == v) && (j == 0) then slot_at m v 0 else x) (h u j)

  next_there : (o : Option ℕ) (part : ℕ → ℕ → List Label) → part t 0 ≡ slot_at m t 0 → with_next m o part t 0 ≡ slot_at m t 0
  next_there None part there = there
  next_there (Some v) part there = by_ticket (number_cases t v)
    where
      by_ticket : (t ≡ v) ⊎ ((t == v) ≡ false) → with_slot part v 0 (slot_at m v 0) t 0 ≡ slot_at m t 0
      by_ticket (inl e) = subst (λ w. with_slot part w 0 (slot_at m w 0) t 0 ≡ slot_at m t 0) e (at_slot part t 0 (slot_at m t 0))
      by_ticket (inr d) = other_ticket part v 0 (slot_at m v 0) t 0 (not_same t v d) ∙ there

  both_but : (before after : Option ℕ) (part : ℕ → ℕ → List Label) → part t 0 ≡ slot_at m t 0 → (u j : ℕ) → with_next m (but t after) (with_next m (but t before) part) u j ≡ with_next m after (with_next m before part) u j
  both_but before after part there u j =
      next_as (but t after) (with_next m (but t before) part) (with_next m before part) (but_as before part there) u j
      ∙ but_as after (with_next m before part) (next_there before part there) u j

pub near : (m : Kept) (t k n : ℕ) (asked : Bool) (before after : Option ℕ) (a b c d : List Ready) → RelistsOwn m t k asked a b → ListsNew m t n b c → RelistsBoth m (but t before) (but t after) c d → RelistsNear m t k n asked before after a d
near m t k n asked before after a b c d first second third = record {
  parts = λ h head part own none gone l is.
      let one = with_own m t k part in
      let own_one = own_with m (with_slot part t 0 (slot_at m t 0)) t k (own_with m part t 0 own) in
      let two = with_above m t n one in
      let own_two = own_above m one t n own_one in
      third.parts h head two own_two (second.parts h head one own_one (λ j past. still part gone l j past) (first.parts h head part own none is))
      ∙ ap (λ r. in_order (h ++ r)) (same_slots m (with_next m (but t after) (with_next m (but t before) two)) (with_next m after (with_next m before two)) (λ u j low high within. both_but m t before after two (there part) u j));
}
  where
    own_there : (part : ℕ → ℕ → List Label) → (0 ≡ k) ⊎ ((0 == k) ≡ false) → with_own m t k part t 0 ≡ slot_at m t 0
    own_there part (inl e) = subst (λ j. with_own m t j part t 0 ≡ slot_at m t 0) e (at_slot (with_slot part t 0 (slot_at m t 0)) t 0 (slot_at m t 0))
    own_there part (inr d) = other_number (with_slot part t 0 (slot_at m t 0)) t k (slot_at m t k) 0 (not_same 0 k d) ∙ at_slot part t 0 (slot_at m t 0)

    there : (part : ℕ → ℕ → List Label) → with_above m t n (with_own m t k part) t 0 ≡ slot_at m t 0
    there part = old_mail m t n (with_own m t k part) 0 (omega arith) ∙ own_there part (number_cases 0 k)

    still : (part : ℕ → ℕ → List Label) → ((j : ℕ) → n < j → part t j ≡ []) → k ≤ n → (j : ℕ) → n < j → with_own m t k part t j ≡ []
    still part gone l j past =
        other_number (with_slot part t 0 (slot_at m t 0)) t k (slot_at m t k) j (λ e. omega (arith, e, l, past))
        ∙ other_number part t 0 (slot_at m t 0) j (λ e. omega (arith, e, past))
        ∙ gone j past

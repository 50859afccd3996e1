-- Slots that are listed anew, some of them in any order.
use Rattle.std.proofs.Common.{◌≡◌, ◌≢◌, ◌∙◌, ◌⊎◌, inl, inr, ℕ, suc, ◌+◌, ◌-◌, ◌<◌, ◌≤◌, ◌==◌, ◌&&◌, Bool, true, false, List, [], ◌∷◌, length, Option, Some, None, refl, sym, ap, arith, true≢false}
use Rattle.std.specs.Prelude.{if◌then◌else◌, slice_get}
use Rattle.std.proofs.lemmas.Option.{slice_get_within}
use Rattle.wave_base.specs.declared.path.Path.{Path}
use Rattle.event_cells.specs.declared.cell.Cell.{Cell}
use Rattle.event_cells.specs.declared.outbox.Envelope.{Envelope}
use Rattle.event_cells.specs.Cells.{is_over}
use Rattle.event_cells.specs.Keeps.{is_empty, mail_in}
use Rattle.wave_states.specs.Labels.{Label}
use Rattle.wave_theory.proofs.Basics.{and_both, and_first, and_second, clash, none_not, not_same, number_cases, number_is, number_self, some_same}
use Rattle.wave_effects.specs.declared.actor.Actor.{Actor}
use Rattle.wave_effects.specs.Machines.{Kept}
use Rattle.wave_effects.proofs.Ending.{and_right, empty_mail}
use Rattle.wave_machine.specs.declared.ready.Ready.{Ready}
use Rattle.wave_machine.specs.inner.Done.{AreDone}
use Rattle.wave_machine.specs.inner.Index.{IsAmong, Relists, Renews, cell_at, is_enter, mail_at, mail_by, slot_at, with_slot}
use Rattle.wave_machine.proofs.ListingLists.{find_apart, find_first}
use Rattle.wave_machine.proofs.Owned.{cell_is, cell_there, own_with}

join : (P Q R : Type 0) (s a b c : List Label) → (R → P ⊎ Q) → (b ≡ s) ⊎ ((b ≡ a) × (P → ⊥)) → (c ≡ s) ⊎ ((c ≡ b) × (Q → ⊥)) → (c ≡ s) ⊎ ((c ≡ a) × (R → ⊥))
join P Q R s a b c r first (inl e) = inl e
join P Q R s a b c r (inl f) (inr y) = inl (y.0 ∙ f)
join P Q R s a b c r (inr x) (inr y) = inr (y.0 ∙ x.0, λ z. elim (r z) [ inl p ↦ x.1 p | inr q ↦ y.1 q ])

module _ (m : Kept) where
  pub renews_none : (P : ℕ → ℕ → Type 0) → ((u j : ℕ) → P u j → ⊥) → (xs : List Ready) → Renews m P xs xs
  renews_none P none xs = record { parts = λ h head part own e. (part, record { own = own; each = λ u j. inr (refl, none u j) }, e) }

  pub renews_more : (P Q R : ℕ → ℕ → Type 0) → ((u j : ℕ) → R u j → P u j ⊎ Q u j) → (a b c : List Ready) → Renews m P a b → Renews m Q b c → Renews m R a c
  renews_more P Q R r a b c first second = record {
    parts = λ h head part own e.
        let x = first.parts h head part own e in
        let y = second.parts h head x.0 x.1.own x.2 in
        (y.0, record { own = y.1.own; each = λ u j. join (P u j) (Q u j) (R u j) (slot_at m u j) (part u j) (x.0 u j) (y.0 u j) (r u j) (x.1.each u j) (y.1.each u j) }, y.2);
  }

  pub renews_less : (P R : ℕ → ℕ → Type 0) → ((u j : ℕ) → R u j → P u j) → (a b : List Ready) → Renews m P a b → Renews m R a b
  renews_less P R r a b first = renews_more P (λ u j. ⊥) R (λ u j z. inl (r u j z)) a b b first (renews_none (λ u j. ⊥) (λ u j z. z) b)

  pub renews_slot : (t k : ℕ) (a b : List Ready) → Relists m t k a b → Renews m (λ u j. (u ≡ t) × (j ≡ k)) a b
  renews_slot t k a b r = record { parts = λ h head part own e. (with_slot part t k (slot_at m t k), record { own = own_with m part t k own; each = λ u j. each part u j ((u == t) && (j == k)) refl }, r.parts h head part own e) }
    where
      equal : (a b : ℕ) → a ≡ b → (a == b) ≡ true
      equal a b e = ap (λ n. a == n) (sym e) ∙ number_self a

      each : (part : ℕ → ℕ → List Label) (u j : ℕ) (b : Bool) → ((u == t) && (j == k)) ≡ b → ((if b then slot_at m t k else part u j) ≡ slot_at m u j) ⊎ (((if b then slot_at m t k else part u j) ≡ part u j) × ((u ≡ t) × (j ≡ k) → ⊥))
      each part u j true e = inl (λ i. slot_at m (sym (number_is u t (and_first (u == t) (j == k) e)) i) (sym (number_is j k (and_second (u == t) (j == k) e)) i))
      each part u j false e = inr (refl, λ both. clash ((u == t) && (j == k)) (and_both (u == t) (j == k) (equal u t both.0) (equal j k both.1)) e)

-- one of the mails up to the next is one of those before it, or is the next
pub among_more : (h : ℕ) (p : Path) (mails : List (ℕ × Envelope)) (n j : ℕ) (x : ℕ × Envelope) → slice_get mails n ≡ Some x → IsAmong h p mails (n + 1) j → IsAmong h p mails n j ⊎ ((j ≡ x.0) × (is_enter h p (Some x.1) ≡ true))
among_more h p mails n j x there a = elim (number_cases a.at n) [
  | inl last ↦
      let same : a.mail ≡ x = some_same a.mail x (sym a.there ∙ ap (slice_get mails) last ∙ there) in
      inr (sym a.number ∙ ap (λ (z : ℕ × Envelope). z.0) same, ap (λ (z : ℕ × Envelope). is_enter h p (Some z.1)) (sym same) ∙ a.enter)
  | inr d ↦ (let low = a.low in let apart = not_same a.at n d in inl (record { at = a.at; low = omega (arith, low, apart); mail = a.mail; there = a.there; number = a.number; enter = a.enter }))
]

pub among_none : (h : ℕ) (p : Path) (mails : List (ℕ × Envelope)) (j : ℕ) → IsAmong h p mails 0 j → ⊥
among_none h p mails j a = let low = a.low in absurd (omega (arith, low))

pub among_less : (h : ℕ) (p : Path) (mails : List (ℕ × Envelope)) (n k j : ℕ) → n ≤ k → IsAmong h p mails n j → IsAmong h p mails k j
among_less h p mails n k j l a = let low = a.low in record { at = a.at; low = omega (arith, low, l); mail = a.mail; there = a.there; number = a.number; enter = a.enter }

-- a number finds a mail among them
record FindsMail (mails : List (ℕ × Envelope)) (j : ℕ) (e : Envelope) : Type 0 where
  at : ℕ
  mail : ℕ × Envelope
  there : slice_get mails at ≡ Some mail
  number : mail.0 ≡ j
  is : mail.1 ≡ e

finds_mail : (mails : List (ℕ × Envelope)) (j : ℕ) (e : Envelope) → mail_in mails j ≡ Some e → FindsMail mails j e
finds_mail [] j e z = absurd (none_not z)
finds_mail (x ∷ xs) j e z = elim (number_cases j x.0) [
  | inl same ↦ record { at = 0; mail = x; there = refl; number = sym same; is = some_same x.1 e (sym (find_first x xs) ∙ ap (mail_in (x ∷ xs)) (sym same) ∙ z) }
  | inr d ↦ (let r = finds_mail xs j e (sym (find_apart x xs j (not_same j x.0 d)) ∙ z) in record { at = suc r.at; mail = r.mail; there = r.there; number = r.number; is = r.is })
]

module _ (m : Kept) (h : ℕ) (p : Path) where
  -- a ticket of the run has it
  some_enter : (u j : ℕ) → is_enter h p (mail_at m u j) ≡ true → (c : Cell Actor) × (cell_at m u ≡ Some c)
  some_enter u j e = by_cell (cell_at m u) refl e
    where
      by_cell : (o : Option (Cell Actor)) → cell_at m u ≡ o → is_enter h p (mail_by j o) ≡ true → (c : Cell Actor) × (cell_at m u ≡ Some c)
      by_cell None z e = absurd (true≢false (sym e))
      by_cell (Some c) z e = (c, z)

  -- and it is not done
  pub done_none : (n : ℕ) → AreDone m n → (u j : ℕ) → (u < m.first + n) × (is_enter h p (mail_at m u j) ≡ true) → ⊥
  done_none n done u j e =
      let c = some_enter u j e.1 in
      let there = cell_there m u c.0 c.1 in
      let low = there.low in
      let high = e.0 in
      let is = done.each (u - m.first) c.0 (omega (arith, low, high)) there.at in
      true≢false (sym e.1 ∙ ap (λ o. is_enter h p (mail_by j o)) c.1 ∙ ap (is_enter h p) (empty_mail (c.0).outbox.mails j (and_right (is_over (c.0).status) (is_empty (c.0).outbox.mails) is)))

  pub next_enters : (i : ℕ) (c : Cell Actor) (mails : List (ℕ × Envelope)) → slice_get m.cells i ≡ Some c → mails ≡ c.outbox.mails → (u j : ℕ) → (u < m.first + (i + 1)) × (is_enter h p (mail_at m u j) ≡ true)
      → ((u < m.first + i) × (is_enter h p (mail_at m u j) ≡ true)) ⊎ ((u ≡ m.first + i) × IsAmong h p mails (length mails) j)
  next_enters i c mails there are u j e = elim (number_cases u (m.first + i)) [
    | inl last ↦ inr (last, among (cell_is_here last))
    | inr d ↦ (let high = e.0 in let apart = not_same u (m.first + i) d in inl (omega (arith, high, apart), e.1))
  ]
    where
      cell_is_here : u ≡ m.first + i → cell_at m u ≡ Some c
      cell_is_here last = let place : u - m.first ≡ i = omega (arith, last) in cell_is m u (omega (arith, last)) ∙ ap (slice_get m.cells) place ∙ there

      by_mail : (o : Option Envelope) → mail_in mails j ≡ o → is_enter h p o ≡ true → IsAmong h p mails (length mails) j
      by_mail None z y = absurd (true≢false (sym y))
      by_mail (Some x) z y =
          let s = finds_mail mails j x z in
          record { at = s.at; low = slice_get_within mails s.at s.mail s.there; mail = s.mail; there = s.there; number = s.number; enter = ap (λ w. is_enter h p (Some w)) s.is ∙ y }

      among : cell_at m u ≡ Some c → IsAmong h p mails (length mails) j
      among at = by_mail (mail_in mails j) refl (ap (λ ms. is_enter h p (mail_in ms j)) are ∙ ap (λ o. is_enter h p (mail_by j o)) (sym at) ∙ e.1)

  pub all_enters : (i : ℕ) → i ≡ length m.cells → (u j : ℕ) → is_enter h p (mail_at m u j) ≡ true → (u < m.first + i) × (is_enter h p (mail_at m u j) ≡ true)
  all_enters i end u j e =
      let c = some_enter u j e in
      let there = cell_there m u c.0 c.1 in
      let within = there.within in
      let low = there.low in
      (omega (arith, within, low, end), e)

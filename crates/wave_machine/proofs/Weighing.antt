-- How long the list may be, before a label and after it.
use Rattle.std.proofs.Common.{◌≡◌, ◌≢◌, ◌∙◌, ◌⊎◌, inl, inr, ℕ, zero, suc, ◌+◌, ◌-◌, ◌<◌, ◌≤◌, ◌&&◌, Bool, true, false, List, [], ◌∷◌, length, Option, Some, None, refl, sym, ap, arith}
use Rattle.std.specs.Prelude.{if◌then◌else◌, nat_lt, slice_get}
use Rattle.std.proofs.lemmas.Bool.{cases_lt}
use Rattle.std.proofs.lemmas.Bool.Decides.{nat_tests}
use Rattle.std.proofs.lemmas.Option.{slice_get_within}
use Rattle.event_cells.specs.declared.cell.Cell.{Cell}
use Rattle.event_cells.specs.declared.outbox.Envelope.{Envelope}
use Rattle.event_cells.specs.Cells.{is_over}
use Rattle.event_cells.specs.Keeps.{is_empty}
use Rattle.wave_states.specs.Labels.{Label, ticket_of}
use Rattle.wave_theory.proofs.Basics.{not_same, number_cases}
use Rattle.wave_effects.specs.declared.actor.Actor.{Actor}
use Rattle.wave_effects.specs.Ending.{is_done}
use Rattle.wave_effects.specs.Machines.{Kept}
use Rattle.wave_effects.specs.Apart.{AsksAs, AsksTheSame, Moves, new_cells}
use Rattle.wave_machine.specs.inner.Index.{cell_at, share_at, share_by, share_of, weight_of}
use Rattle.wave_machine.proofs.ListingKinds.{slice_none}
use Rattle.wave_machine.proofs.Elsewhere.{grown_few}
use Rattle.wave_machine.proofs.Owned.{cell_is, cell_there}

same_share : (c c' : Cell Actor) → AsksAs c c' → share_of c' ≡ share_of c
same_share c c' a = λ i. if is_over (a.status i) && is_empty (a.mails i) then 0 else 1 + length (a.mails i)

-- where all cells have the same share, and where all but one have
weights_same : (cs cs' : List (Cell Actor)) → length cs' ≡ length cs → ((i : ℕ) (c c' : Cell Actor) → slice_get cs i ≡ Some c → slice_get cs' i ≡ Some c' → share_of c' ≡ share_of c) → weight_of cs' ≡ weight_of cs
weights_same [] [] e h = refl
weights_same [] (c' ∷ cs') e h = absurd (omega (arith, e))
weights_same (c ∷ cs) [] e h = absurd (omega (arith, e))
weights_same (c ∷ cs) (c' ∷ cs') e h =
    let rest = weights_same cs cs' (omega (arith, e)) (λ i a b u v. h (suc i) a b u v) in
    λ j. h zero c c' refl refl j + rest j

weights_but : (j : ℕ) (cs cs' : List (Cell Actor)) → length cs' ≡ length cs → ((i : ℕ) (c c' : Cell Actor) → i ≢ j → slice_get cs i ≡ Some c → slice_get cs' i ≡ Some c' → share_of c' ≡ share_of c) → weight_of cs' + share_by (slice_get cs j) ≡ weight_of cs + share_by (slice_get cs' j)
weights_but zero [] [] e h = refl
weights_but (suc j) [] [] e h = refl
weights_but j [] (c' ∷ cs') e h = absurd (omega (arith, e))
weights_but j (c ∷ cs) [] e h = absurd (omega (arith, e))
weights_but zero (c ∷ cs) (c' ∷ cs') e h =
    let rest : weight_of cs' ≡ weight_of cs = weights_same cs cs' (omega (arith, e)) (λ i a b u v. h (suc i) a b (omega arith) u v) in
    omega (arith, rest)
weights_but (suc j) (c ∷ cs) (c' ∷ cs') e h =
    let here : share_of c' ≡ share_of c = h zero c c' (omega arith) refl refl in
    let rest = weights_but j cs cs' (omega (arith, e)) (λ i a b d u v. h (suc i) a b (λ f. d (omega (arith, f))) u v) in
    omega (arith, here, rest)

-- and where one came
weights_grown : (cs cs' : List (Cell Actor)) → length cs' ≡ suc (length cs) → ((i : ℕ) (c c' : Cell Actor) → slice_get cs i ≡ Some c → slice_get cs' i ≡ Some c' → share_of c' ≡ share_of c) → weight_of cs' ≡ weight_of cs + share_by (slice_get cs' (length cs))
weights_grown cs [] e h = absurd (omega (arith, e))
weights_grown [] (c' ∷ []) e h = omega arith
weights_grown [] (c' ∷ d' ∷ cs') e h = absurd (omega (arith, e))
weights_grown (c ∷ cs) (c' ∷ cs') e h =
    let here : share_of c' ≡ share_of c = h zero c c' refl refl in
    let rest = weights_grown cs cs' (omega (arith, e)) (λ i a b u v. h (suc i) a b u v) in
    omega (arith, here, rest)

-- a share is part of the whole
share_part : (cs : List (Cell Actor)) (i : ℕ) → share_by (slice_get cs i) ≤ weight_of cs
share_part [] i = omega arith
share_part (c ∷ cs) zero = omega arith
share_part (c ∷ cs) (suc i) = let less = share_part cs i in omega (arith, less)

pub share_within : (m : Kept) (t : ℕ) → share_at m t ≤ weight_of m.cells
share_within m t = by_low (nat_lt t m.first)
  where
    by_low : (b : Bool) → share_by (if b then None else slice_get m.cells (t - m.first)) ≤ weight_of m.cells
    by_low true = omega arith
    by_low false = share_part m.cells (t - m.first)

low_is : (m : Kept) (t : ℕ) → t < m.first → cell_at m t ≡ None
low_is m t l = ap (λ b. if b then None else slice_get m.cells (t - m.first)) (below t m.first l)
  where
    below : (a b : ℕ) → a < b → nat_lt a b ≡ true
    below a b l = grind (arith, nat_tests)

past_none : {X : Type 0} (xs : List X) (i : ℕ) → length xs ≤ i → slice_get xs i ≡ None
past_none [] i l = refl
past_none (x ∷ xs) zero l = absurd (omega (arith, l))
past_none (x ∷ xs) (suc i) l = past_none xs i (omega (arith, l))

module _ (m m' : Kept) (l : Label) (more : ℕ) (moves : Moves m m' l more) (grows : new_cells l.act ≡ 1 → ticket_of l.act ≡ m.first + length m.cells) where
  abbrev t : ℕ
  t = ticket_of l.act

  apart_share : (i : ℕ) (c c' : Cell Actor) → m.first + i ≢ t → slice_get m.cells i ≡ Some c → slice_get m'.cells i ≡ Some c' → share_of c' ≡ share_of c
  apart_share i c c' d e e' = same_share c c' (moves.others.cells i c c' d e e')

  -- the whole changes by the share of the label's ticket
  pub weight_moves : weight_of m'.cells + share_at m t ≡ weight_of m.cells + share_at m' t
  weight_moves = elim (number_cases (new_cells l.act) 1) [ inl one ↦ came one | inr d ↦ stayed (not_same (new_cells l.act) 1 d) ]
    where
      came : new_cells l.act ≡ 1 → weight_of m'.cells + share_at m t ≡ weight_of m.cells + share_at m' t
      came one =
          let many = moves.as_many in
          let first = moves.others.first in
          let is = grows one in
          let one_more : length m'.cells ≡ suc (length m.cells) = omega (arith, many, one) in
          let grown_by = weights_grown m.cells m'.cells one_more (λ i c c' e e'. apart_share i c c' (λ f. let within = slice_get_within m.cells i c e in omega (arith, f, is, within)) e e') in
          let low : m.first ≤ t = omega (arith, is) in
          let low' : m'.first ≤ t = omega (arith, low, first) in
          let place : t - m.first ≡ length m.cells = omega (arith, is) in
          let place' : t - m'.first ≡ length m.cells = omega (arith, is, first) in
          let none : share_at m t ≡ 0 = ap share_by (cell_is m t low ∙ ap (slice_get m.cells) place ∙ past_none m.cells (length m.cells) (omega arith)) in
          let new : share_at m' t ≡ share_by (slice_get m'.cells (length m.cells)) = ap share_by (cell_is m' t low' ∙ ap (slice_get m'.cells) place') in
          omega (arith, grown_by, none, new)

      stayed : new_cells l.act ≢ 1 → weight_of m'.cells + share_at m t ≡ weight_of m.cells + share_at m' t
      stayed d = by_low (cases_lt t m.first)
        where
          few : new_cells l.act ≤ 1
          few = grown_few l.act

          many : length m'.cells ≡ length m.cells
          many = let as_many = moves.as_many in let at_most = few in omega (arith, as_many, at_most, d)

          by_low : (t < m.first) ⊎ (m.first ≤ t) → weight_of m'.cells + share_at m t ≡ weight_of m.cells + share_at m' t
          by_low (inl under) =
              let first = moves.others.first in
              let same = weights_same m.cells m'.cells many (λ i c c' e e'. apart_share i c c' (λ f. omega (arith, f, under)) e e') in
              let none : share_at m t ≡ 0 = ap share_by (low_is m t under) in
              let none' : share_at m' t ≡ 0 = ap share_by (low_is m' t (omega (arith, under, first))) in
              omega (arith, same, none, none')
          by_low (inr low) =
              let first = moves.others.first in
              let but = weights_but (t - m.first) m.cells m'.cells many (λ i c c' f e e'. apart_share i c c' (λ g. f (omega (arith, g, low))) e e') in
              let old : share_at m t ≡ share_by (slice_get m.cells (t - m.first)) = ap share_by (cell_is m t low) in
              let place' : t - m'.first ≡ t - m.first = ap (λ n. t - n) first in
              let new : share_at m' t ≡ share_by (slice_get m'.cells (t - m.first)) = ap share_by (cell_is m' t (omega (arith, low, first)) ∙ ap (slice_get m'.cells) place') in
              omega (arith, but, old, new)

  -- and that is not much more than it was
  pub share_grows : share_at m' t ≤ share_at m t + more + 2
  share_grows = by_cell (cell_at m' t) refl
    where
      most : (c : Cell Actor) → share_of c ≤ 1 + length c.outbox.mails
      most c = by_done (is_done c)
        where
          by_done : (b : Bool) → (if b then 0 else 1 + length c.outbox.mails) ≤ 1 + length c.outbox.mails
          by_done true = omega arith
          by_done false = omega arith

      least : (c : Cell Actor) → length c.outbox.mails ≤ share_of c
      least c = by_mails c.outbox.mails
        where
          by_over : (b : Bool) (n : ℕ) → n ≤ (if b && false then 0 else 1 + n)
          by_over true n = omega arith
          by_over false n = omega arith

          by_mails : (ms : List (ℕ × Envelope)) → length ms ≤ (if is_over c.status && is_empty ms then 0 else 1 + length ms)
          by_mails [] = omega arith
          by_mails (e ∷ ms) = by_over (is_over c.status) (length (e ∷ ms))

      by_old : (c' : Cell Actor) (o : Option (Cell Actor)) → cell_at m' t ≡ Some c' → slice_get m.cells (t - m.first) ≡ o → share_of c' ≤ share_at m t + more + 2
      by_old c' (Some c) e' e =
          let first = moves.others.first in
          let there = cell_there m' t c' e' in
          let low = there.low in
          let place' : t - m'.first ≡ t - m.first = ap (λ n. t - n) first in
          let mails = moves.mails (t - m.first) c c' e (ap (slice_get m'.cells) (sym place') ∙ there.at) in
          let old : share_at m t ≡ share_of c = ap share_by (cell_is m t (omega (arith, low, first)) ∙ e) in
          let top = most c' in
          let bottom = least c in
          omega (arith, old, mails, top, bottom)
      by_old c' None e' e =
          let first = moves.others.first in
          let there = cell_there m' t c' e' in
          let low = there.low in
          let within = there.within in
          let out = slice_none m.cells (t - m.first) e in
          let many = moves.as_many in
          let few = grown_few l.act in
          let last : t - m'.first ≡ length m.cells = omega (arith, within, out, many, few, first) in
          let mails = moves.new c' (ap (slice_get m'.cells) (sym last) ∙ there.at) in
          let top = most c' in
          omega (arith, mails, top)

      by_cell : (o : Option (Cell Actor)) → cell_at m' t ≡ o → share_by o ≤ share_at m t + more + 2
      by_cell None e = omega arith
      by_cell (Some c') e = by_old c' (slice_get m.cells (t - m.first)) e refl

-- what is made beforehand changes nothing of it
pub weight_asks : (m m' : Kept) → AsksTheSame m m' → weight_of m'.cells ≡ weight_of m.cells
weight_asks m m' a = weights_same m.cells m'.cells a.as_many (λ i c c' e e'. same_share c c' (a.others.cells i c c' (λ x. x) e e'))

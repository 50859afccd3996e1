-- Cells that are done ask for nothing, so a listing may begin behind them.
use Rattle.std.proofs.Common.{◌≡◌, ◌∙◌, ℕ, zero, suc, ◌+◌, ◌<◌, ◌≤◌, ◌⊎◌, inl, inr, true, cond, List, [], ◌∷◌, ◌++◌, drop, Option, Some, refl, sym, ap, arith}
use Rattle.std.specs.Prelude.{slice_get}
use Rattle.std.proofs.lemmas.Bool.{cases_lt}
use Rattle.std.proofs.lemmas.Option.{slice_get_within}
use Rattle.event_cells.specs.declared.cell.Cell.{Cell}
use Rattle.wave_theory.proofs.Basics.{some_same}
use Rattle.wave_effects.specs.declared.actor.Actor.{Actor}
use Rattle.wave_effects.specs.Ending.{is_done}
use Rattle.wave_effects.specs.Machines.{Kept}
use Rattle.wave_machine.specs.inner.Asking.{by_taker, by_ticket, cell_labels, mails_labels, status_labels, stops_labels}
use Rattle.wave_machine.specs.inner.Done.{AreDone}

-- the first elements of a list of which nothing comes can be left out
pub skipped : {C X : Type 0} (f : ℕ → C → List X) (t n : ℕ) (cs : List C) → ((i : ℕ) (c : C) → i < n → slice_get cs i ≡ Some c → (u : ℕ) → f u c ≡ []) → by_ticket f (t + n) (drop n cs) ≡ by_ticket f t cs
skipped f t zero cs none = let same : t + 0 ≡ t = omega arith in ap (λ u. by_ticket f u cs) same
skipped f t (suc n) [] none = refl
skipped f t (suc n) (c ∷ cs) none =
    let same : t + suc n ≡ suc t + n = omega arith in
    ap (λ u. by_ticket f u (drop n cs)) same
    ∙ skipped f (suc t) n cs (λ i d low at. none (suc i) d (omega (arith, low)) at)
    ∙ ap (λ xs. xs ++ by_ticket f (suc t) cs) (sym (none zero c (omega arith) refl t))

-- what is done asks for nothing
pub nothing_done : (m : Kept) (idle : Option ℕ) (ws : List ℕ) (u : ℕ) (c : Cell Actor) → is_done c ≡ true → cell_labels m.stores m.hands idle ws u c ≡ []
nothing_done m idle ws u c e = ap (λ b. cond b [] (stops_labels m.stores m.hands ws u c.status ++ by_taker idle (λ w. status_labels m.stores w u c.status ++ mails_labels m.stores w u c.outbox))) e

-- so a listing may begin behind what is done
pub done_skipped : (m : Kept) (n : ℕ) (idle : Option ℕ) (ws : List ℕ) → AreDone m n → by_ticket (cell_labels m.stores m.hands idle ws) (m.first + n) (drop n m.cells) ≡ by_ticket (cell_labels m.stores m.hands idle ws) m.first m.cells
done_skipped m n idle ws done = skipped (cell_labels m.stores m.hands idle ws) m.first n m.cells (λ i c low at u. nothing_done m idle ws u c (done.each i c low at))

-- at first nothing is done
pub none_done : (m : Kept) → AreDone m 0
none_done m = record { within = omega arith; each = λ i c low at. absurd (omega (arith, low)) }

-- and where the next is done too, so is one more
pub more_done : (m : Kept) (n : ℕ) (c : Cell Actor) → slice_get m.cells n ≡ Some c → is_done c ≡ true → AreDone m n → AreDone m (n + 1)
more_done m n c at is done = record { within = (let low = slice_get_within m.cells n c at in omega (arith, low)); each = each }
  where
    each : (i : ℕ) (d : Cell Actor) → i < n + 1 → slice_get m.cells i ≡ Some d → is_done d ≡ true
    each i d low there = by_place (cases_lt i n)
      where
        by_place : (i < n) ⊎ (n ≤ i) → is_done d ≡ true
        by_place (inl below) = done.each i d below there
        by_place (inr above) =
            let same : i ≡ n = omega (arith, low, above) in
            let here : Some d ≡ Some c = sym there ∙ ap (slice_get m.cells) same ∙ at in
            ap is_done (some_same d c here) ∙ is

-- what comes of a cell is the first of what comes from it on
pub next_of : {C X : Type 0} (f : ℕ → C → List X) (t i : ℕ) (cs : List C) (c : C) → slice_get cs i ≡ Some c → by_ticket f (t + i) (drop i cs) ≡ f (t + i) c ++ by_ticket f (t + suc i) (drop (suc i) cs)
next_of f t zero [] c e = cc
next_of f t zero (d ∷ cs) c e =
    let same : suc (t + 0) ≡ t + suc 0 = omega arith in
    ap (λ x. f (t + 0) x ++ by_ticket f (suc (t + 0)) cs) (some_same d c e) ∙ ap (λ u. f (t + 0) c ++ by_ticket f u cs) same
next_of f t (suc i) [] c e = cc
next_of f t (suc i) (d ∷ cs) c e =
    let here : t + suc i ≡ suc t + i = omega arith in
    let there : suc t + suc i ≡ t + suc (suc i) = omega arith in
    ap (λ u. by_ticket f u (drop i cs)) here
    ∙ next_of f (suc t) i cs c e
    ∙ ap (λ u. f u c ++ by_ticket f (suc t + suc i) (drop (suc i) cs)) (sym here)
    ∙ ap (λ u. f (t + suc i) c ++ by_ticket f u (drop (suc i) cs)) there

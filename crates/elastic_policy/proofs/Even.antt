-- Moves that balance do not spread the loads.
use Rattle.std.proofs.Common.{◌≡◌, ◌≤◌, ◌<◌, ◌+◌, ◌-◌, ℕ, zero, suc, true, false, cond, ◌==◌, nat_lt, List, [], ◌∷◌, Option, Some, None, refl, ap, sym, subst, ◌∙◌, arith}
use Rattle.std.proofs.lemmas.Bool.{and_parts, ltb-true, eqb-true}
use Rattle.wave_base.specs.declared.finished.Place.{Place}
use Rattle.wave_base.specs.declared.script.Line.{Line}
use Rattle.elastic_policy.specs.Moves.{is_on, load_on, heaviest, lightest, spread, may_go, mover, places_with, move_to, balance, places_moved}
use Rattle.elastic_policy.proofs.Firsts.{greatest_is, least_is, greatest_below, least_below}
use Rattle.elastic_policy.proofs.Sent.{paths_of, AreApart, find_passes, load_sent, apart_sent}

-- what the test of a search says
pub record Goes (h d : ℕ) (x : Place × ℕ) : Type 0 where
  pub here : x.0.host.0 ≡ h
  pub some : 0 < x.1
  pub less : x.1 < d

pub it_goes : (h d : ℕ) (x : Place × ℕ) → may_go h d x ≡ true → Goes h d x
it_goes h d x e =
    let both = and_parts (is_on h x) _ e in
    let bounds = and_parts (nat_lt 0 x.1) _ both.1 in
    record { here = eqb-true _ _ both.0; some = ltb-true _ _ bounds.0; less = ltb-true _ _ bounds.1 }

pub mover_goes : (hosts : ℕ) (xs : List (Place × ℕ)) (x : Place × ℕ) → mover hosts xs ≡ Some x → Goes (heaviest hosts xs) (spread hosts xs) x
mover_goes hosts xs x e = it_goes _ _ x (find_passes (may_go (heaviest hosts xs) (spread hosts xs)) xs x e)

-- a load that leaves the greatest for the least, which it does not make the greatest, leaves all between the two
between : (old new l a b h at : ℕ) (here : at ≡ a) (f : ℕ → ℕ) → old ≡ f h → f b ≤ f h → f h ≤ f a → 0 < l → l < f a - f b → new + cond (at == h) l 0 ≡ old + cond (b == h) l 0 →
    (f b ≤ new) × (new ≤ f a)
between old new l a b h at here f is low high some less e =
    elim (at == h) as (λ t. (at == h) ≡ t → new + cond t l 0 ≡ old + cond (b == h) l 0 → (f b ≤ new) × (new ≤ f a)) [
      | true ↦ λ s. let from : at ≡ h = eqb-true at h s in let top : f h ≡ f a = ap f (sym from ∙ here) in
          elim (b == h) as (λ t. (b == h) ≡ t → new + l ≡ old + cond t l 0 → (f b ≤ new) × (new ≤ f a)) [
            | true ↦ λ u k. let bottom : f b ≡ f h = ap f (eqb-true b h u) in (omega arith, omega arith)
            | false ↦ λ u k. (omega arith, omega arith)
          ] refl
      | false ↦ λ s.
          elim (b == h) as (λ t. (b == h) ≡ t → new + 0 ≡ old + cond t l 0 → (f b ≤ new) × (new ≤ f a)) [
            | true ↦ λ u k. let bottom : f b ≡ f h = ap f (eqb-true b h u) in (omega arith, omega arith)
            | false ↦ λ u k. (omega arith, omega arith)
          ] refl
    ] refl e

pub step_between : (hosts : ℕ) (xs : List (Place × ℕ)) (x : Place × ℕ) → AreApart (paths_of xs) → mover hosts xs ≡ Some x → (h : ℕ) → h < hosts →
    (load_on xs (lightest hosts xs) ≤ load_on (places_with xs x.0.path (lightest hosts xs)) h) × (load_on (places_with xs x.0.path (lightest hosts xs)) h ≤ load_on xs (heaviest hosts xs))
step_between hosts xs x a e h k =
    let goes = mover_goes hosts xs x e in
    between (load_on xs h) (load_on (places_with xs x.0.path (lightest hosts xs)) h) x.1 (heaviest hosts xs) (lightest hosts xs) h x.0.host.0 goes.here (load_on xs) refl
    (least_is (load_on xs) hosts h k) (greatest_is (load_on xs) hosts h k) goes.some goes.less
    (load_sent (may_go (heaviest hosts xs) (spread hosts xs)) (lightest hosts xs) h xs x a e)

pub step_even : (hosts : ℕ) (xs : List (Place × ℕ)) (x : Place × ℕ) → 1 ≤ hosts → AreApart (paths_of xs) → mover hosts xs ≡ Some x →
    spread hosts (places_with xs x.0.path (lightest hosts xs)) ≤ spread hosts xs
step_even hosts xs x some a e =
    let ys = places_with xs x.0.path (lightest hosts xs) in
    let top = step_between hosts xs x a e (heaviest hosts ys) (greatest_below (load_on ys) hosts some) in
    let bottom = step_between hosts xs x a e (lightest hosts ys) (least_below (load_on ys) hosts some) in
    omega (arith, top.0, top.1, bottom.0, bottom.1)

-- ---- the steps of a balance
pub balance-none : (hosts n : ℕ) (xs : List (Place × ℕ)) → mover hosts xs ≡ None → balance hosts n xs ≡ []
balance-none hosts zero xs e = refl
balance-none hosts (suc n) xs e =
    ap (λ (m : Option (Place × ℕ)). let r : List Line = elim m [ None ↦ [] | Some x ↦ move_to (lightest hosts xs) x ∷ balance hosts n (places_with xs x.0.path (lightest hosts xs)) ] in r) e

pub balance-some : (hosts n : ℕ) (xs : List (Place × ℕ)) (x : Place × ℕ) → mover hosts xs ≡ Some x →
    balance hosts (suc n) xs ≡ move_to (lightest hosts xs) x ∷ balance hosts n (places_with xs x.0.path (lightest hosts xs))
balance-some hosts n xs x e =
    ap (λ (m : Option (Place × ℕ)). let r : List Line = elim m [ None ↦ [] | Some x ↦ move_to (lightest hosts xs) x ∷ balance hosts n (places_with xs x.0.path (lightest hosts xs)) ] in r) e

pub balance_even : (hosts n : ℕ) (xs : List (Place × ℕ)) → 1 ≤ hosts → AreApart (paths_of xs) → spread hosts (places_moved xs (balance hosts n xs)) ≤ spread hosts xs
balance_even hosts zero xs some a = omega arith
balance_even hosts (suc n) xs some a =
    elim (mover hosts xs) as (λ m. mover hosts xs ≡ m → spread hosts (places_moved xs (balance hosts (suc n) xs)) ≤ spread hosts xs) [
      | None ↦ λ e. subst (λ (ms : List Line). spread hosts (places_moved xs ms) ≤ spread hosts xs) (sym (balance-none hosts (suc n) xs e)) (omega arith)
      | Some x ↦ λ e.
          let ys = places_with xs x.0.path (lightest hosts xs) in
          let one = step_even hosts xs x some a e in
          let more = balance_even hosts n ys some (apart_sent xs x.0.path (lightest hosts xs) a) in
          subst (λ (ms : List Line). spread hosts (places_moved xs ms) ≤ spread hosts xs) (sym (balance-some hosts n xs x e)) (omega (arith, one, more))
    ] refl

-- The rules pick one label of each list that has some.
use Rattle.std.proofs.Common.{◌≡◌, ℕ, zero, suc, ◌<◌, ◌-◌, ◌/◌, ◌%◌, ◌^◌, inl, inr, Bool, true, false, Option, Some, None, List, [], ◌∷◌, length, filter, refl, arith}
use Rattle.std.specs.Prelude.{cond, not, nat_lt, nat_le, slice_get}
use Rattle.std.proofs.lemmas.Nat.{mod_below}
use Rattle.wave_states.specs.States.{State}
use Rattle.wave_states.specs.Labels.{Label, ticket_of, takes_mail}
use Rattle.wave_states.specs.Runs.{first_of, last_of, or_else, job_is, least, greatest, seed, movers, mail_last}
use Rattle.wave_base.specs.Draws.{draw_from}
use Rattle.wave_theory.specs.Drives.{Picks, RulesPick}
use Rattle.wave_theory.specs.Listed.{IsIn}

-- a label of the list that is picked
abbrev OneOf : Option Label → List Label → Type 0
OneOf o ls = (m : Label) × (o ≡ Some m) × IsIn ls m

at_place : (ls : List Label) (i : ℕ) → i < length ls → OneOf (slice_get ls i) ls
at_place [] i l = absurd (omega (arith, l))
at_place (m ∷ ls) zero l = (m, refl, inl refl)
at_place (m ∷ ls) (suc i) l = (let r = at_place ls i (less i (length ls) l) in (r.0, r.1, inr r.2))
  where
    less : (a c : ℕ) → suc a < suc c → a < c
    less a c l = omega (arith, l)

least_in : (l : Label) (ls : List Label) → IsIn (l ∷ ls) (least l ls)
least_in l [] = inl refl
least_in l (m ∷ ls) = by (nat_lt (ticket_of m.act) (ticket_of l.act)) (least_in m ls) (least_in l ls)
  where
    by : (c : Bool) → IsIn (m ∷ ls) (least m ls) → IsIn (l ∷ ls) (least l ls) → IsIn (l ∷ m ∷ ls) (cond c (least m ls) (least l ls))
    by true i j = inr i
    by false i (inl e) = inl e
    by false i (inr j) = inr (inr j)

greatest_in : (l : Label) (ls : List Label) → IsIn (l ∷ ls) (greatest l ls)
greatest_in l [] = inl refl
greatest_in l (m ∷ ls) = by (nat_le (ticket_of l.act) (ticket_of m.act)) (greatest_in m ls) (greatest_in l ls)
  where
    by : (c : Bool) → IsIn (m ∷ ls) (greatest m ls) → IsIn (l ∷ ls) (greatest l ls) → IsIn (l ∷ m ∷ ls) (cond c (greatest m ls) (greatest l ls))
    by true i j = inr i
    by false i (inl e) = inl e
    by false i (inr j) = inr (inr j)

last_in : (l : Label) (ls : List Label) → OneOf (last_of (l ∷ ls)) (l ∷ ls)
last_in l [] = (l, refl, inl refl)
last_in l (m ∷ ls) = (let r = last_in m ls in (r.0, r.1, inr r.2))

-- the first of some of them, if there is one
first_in : (f : Label → Bool) (ls : List Label) (m : Label) → first_of (filter f ls) ≡ Some m → IsIn ls m
first_in f [] m e = absurd (none_some e)
  where
    none_some : None ≡ Some m → ⊥
    none_some e = grind arith
first_in f (l ∷ ls) m e = by (f l) e (first_in f ls m)
  where
    same : (a c : Label) → Some a ≡ Some c → a ≡ c
    same a c e = cc

    by : (c : Bool) → first_of (cond c (l ∷ filter f ls) (filter f ls)) ≡ Some m → (first_of (filter f ls) ≡ Some m → IsIn ls m) → IsIn (l ∷ ls) m
    by true e r = inl (same l m e)
    by false e r = inr (r e)

or_in : (o p : Option Label) (ls : List Label) → ((m : Label) → o ≡ Some m → IsIn ls m) → OneOf p ls → OneOf (or_else o p) ls
or_in None p ls f r = r
or_in (Some m) p ls f r = (m, refl, f m refl)

module _ (A F R J : Type 0) where
  by_seed : Picks (seed {A = A} {F = F} {R = R} {J = J})
  by_seed = record { none = λ x s. refl; one_of = by }
    where
      by : (x : ℕ) (s : State A F R J) (l : Label) (ls : List Label) → OneOf (seed x s (l ∷ ls)).1 (l ∷ ls)
      by x s l [] = (l, refl, inl refl)
      by x s l (m ∷ ls) = at_place (l ∷ m ∷ ls) (draw_from x % length (l ∷ m ∷ ls)) (below (draw_from x) (length ls))
        where
          below : (a n : ℕ) → a % (suc (suc n)) < suc (suc n)
          below a n = mod_below a (suc (suc n)) (omega arith)

  by_movers : (is_move : J → Bool) → Picks (movers {A = A} {F = F} {R = R} {J = J} is_move)
  by_movers is_move = record { none = λ x s. refl; one_of = λ x s l ls. or_in (first_of (filter (chosen s) (l ∷ ls))) (Some l) (l ∷ ls) (first_in (chosen s) (l ∷ ls)) (l, refl, inl refl) }
    where
      chosen : State A F R J → Label → Bool
      chosen s l = job_is is_move (slice_get s.head.known (ticket_of l.act - suc s.before))

  by_mail_last : Picks (mail_last {A = A} {F = F} {R = R} {J = J})
  by_mail_last = record { none = λ x s. refl; one_of = λ x s l ls. or_in (first_of (filter (λ m. not (takes_mail m.act)) (l ∷ ls))) (last_of (l ∷ ls)) (l ∷ ls) (first_in (λ m. not (takes_mail m.act)) (l ∷ ls)) (last_in l ls) }

  pub rules_pick : RulesPick A F R J
  rules_pick = record {
    by_seed = by_seed;
    by_oldest = record { none = λ x s. refl; one_of = λ x s l ls. (least l ls, refl, least_in l ls) };
    by_newest = record { none = λ x s. refl; one_of = λ x s l ls. (greatest l ls, refl, greatest_in l ls) };
    by_movers = by_movers;
    by_mail_last = by_mail_last;
  }

-- Values that a row doesn't take.
use Rattle.std.proofs.Common.{◌≡◌, ℕ, zero, suc, ◌<◌, ◌≤◌, ◌+◌, Bool, true, false, ◌&&◌, nat_le, nat_lt, List, [], ◌∷◌, length, map, Some, Result, Err, refl, sym, ap, subst, ◌∙◌, arith}
use mathlib.Core.Bool.{true≢false}
use Rattle.std.proofs.lemmas.Bool.Decides.{nat_tests}
use Rattle.std.proofs.lemmas.List.{get_or_past}
use Rattle.wave_base.specs.declared.trap.TrapKind.TheVariants.{Absent}
use Rattle.wave_base.specs.declared.value.Kind.{Kind}
use Rattle.wave_base.specs.declared.value.Kind.TheVariants as k
use Rattle.wave_base.specs.declared.value.Value.{Value}
use Rattle.wave_base.specs.declared.value.Value.TheVariants as v
use Rattle.wave_base.specs.Values.{kind_of}
use Rattle.value_ops.specs.Answers.{Answers}
use Rattle.value_ops.specs.declared.error.OpError.{OpError}
use Rattle.value_ops.specs.Kinds.{Answer, From, answer_of, at_values}
use Rattle.value_ops.specs.Operators.{Operator, no_operator, operators, operator_at, takes_of, gives_of, apply_row}
use Rattle.value_ops.specs.Rows.{three}
use Rattle.service_eval.specs.inner.Answers.{is_kind, are_kinds}

and_left : (a b : Bool) → (a && b) ≡ true → a ≡ true
and_left true b e = refl
and_left false b e = cc

and_right : (a b : Bool) → (a && b) ≡ true → b ≡ true
and_right true b e = e
and_right false b e = cc

one_kind : (x : Kind) (u : Value) → is_kind (Some x) u ≡ true → kind_of u ≡ x
one_kind k.Int (v.Int n) e = refl
one_kind k.Int (v.Bool n) e = cc
one_kind k.Int (v.Str n) e = cc
one_kind k.Int (v.Map n) e = cc
one_kind k.Bool (v.Int n) e = cc
one_kind k.Bool (v.Bool n) e = refl
one_kind k.Bool (v.Str n) e = cc
one_kind k.Bool (v.Map n) e = cc
one_kind k.Text (v.Int n) e = cc
one_kind k.Text (v.Bool n) e = cc
one_kind k.Text (v.Str n) e = refl
one_kind k.Text (v.Map n) e = cc
one_kind k.Map (v.Int n) e = cc
one_kind k.Map (v.Bool n) e = cc
one_kind k.Map (v.Str n) e = cc
one_kind k.Map (v.Map n) e = refl

-- of one value more
at_one : {A : Type 0} (x : Kind) (ks : List Kind) (f : From (x ∷ ks) (Answer A)) (u : Value) (us : List Value) → (is_kind (Some x) u ≡ true → (g : From ks (Answer A)) → at_values ks g us ≡ Err Absent) → at_values (x ∷ ks) f (u ∷ us) ≡ Err Absent
at_one k.Int ks f (v.Int n) us h = h refl (f n)
at_one k.Int ks f (v.Bool n) us h = refl
at_one k.Int ks f (v.Str n) us h = refl
at_one k.Int ks f (v.Map n) us h = refl
at_one k.Bool ks f (v.Int n) us h = refl
at_one k.Bool ks f (v.Bool n) us h = h refl (f n)
at_one k.Bool ks f (v.Str n) us h = refl
at_one k.Bool ks f (v.Map n) us h = refl
at_one k.Text ks f (v.Int n) us h = refl
at_one k.Text ks f (v.Bool n) us h = refl
at_one k.Text ks f (v.Str n) us h = h refl (f n)
at_one k.Text ks f (v.Map n) us h = refl
at_one k.Map ks f (v.Int n) us h = refl
at_one k.Map ks f (v.Bool n) us h = refl
at_one k.Map ks f (v.Str n) us h = refl
at_one k.Map ks f (v.Map n) us h = h refl (f n)

at_none : {A : Type 0} (x : Kind) (ks : List Kind) (f : From (x ∷ ks) (Answer A)) → at_values (x ∷ ks) f [] ≡ Err Absent
at_none k.Int ks f = refl
at_none k.Bool ks f = refl
at_none k.Text ks f = refl
at_none k.Map ks f = refl

-- values that have the kinds, where these are at most three
pub kinds_are : (ks : List Kind) (vs : List Value) → length ks ≤ 3 → are_kinds (three ks) vs ≡ true → map kind_of vs ≡ ks
kinds_are [] [] l e = refl
kinds_are [] (x ∷ []) l e = cc
kinds_are [] (x ∷ y ∷ []) l e = cc
kinds_are [] (x ∷ y ∷ z ∷ []) l e = cc
kinds_are [] (x ∷ y ∷ z ∷ u ∷ vs) l e = cc
kinds_are (a ∷ []) [] l e = cc
kinds_are (a ∷ []) (x ∷ []) l e = ap (λ k. k ∷ []) (one_kind a x (and_left (is_kind (Some a) x) true e))
kinds_are (a ∷ []) (x ∷ y ∷ []) l e = absurd (true≢false (sym (and_right (is_kind (Some a) x) false e)))
kinds_are (a ∷ []) (x ∷ y ∷ z ∷ []) l e = absurd (true≢false (sym (and_right (is_kind (Some a) x) false e)))
kinds_are (a ∷ []) (x ∷ y ∷ z ∷ u ∷ vs) l e = cc
kinds_are (a ∷ b ∷ []) [] l e = cc
kinds_are (a ∷ b ∷ []) (x ∷ []) l e = absurd (true≢false (sym (and_right (is_kind (Some a) x) false e)))
kinds_are (a ∷ b ∷ []) (x ∷ y ∷ []) l e =
    let r = and_right (is_kind (Some a) x) (is_kind (Some b) y && true) e in
    λ i. one_kind a x (and_left (is_kind (Some a) x) (is_kind (Some b) y && true) e) i ∷ one_kind b y (and_left (is_kind (Some b) y) true r) i ∷ []
kinds_are (a ∷ b ∷ []) (x ∷ y ∷ z ∷ []) l e = absurd (true≢false (sym (and_right (is_kind (Some b) y) false (and_right (is_kind (Some a) x) (is_kind (Some b) y && false) e))))
kinds_are (a ∷ b ∷ []) (x ∷ y ∷ z ∷ u ∷ vs) l e = cc
kinds_are (a ∷ b ∷ c ∷ []) [] l e = cc
kinds_are (a ∷ b ∷ c ∷ []) (x ∷ []) l e = absurd (true≢false (sym (and_right (is_kind (Some a) x) false e)))
kinds_are (a ∷ b ∷ c ∷ []) (x ∷ y ∷ []) l e = absurd (true≢false (sym (and_right (is_kind (Some b) y) false (and_right (is_kind (Some a) x) (is_kind (Some b) y && false) e))))
kinds_are (a ∷ b ∷ c ∷ []) (x ∷ y ∷ z ∷ []) l e =
    let r = and_right (is_kind (Some a) x) (is_kind (Some b) y && is_kind (Some c) z) e in
    λ i. one_kind a x (and_left (is_kind (Some a) x) (is_kind (Some b) y && is_kind (Some c) z) e) i ∷ one_kind b y (and_left (is_kind (Some b) y) (is_kind (Some c) z) r) i ∷ one_kind c z (and_right (is_kind (Some b) y) (is_kind (Some c) z) r) i ∷ []
kinds_are (a ∷ b ∷ c ∷ []) (x ∷ y ∷ z ∷ u ∷ vs) l e = cc
kinds_are (a ∷ b ∷ c ∷ d ∷ ks) vs l e = absurd (omega arith)

and_not : (a b : Bool) → (a && b) ≡ false → a ≡ true → b ≡ false
and_not true b e h = e
and_not false b e h = cc

-- values that have not the kinds
pub kinds_not : {A : Type 0} (ks : List Kind) (f : From ks (Answer A)) (vs : List Value) → length ks ≤ 3 → are_kinds (three ks) vs ≡ false → at_values ks f vs ≡ Err Absent
kinds_not [] f [] l e = cc
kinds_not [] f (x ∷ vs) l e = refl
kinds_not (a ∷ ks) f [] l e = at_none a ks f
kinds_not (a ∷ []) f (x ∷ []) l e = at_one a [] f x [] (λ h g. absurd (true≢false (sym h ∙ sym (and_true (is_kind (Some a) x)) ∙ e)))
  where
    and_true : (b : Bool) → (b && true) ≡ b
    and_true true = refl
    and_true false = refl
kinds_not (a ∷ []) f (x ∷ y ∷ vs) l e = at_one a [] f x (y ∷ vs) (λ h g. refl)
kinds_not (a ∷ b ∷ ks) f (x ∷ []) l e = at_one a (b ∷ ks) f x [] (λ h g. at_none b ks g)
kinds_not (a ∷ b ∷ []) f (x ∷ y ∷ []) l e = at_one a (b ∷ []) f x (y ∷ []) (λ h g. at_one b [] g y [] (λ h' g'. absurd (true≢false (sym h' ∙ sym (and_true (is_kind (Some b) y)) ∙ and_not (is_kind (Some a) x) (is_kind (Some b) y && true) e h))))
  where
    and_true : (b : Bool) → (b && true) ≡ b
    and_true true = refl
    and_true false = refl
kinds_not (a ∷ b ∷ []) f (x ∷ y ∷ z ∷ vs) l e = at_one a (b ∷ []) f x (y ∷ z ∷ vs) (λ h g. at_one b [] g y (z ∷ vs) (λ h' g'. refl))
kinds_not (a ∷ b ∷ c ∷ ks) f (x ∷ y ∷ []) l e = at_one a (b ∷ c ∷ ks) f x (y ∷ []) (λ h g. at_one b (c ∷ ks) g y [] (λ h' g'. at_none c ks g'))
kinds_not (a ∷ b ∷ c ∷ []) f (x ∷ y ∷ z ∷ []) l e =
    at_one a (b ∷ c ∷ []) f x (y ∷ z ∷ []) (λ h g. at_one b (c ∷ []) g y (z ∷ []) (λ h' g'. at_one c [] g' z [] (λ h'' g''.
    absurd (true≢false (sym h'' ∙ and_not (is_kind (Some b) y) (is_kind (Some c) z) (and_not (is_kind (Some a) x) (is_kind (Some b) y && is_kind (Some c) z) e h) h')))))
kinds_not (a ∷ b ∷ c ∷ []) f (x ∷ y ∷ z ∷ u ∷ vs) l e = at_one a (b ∷ c ∷ []) f x (y ∷ z ∷ u ∷ vs) (λ h g. at_one b (c ∷ []) g y (z ∷ u ∷ vs) (λ h' g'. at_one c [] g' z (u ∷ vs) (λ h'' g''. refl)))
kinds_not (a ∷ b ∷ c ∷ d ∷ ks) f vs l e = absurd (omega arith)

abbrev all_below : ℕ → (ℕ → Bool) → Bool
all_below zero p = true
all_below (suc n) p = p n && all_below n p

below : (n : ℕ) (p : ℕ → Bool) → all_below n p ≡ true → (i : ℕ) → i < n → p i ≡ true
below zero p h i l = absurd (omega arith)
below (suc n) p h i l =
    elim (nat_le n i) as (λ b. nat_le n i ≡ b → p i ≡ true) [
      | true ↦ λ e. let same : i ≡ n = grind (arith, nat_tests) in ap p same ∙ and_left (p n) (all_below n p) h
      | false ↦ λ e. below n p (and_right (p n) (all_below n p) h) i (grind (arith, nat_tests))
    ] refl

abbrev few : ℕ → Bool
few row = nat_le (length (takes_of row)) 3

from_few : (row : ℕ) → few row ≡ true → length (takes_of row) ≤ 3
from_few row e = grind (arith, nat_tests)

pub few_kinds : (row : ℕ) → row < 34 → length (takes_of row) ≤ 3
unfolding takes_of operators
few_kinds row h = from_few row (below 34 few refl row h)

-- the rows that give the lesser and the greater of two ints
pub lesser_or_greater : (row : ℕ) → 28 ≤ row → row < 30 → takes_of row ≡ k.Int ∷ k.Int ∷ []
unfolding takes_of operators
lesser_or_greater row low high =
    elim (nat_lt row 29) as (λ b. nat_lt row 29 ≡ b → takes_of row ≡ k.Int ∷ k.Int ∷ []) [
      | true ↦ λ e. let same : row ≡ 28 = grind (arith, nat_tests) in ap takes_of same
      | false ↦ λ e. let same : row ≡ 29 = grind (arith, nat_tests) in ap takes_of same
    ] refl

-- rows that stand one after the other and give values of one kind
abbrev give_from : Kind → ℕ → ℕ → Type 0
give_from kind low zero = Unit {0}
give_from kind low (suc n) = (gives_of low ≡ kind) × give_from kind (suc low) n

gives_within : (kind : Kind) (low n row : ℕ) → give_from kind low n → low ≤ row → row < low + n → gives_of row ≡ kind
gives_within kind low zero row h l u = absurd (omega (arith, l, u))
gives_within kind low (suc n) row h l u =
    elim (nat_le row low) as (λ b. nat_le row low ≡ b → gives_of row ≡ kind) [
      | true ↦ λ e. let same : row ≡ low = grind (arith, nat_tests) in ap gives_of same ∙ h.0
      | false ↦ λ e. gives_within kind (suc low) n row h.1 (grind (arith, nat_tests)) (omega (arith, u))
    ] refl

pub sizes_give : (row : ℕ) → 23 ≤ row → row < 26 → gives_of row ≡ k.Int
unfolding gives_of operators
sizes_give row = gives_within k.Int 23 3 row (refl, (refl, (refl, tt)))

pub writers_give : (row : ℕ) → 26 ≤ row → row < 28 → gives_of row ≡ k.Text
unfolding gives_of operators
writers_give row = gives_within k.Text 26 2 row (refl, (refl, tt))

pub later_give : (row : ℕ) → 28 ≤ row → (row ≡ 32 → ⊥) → gives_of row ≡ k.Int
unfolding gives_of operators
later_give row low other =
    elim (nat_lt row 32) as (λ b. nat_lt row 32 ≡ b → gives_of row ≡ k.Int) [
      | true ↦ λ e. gives_within k.Int 28 4 row (refl, (refl, (refl, (refl, tt)))) low (grind (arith, nat_tests))
      | false ↦ λ e. elim (nat_lt row 34) as (λ b. nat_lt row 34 ≡ b → gives_of row ≡ k.Int) [
        | true ↦ λ f. let same : row ≡ 33 = grind (arith, nat_tests, other) in ap gives_of same
        | false ↦ λ f. ap (λ (o : Operator). o.gives) (get_or_past operators row no_operator (grind (arith, nat_tests)))
      ] refl
    ] refl

-- past the table nothing is given
none_of : (o : Operator) (vs : List Value) → o ≡ no_operator → answer_of o.gives (at_values o.takes o.does vs) ≡ Err Absent
none_of o [] e = rw e refl
none_of o (x ∷ vs) e = rw e refl

pub past_rows : (row : ℕ) (vs : List Value) → 34 ≤ row → apply_row row vs ≡ Err Absent
unfolding apply_row operators
past_rows row vs h = none_of (operator_at row) vs (get_or_past operators row no_operator h)

pub not_taken : (row : ℕ) (vs : List Value) → row < 34 → are_kinds (three (takes_of row)) vs ≡ false → apply_row row vs ≡ Err Absent
unfolding apply_row takes_of
not_taken row vs h e = ap (answer_of (operator_at row).gives) (kinds_not (operator_at row).takes (operator_at row).does vs (few_kinds row h) e)

-- an answer to values as they are named
pub answers_two : (row : ℕ) (a b u v : Value) (r : Result Value OpError) → a ≡ u → b ≡ v → Answers (apply_row row (u ∷ v ∷ [])) r → Answers (apply_row row (a ∷ b ∷ [])) r
answers_two row a b u v r e f h = subst (λ x. Answers (apply_row row (x ∷ b ∷ [])) r) (sym e) (subst (λ y. Answers (apply_row row (u ∷ y ∷ [])) r) (sym f) h)

pub answers_three : (row n : ℕ) (a b c u v w : Value) (r : Result Value OpError) → row ≡ n → a ≡ u → b ≡ v → c ≡ w → Answers (apply_row n (u ∷ v ∷ w ∷ [])) r → Answers (apply_row row (a ∷ b ∷ c ∷ [])) r
answers_three row n a b c u v w r k e f g h =
    subst (λ i. Answers (apply_row i (a ∷ b ∷ c ∷ [])) r) (sym k)
    (subst (λ x. Answers (apply_row n (x ∷ b ∷ c ∷ [])) r) (sym e) (subst (λ y. Answers (apply_row n (u ∷ y ∷ c ∷ [])) r) (sym f) (subst (λ z. Answers (apply_row n (u ∷ v ∷ z ∷ [])) r) (sym g) h)))

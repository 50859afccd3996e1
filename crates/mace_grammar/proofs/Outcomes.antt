-- What readers answer, and how lists of tokens are cut.
use Rattle.std.proofs.Common.{◌≡◌, ℕ, ◌≤◌, ◌⊎◌, inl, inr, List, [], ◌∷◌, ◌++◌, length, Ok, Err, Bool, true, false, refl, sym, ap, arith, ⊎_elim, length-append}
use Rattle.std.specs.Prelude.{if◌then◌else◌}
use Rattle.mace_lexer.specs.declared.token.Token.{Token}
use Rattle.mace_grammar.specs.inner.Run.{Outcome, Reader, and_then, give}

abbrev pub left : {A : Type 0} → Outcome A → ℕ
left (Ok p) = length p.1
left (Err r) = length r

pub split_ok : {A B : Type 0} (o : Outcome A) (q : A → Reader B) (b : B) (rest : List Token) → and_then o q ≡ Ok (b, rest) → (a : A) × (mid : List Token) × (o ≡ Ok (a, mid)) × (q a mid ≡ Ok (b, rest))
split_ok (Ok p) q b rest e = (p.0, p.1, refl, e)
split_ok (Err r) q b rest e = cc

pub split_err : {A B : Type 0} (o : Outcome A) (q : A → Reader B) (rest : List Token) → and_then o q ≡ Err rest → (o ≡ Err rest) ⊎ ((a : A) × (mid : List Token) × (o ≡ Ok (a, mid)) × (q a mid ≡ Err rest))
split_err (Ok p) q rest e = inr (p.0, p.1, refl, e)
split_err (Err r) q rest e = inl (let h : r ≡ rest = cc in ap Err h)

pub left_after : {A B : Type 0} (next : A → Reader B) → ((a : A) (ts : List Token) → left (next a ts) ≤ length ts) → (o : Outcome A) → left (and_then o next) ≤ left o
left_after next h (Ok p) = h p.0 p.1
left_after next h (Err r) = omega arith

abbrev first_of : {A : Type 0} → A → Outcome A → A
first_of d (Ok p) = p.0
first_of d (Err r) = d

abbrev ok_rest : {A : Type 0} → List Token → Outcome A → List Token
ok_rest d (Ok p) = p.1
ok_rest d (Err r) = d

pub ok_parts : {A : Type 0} (a b : A) (r s : List Token) → give a r ≡ give b s → (a ≡ b) × (r ≡ s)
ok_parts a b r s e = (ap (λ o. first_of a o) e, ap (λ o. ok_rest r o) e)

-- ---- lists that are cut

pub nil_front : (u v : List Token) → u ++ v ≡ [] → u ≡ []
nil_front [] v e = refl
nil_front (t ∷ u) v e = cc

-- two ways to cut one list: the first cut lies before the second, or behind it
pub cut_point : (u v x y : List Token) → u ++ v ≡ x ++ y → ((w : List Token) × (x ≡ u ++ w)) ⊎ ((w : List Token) × (u ≡ x ++ w) × (y ≡ w ++ v))
cut_point [] v x y e = inl (x, refl)
cut_point (t ∷ u) v [] y e = inr (t ∷ u, refl, sym e)
cut_point (t ∷ u) v (s ∷ x) y e =
    let first : t ≡ s = cc in
    let others : u ++ v ≡ x ++ y = cc in
    ⊎_elim
    (λ h. inl (h.0, rw first (ap (λ w. s ∷ w) h.1)))
    (λ h. inr (h.0, rw first (ap (λ w. s ∷ w) h.1), h.2))
    (cut_point u v x y others)

pub rest_shorter : (ts front rest : List Token) → ts ≡ front ++ rest → length rest ≤ length ts
rest_shorter ts front rest e = omega (arith, ap length e, length-append front rest)

-- ---- one of two answers

pub chosen : {X : Type 0} (b : Bool) (x y z : X) → (if b then x else y) ≡ z → ((b ≡ true) × (x ≡ z)) ⊎ ((b ≡ false) × (y ≡ z))
chosen true x y z e = inl (refl, e)
chosen false x y z e = inr (refl, e)

pub chosen_true : {X : Type 0} (b : Bool) (x y : X) → b ≡ true → (if b then x else y) ≡ x
chosen_true true x y e = refl
chosen_true false x y e = cc

pub chosen_false : {X : Type 0} (b : Bool) (x y : X) → b ≡ false → (if b then x else y) ≡ y
chosen_false true x y e = cc
chosen_false false x y e = refl

pub chosen_left : {A : Type 0} (b : Bool) (o o' : Outcome A) (n : ℕ) → left o ≤ n → left o' ≤ n → left (if b then o else o') ≤ n
chosen_left true o o' n h k = h
chosen_left false o o' n h k = k

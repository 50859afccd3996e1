-- Taking operands off a stack of kinds.
use Rattle.std.proofs.Common.{◌≡◌, ℕ, ◌+◌, ◌-◌, ◌<◌, List, [], ◌∷◌, ◌++◌, length, Option, Some, None, refl, ap, ◌∙◌, take, get_or, arith, Bool, true, false}
use Rattle.std.specs.Prelude.{map, reverse, is_some, Result, Ok, Err}
use Rattle.std.specs.List.{filter}
use Rattle.std.proofs.lemmas.List.{reverse-append, take_more}
use Rattle.wave_base.specs.declared.value.Kind.{Kind}
use Rattle.service_verify.specs.declared.error.Rule.{Rule}
use Rattle.service_verify.specs.declared.error.Rule.TheVariants as rule
use Rattle.service_verify.specs.inner.Asks.{Leaves, row_operands}
use Rattle.service_verify.specs.Rules.{judged_then, must, operands, suits, left_below}

-- one after the other
pub left_below-append : (xs ys : List (Option Kind)) (ks : List Kind) → left_below (xs ++ ys) ks ≡ judged_then (left_below xs ks) (left_below ys)
left_below-append [] ys ks = refl
left_below-append (x ∷ xs) ys [] = refl
left_below-append (x ∷ xs) ys (k ∷ ks) = go (left_below-append xs ys ks) (suits x k)
  where
    go : left_below (xs ++ ys) ks ≡ judged_then (left_below xs ks) (left_below ys) → (b : Bool) → must rule.Kind b (left_below (xs ++ ys) ks) ≡ judged_then (must rule.Kind b (left_below xs ks)) (left_below ys)
    go same true = same
    go same false = refl

map-append : (xs ys : List Kind) → map (λ k. Some k) (xs ++ ys) ≡ map (λ k. Some k) xs ++ map (λ k. Some k) ys
map-append [] ys = refl
map-append (x ∷ xs) ys = ap (λ zs. Some x ∷ zs) (map-append xs ys)

-- the last one comes first
pub operands-last : (xs : List Kind) (k : Kind) → operands (xs ++ k ∷ []) ≡ Some k ∷ operands xs
operands-last xs k = ap reverse (map-append xs (k ∷ [])) ∙ reverse-append (map (λ k. Some k) xs) (Some k ∷ [])

-- one after the other, where the first ones are there
pub left_on : (xs ys : List (Option Kind)) (ks ls : List Kind) → left_below xs ks ≡ Ok ls → left_below (xs ++ ys) ks ≡ left_below ys ls
left_on xs ys ks ls e = left_below-append xs ys ks ∙ ap (λ j. judged_then j (left_below ys)) e

-- or one of the first ones breaks a rule
pub left_off : (xs ys : List (Option Kind)) (ks : List Kind) (r : Rule) → left_below xs ks ≡ Err r → left_below (xs ++ ys) ks ≡ Err r
left_off xs ys ks r e = left_below-append xs ys ks ∙ ap (λ j. judged_then j (left_below ys)) e

-- the last of the kinds that are left to take
pub operands_step : (kinds : List Kind) (i : ℕ) (d : Kind) → i < length kinds → operands (take (length kinds - i) kinds) ≡ Some (get_or kinds (length kinds - 1 - i) d) ∷ operands (take (length kinds - 1 - i) kinds)
operands_step kinds i d h =
    let e : length kinds - i ≡ length kinds - 1 - i + 1 = omega arith in
    ap (λ n. operands (take n kinds)) e
    ∙ ap operands (take_more kinds (length kinds - 1 - i) d (omega arith))
    ∙ operands-last (take (length kinds - 1 - i) kinds) (get_or kinds (length kinds - 1 - i) d)

pub leaves_on : (xs ys : List (Option Kind)) (ks ls new : List Kind) (r : Result (Unit {0}) Rule) → left_below xs ks ≡ Ok ls → Leaves (left_below ys ls) new r → Leaves (left_below (xs ++ ys) ks) new r
leaves_on xs ys ks ls new (Ok u) e h = left_on xs ys ks ls e ∙ h
leaves_on xs ys ks ls new (Err x) e h = left_on xs ys ks ls e ∙ h

filter-append : (xs ys : List (Option Kind)) → filter (λ o. is_some o) (xs ++ ys) ≡ filter (λ o. is_some o) xs ++ filter (λ o. is_some o) ys
filter-append [] ys = refl
filter-append (None ∷ xs) ys = filter-append xs ys
filter-append (Some k ∷ xs) ys = ap (λ zs. Some k ∷ zs) (filter-append xs ys)

row_operands-last : (xs : List (Option Kind)) (o : Option Kind) → row_operands (xs ++ o ∷ []) ≡ row_operands (o ∷ []) ++ row_operands xs
row_operands-last xs o = ap reverse (filter-append xs (o ∷ [])) ∙ reverse-append (filter (λ o. is_some o) xs) (filter (λ o. is_some o) (o ∷ []))

pub row_operands_step : (takes : List (Option Kind)) (i : ℕ) (d : Option Kind) → i < length takes → row_operands (take (length takes - i) takes) ≡ row_operands (get_or takes (length takes - 1 - i) d ∷ []) ++ row_operands (take (length takes - 1 - i) takes)
row_operands_step takes i d h =
    let e : length takes - i ≡ length takes - 1 - i + 1 = omega arith in
    ap (λ n. row_operands (take n takes)) e
    ∙ ap row_operands (take_more takes (length takes - 1 - i) d (omega arith))
    ∙ row_operands-last (take (length takes - 1 - i) takes) (get_or takes (length takes - 1 - i) d)

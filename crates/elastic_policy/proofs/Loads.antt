-- The loads of hosts.
use Rattle.std.proofs.Common.{◌≡◌, ◌≢◌, ◌≤◌, ◌<◌, ◌+◌, ℕ, length, take, drop, get_or, Bool, true, false, cond, ◌==◌, List, [], ◌∷◌, ◌++◌, map, sum, refl, ap, sym, ◌∙◌, arith}
use Rattle.std.specs.List.{zip}
use Rattle.std.proofs.Math.ListN.{set}
use Rattle.std.proofs.lemmas.Bool.{eq-eqb, eqb-true, eqb-false}
use Rattle.std.proofs.lemmas.Grind.{get_or-set_at}
use Rattle.std.proofs.lemmas.List.{take_more, take-append-drop, get_or-set_other}
use Rattle.std.proofs.lemmas.List.Sums.{sum_by-cons}
use Rattle.std.proofs.lemmas.Slice.Zip.{length-zip, get_or-zip, seconds-zip}
use Rattle.wave_base.specs.declared.finished.Place.{Place}
use Rattle.elastic_policy.specs.Moves.{is_on, load_on}

pub load_on-append : (xs ys : List (Place × ℕ)) (h : ℕ) → load_on (xs ++ ys) h ≡ load_on xs h + load_on ys h
load_on-append [] ys h = omega arith
load_on-append (x ∷ xs) ys h = let e = load_on-append xs ys h in omega arith

part_upto : (t : Bool) (n : ℕ) → cond t n 0 ≤ n
part_upto true n = omega arith
part_upto false n = omega arith

-- no host has more than the load of all
pub load_on-le-sum : (xs : List (Place × ℕ)) (h : ℕ) → load_on xs h ≤ sum (map (λ (x : Place × ℕ). x.1) xs)
load_on-le-sum [] h = omega arith
load_on-le-sum (x ∷ xs) h =
    let e = load_on-le-sum xs h in
    let part = part_upto (is_on h x) x.1 in
    omega (arith, sum_by-cons (λ (n : ℕ). n) x.1 (map (λ (x : Place × ℕ). x.1) xs))

pub load_more : (ps : List Place) (ls : List ℕ) (i h : ℕ) (d : Place) → length ps ≡ length ls → i < length ps →
    load_on (take (i + 1) (zip ps ls)) h ≡ load_on (take i (zip ps ls)) h + cond ((get_or ps i d).host.0 == h) (get_or ls i 0) 0
load_more ps ls i h d e k =
    let long = length-zip ps ls in
    let more : take (i + 1) (zip ps ls) ≡ take i (zip ps ls) ++ get_or (zip ps ls) i (d, 0) ∷ [] = take_more (zip ps ls) i (d, 0) (omega arith) in
    let item : get_or (zip ps ls) i (d, 0) ≡ (get_or ps i d, get_or ls i 0) = get_or-zip ps ls i (d, 0) k (omega arith) in
    let one = load_on-append (take i (zip ps ls)) ((get_or ps i d, get_or ls i 0) ∷ []) h in
    let all : load_on (take (i + 1) (zip ps ls)) h ≡ load_on (take i (zip ps ls) ++ (get_or ps i d, get_or ls i 0) ∷ []) h =
    ap (λ (xs : List (Place × ℕ)). load_on xs h) (more ∙ ap (λ (x : Place × ℕ). take i (zip ps ls) ++ x ∷ []) item) in
    omega (arith, one, all)

load_take : (n h : ℕ) (xs : List (Place × ℕ)) → load_on (take n xs) h ≤ load_on xs h
load_take n h xs =
    let e = load_on-append (take n xs) (drop n xs) h in
    let s : load_on (take n xs ++ drop n xs) h ≡ load_on xs h = ap (λ (ys : List (Place × ℕ)). load_on ys h) (take-append-drop n xs) in
    omega (arith, e, s)

-- no host has more than the sum of all loads
pub load_zip-le-sum : (ps : List Place) (ls : List ℕ) (h : ℕ) → length ps ≡ length ls → load_on (zip ps ls) h ≤ sum ls
load_zip-le-sum ps ls h e =
    let all = load_on-le-sum (zip ps ls) h in
    let same : sum (map (λ (x : Place × ℕ). x.1) (zip ps ls)) ≡ sum ls = ap sum (seconds-zip ps ls (sym e)) in
    omega (arith, all, same)

-- the load of the next context fits
pub load_fits : (ps : List Place) (ls : List ℕ) (i k : ℕ) (d : Place) → length ps ≡ length ls → i < length ps → (get_or ps i d).host.0 ≡ k →
    load_on (take i (zip ps ls)) k + get_or ls i 0 ≤ sum ls
load_fits ps ls i k d e b here =
    let more = load_more ps ls i k d e b in
    let on : ((get_or ps i d).host.0 == k) ≡ true = eq-eqb _ _ here in
    let same : cond ((get_or ps i d).host.0 == k) (get_or ls i 0) 0 ≡ get_or ls i 0 = ap (λ (t : Bool). cond t (get_or ls i 0) 0) on in
    let part = load_take (i + 1) k (zip ps ls) in
    let all = load_zip-le-sum ps ls k e in
    omega (arith, more, same, part, all)

-- one load more is added to the sum of its host
pub sums_more : (sums : List ℕ) (ps : List Place) (ls : List ℕ) (i k : ℕ) (d : Place) → length ps ≡ length ls → i < length ps → (get_or ps i d).host.0 ≡ k → k < length sums →
    ((h : ℕ) → h < 8 → get_or sums h 0 ≡ load_on (take i (zip ps ls)) h) → (h : ℕ) → h < 8 →
    get_or (set sums k (get_or sums k 0 + get_or ls i 0)) h 0 ≡ load_on (take (i + 1) (zip ps ls)) h
sums_more sums ps ls i k d e b here within so h below =
    let more : load_on (take (i + 1) (zip ps ls)) h ≡ load_on (take i (zip ps ls)) h + cond (k == h) (get_or ls i 0) 0 =
    load_more ps ls i h d e b ∙ ap (λ (n : ℕ). load_on (take i (zip ps ls)) h + cond (n == h) (get_or ls i 0) 0) here in
    let old = so h below in
    elim (k == h) as (λ t. (k == h) ≡ t → load_on (take (i + 1) (zip ps ls)) h ≡ load_on (take i (zip ps ls)) h + cond t (get_or ls i 0) 0 →
    get_or (set sums k (get_or sums k 0 + get_or ls i 0)) h 0 ≡ load_on (take (i + 1) (zip ps ls)) h) [
      | true ↦ λ t m. let same : k ≡ h = eqb-true k h t in let new = get_or-set_at sums k h (get_or sums k 0 + get_or ls i 0) 0 (sym same) within in
          let first : get_or sums k 0 ≡ get_or sums h 0 = ap (λ (n : ℕ). get_or sums n 0) same in omega (arith, new, m, old, first)
      | false ↦ λ t m. let other : h ≢ k = λ f. eqb-false k h t (sym f) in let new = get_or-set_other sums k h (get_or sums k 0 + get_or ls i 0) 0 other in omega (arith, new, m, old)
    ] refl more

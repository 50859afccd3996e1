-- A running sum of whole numbers of 64 bits: the sum of what is behind, beside what is to come, and how large it can be.
use Rattle.std.proofs.Common.{◌≡◌, ℕ, ◌+◌, ◌*◌, ◌^◌, ◌<◌, ℤ, pos, ◌+ℤ◌, ◌≤ℤ◌, neg_ℤ, List, drop, drop-cons, length, get_or, add-one, suc, sym, ap, ◌∙◌, arith}
use Rattle.std.proofs.lemmas.Int.{ints}
use Rattle.wave_base.specs.declared.outcome.EventResult.{EventResult}
use Rattle.wave_gen.specs.Summary.{total, worth}

-- i numbers of 64 bits are no more than i times the greatest one
pub record Summed (all : List EventResult) (i : ℕ) (sum : ℤ) : Type 0 where
  pub whole : sum +ℤ total (drop i all) ≡ total all
  pub low : neg_ℤ (pos (i * 2 ^ 63)) ≤ℤ sum
  pub high : sum ≤ℤ pos (i * 2 ^ 63)

next_worth : (all : List EventResult) (i : ℕ) (x : EventResult) → i < length all → x ≡ get_or all i x → total (drop i all) ≡ worth x.outcome +ℤ total (drop (i + 1) all)
next_worth all i x below is =
    ap total (drop-cons all i x below)
    ∙ ap (λ (r : EventResult). worth r.outcome +ℤ total (drop (suc i) all)) (sym is)
    ∙ ap (λ k. worth x.outcome +ℤ total (drop k all)) (sym (add-one i))

regroup : (a b c : ℤ) → (a +ℤ b) +ℤ c ≡ a +ℤ (b +ℤ c)
regroup a b c = omega (arith, ints)

pub summed_more : (all : List EventResult) (i : ℕ) (x : EventResult) (sum w new : ℤ) → i < length all → x ≡ get_or all i x → w ≡ worth x.outcome → new ≡ sum +ℤ w
    → neg_ℤ (pos (2 ^ 63)) ≤ℤ w → w ≤ℤ pos (2 ^ 63) → Summed all i sum → Summed all (i + 1) new
summed_more all i x sum w new below is worth_is new_is low high s = record {
  whole = ap (λ n. n +ℤ total (drop (i + 1) all)) (new_is ∙ ap (λ v. sum +ℤ v) worth_is) ∙ regroup sum (worth x.outcome) (total (drop (i + 1) all))
      ∙ ap (λ t. sum +ℤ t) (sym (next_worth all i x below is)) ∙ s.whole;
  low = let before : neg_ℤ (pos (i * 2 ^ 63)) ≤ℤ sum = s.low in omega (arith, ints);
  high = let before : sum ≤ℤ pos (i * 2 ^ 63) = s.high in omega (arith, ints);
}

-- Lines and their ends.
use Rattle.std.proofs.Common.{◌≤◌, length-drop, ◌≡◌, ◌+◌, ◌-◌, ◌<◌, ℕ, zero, suc, true, false, cond, List, [], ◌∷◌, length, take, drop, map, get_or, refl, sym, ap, ◌∙◌, arith}
use Rattle.std.specs.List.{prefix_len}
use Rattle.std.proofs.lemmas.List.{take_all}
use Rattle.std.proofs.lemmas.Bool.Decides.{nat_tests}
use Rattle.wave_text.specs.Lines.{is_inside, onto_first, cut_lines, without_return, lines_of}

-- a line that ends with a carriage return
pub with_return : (l : List ℕ) (n : ℕ) → length l ≡ suc n → get_or l n 0 ≡ 13 → take n l ≡ without_return l
with_return [] n e h = absurd (omega arith)
with_return (b ∷ []) zero e h = grind (arith, nat_tests)
with_return (b ∷ []) (suc n) e h = absurd (omega arith)
with_return (b ∷ c ∷ bs) zero e h = absurd (omega arith)
with_return (b ∷ c ∷ bs) (suc n) e h = ap (λ l. b ∷ l) (with_return (c ∷ bs) n (omega arith) h)

-- and one that does not
pub with_none : (l : List ℕ) (n : ℕ) → length l ≡ suc n → (get_or l n 0 ≡ 13 → ⊥) → l ≡ without_return l
with_none [] n e h = absurd (omega arith)
with_none (b ∷ []) zero e h = grind (arith, nat_tests)
with_none (b ∷ []) (suc n) e h = absurd (omega arith)
with_none (b ∷ c ∷ bs) zero e h = absurd (omega arith)
with_none (b ∷ c ∷ bs) (suc n) e h = ap (λ l. b ∷ l) (with_none (c ∷ bs) n (omega arith) h)

-- the first line is what stands before the first line feed
pub cut_first : (xs : List ℕ) → prefix_len is_inside xs < length xs → cut_lines xs ≡ take (prefix_len is_inside xs) xs ∷ cut_lines (drop (suc (prefix_len is_inside xs)) xs)
cut_first [] h = absurd (omega arith)
cut_first (b ∷ bs) h =
    elim (is_inside b) as (λ t. cond t (1 + prefix_len is_inside bs) 0 < length (b ∷ bs) → cond t (onto_first b (cut_lines bs)) ([] ∷ cut_lines bs)
    ≡ take (cond t (1 + prefix_len is_inside bs) 0) (b ∷ bs) ∷ cut_lines (drop (suc (cond t (1 + prefix_len is_inside bs) 0)) (b ∷ bs))) [
      | true ↦ λ k. (let e : 1 + prefix_len is_inside bs ≡ suc (prefix_len is_inside bs) = omega arith in rw e (ap (onto_first b) (cut_first bs (omega arith))))
      | false ↦ λ k. refl
    ] h

-- where there is none, it is all
pub cut_last : (xs : List ℕ) → prefix_len is_inside xs ≡ length xs → cut_lines xs ≡ xs ∷ []
cut_last [] h = refl
cut_last (b ∷ bs) h =
    elim (is_inside b) as (λ t. cond t (1 + prefix_len is_inside bs) 0 ≡ length (b ∷ bs) → cond t (onto_first b (cut_lines bs)) ([] ∷ cut_lines bs) ≡ (b ∷ bs) ∷ []) [
      | true ↦ λ k. ap (onto_first b) (cut_last bs (omega arith))
      | false ↦ λ k. absurd (omega arith)
    ] h

-- the first of the lines, and the others
pub more_lines : (xs line : List ℕ) (n : ℕ) → n ≡ prefix_len is_inside xs → (n ≡ length xs → ⊥) → n ≤ length xs → line ≡ without_return (take n xs)
    → lines_of xs ≡ line ∷ lines_of (take (length xs - (n + 1)) (drop (n + 1) xs))
more_lines xs line n e some within h =
    let short : prefix_len is_inside xs < length xs = omega arith in
    let next : n + 1 ≡ suc n = omega arith in
    let rest : take (length xs - (n + 1)) (drop (n + 1) xs) ≡ drop (suc n) xs =
    take_all (length xs - (n + 1)) (drop (n + 1) xs) (omega (arith, length-drop (n + 1) xs)) ∙ ap (λ k. drop k xs) next in
    ap (map without_return) (cut_first xs short) ∙ (λ i. without_return (take (sym e i) xs) ∷ lines_of (drop (suc (sym e i)) xs))
    ∙ (λ i. sym h i ∷ lines_of (sym rest i))

pub last_line : (xs line : List ℕ) (n : ℕ) → n ≡ prefix_len is_inside xs → n ≡ length xs → line ≡ without_return (take n xs) → lines_of xs ≡ line ∷ []
last_line xs line n e all h =
    ap (map without_return) (cut_last xs (sym e ∙ all)) ∙ ap (λ l. l ∷ []) (ap without_return (sym (take_all n xs (omega arith))) ∙ sym h)

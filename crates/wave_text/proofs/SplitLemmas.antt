-- Where a byte first stands in a text, and what stands round it.
use Rattle.std.proofs.Common.{◌≡◌, ◌+◌, ◌-◌, ◌<◌, ◌≤◌, ℕ, suc, Bool, true, false, cond, List, [], ◌∷◌, ◌++◌, length, take, drop, refl, sym, ap, subst, ◌∙◌, length-drop, arith}
use Rattle.std.specs.Prelude.{◌&&◌}
use Rattle.std.specs.List.{list_all, prefix_len}
use Rattle.std.proofs.lemmas.Bool.{and_parts}
use Rattle.std.proofs.lemmas.Bool.Decides.{nat_tests}
use Rattle.std.proofs.lemmas.List.{take_all}
use Rattle.wave_text.specs.Splits.{is_other, HasNone, IsSplit, ArePartsAt}

-- ---- where a byte first stands

module _ {A : Type 0} (p : A → Bool) where
  pub all_pass : (xs : List A) → prefix_len p xs ≡ length xs → list_all p xs ≡ true
  all_pass [] e = refl
  all_pass (x ∷ xs) e =
      elim (p x) as (λ t. cond t (1 + prefix_len p xs) 0 ≡ length (x ∷ xs) → (t && list_all p xs) ≡ true) [
        | true ↦ λ k. all_pass xs (omega arith)
        | false ↦ λ k. absurd (omega arith)
      ] e

  pub front_passes : (xs : List A) → list_all p (take (prefix_len p xs) xs) ≡ true
  front_passes [] = refl
  front_passes (x ∷ xs) =
      elim (p x) as (λ t. p x ≡ t → list_all p (take (cond t (1 + prefix_len p xs) 0) (x ∷ xs)) ≡ true) [
        | true ↦ λ e. (let n : 1 + prefix_len p xs ≡ suc (prefix_len p xs) = omega arith in rw n ((λ i. e i && list_all p (take (prefix_len p xs) xs)) ∙ front_passes xs))
        | false ↦ λ e. refl
      ] refl

is_that : (b c : ℕ) → is_other b c ≡ false → c ≡ b
is_that b c h = grind (arith, nat_tests)

stands_there : (b : ℕ) (xs : List ℕ) → prefix_len (is_other b) xs < length xs → xs ≡ take (prefix_len (is_other b) xs) xs ++ b ∷ drop (suc (prefix_len (is_other b) xs)) xs
stands_there b [] h = absurd (omega arith)
stands_there b (x ∷ xs) h =
    elim (is_other b x) as (λ t. is_other b x ≡ t → cond t (1 + prefix_len (is_other b) xs) 0 < length (x ∷ xs)
    → x ∷ xs ≡ take (cond t (1 + prefix_len (is_other b) xs) 0) (x ∷ xs) ++ b ∷ drop (suc (cond t (1 + prefix_len (is_other b) xs) 0)) (x ∷ xs)) [
      | true ↦ λ e k. (let n : 1 + prefix_len (is_other b) xs ≡ suc (prefix_len (is_other b) xs) = omega arith in rw n (ap (λ r. x ∷ r) (stands_there b xs (omega arith))))
      | false ↦ λ e k. ap (λ y. y ∷ xs) (is_that b x e)
    ] refl h

pub is_split : (b n : ℕ) (text : List ℕ) → n ≡ prefix_len (is_other b) text → (n ≡ length text → ⊥) → n ≤ length text → IsSplit b text (take n text) (take (length text - (n + 1)) (drop (n + 1) text))
is_split b n text e some within =
    let short : prefix_len (is_other b) text < length text = omega arith in
    let next : n + 1 ≡ suc n = omega arith in
    let rest : take (length text - (n + 1)) (drop (n + 1) text) ≡ drop (suc n) text =
    take_all (length text - (n + 1)) (drop (n + 1) text) (omega (arith, length-drop (n + 1) text)) ∙ ap (λ k. drop k text) next in
    record {
      spelled = stands_there b text short ∙ (λ i. take (sym e i) text ++ b ∷ drop (suc (sym e i)) text) ∙ ap (λ r. take n text ++ b ∷ r) (sym rest);
      first = subst (λ k. HasNone b (take k text)) (sym e) (front_passes (is_other b) text);
    }

pub is_nowhere : (b n : ℕ) (text : List ℕ) → n ≡ prefix_len (is_other b) text → n ≡ length text → HasNone b text
is_nowhere b n text e all = all_pass (is_other b) text (sym e ∙ all)

-- ---- only one front stands before the first such byte

not_other : (b : ℕ) (bs : List ℕ) → HasNone b (b ∷ bs) → ⊥
not_other b bs h = grind (arith, nat_tests)

others : (b c : ℕ) (bs : List ℕ) → HasNone b (c ∷ bs) → HasNone b bs
others b c bs h = grind (arith, nat_tests)

pub one_split : (b : ℕ) (xs ys us vs : List ℕ) → HasNone b xs → HasNone b us → xs ++ b ∷ ys ≡ us ++ b ∷ vs → (xs ≡ us) × (ys ≡ vs)
one_split b [] ys [] vs p q e = (refl, cc)
one_split b [] ys (u ∷ us) vs p q e = (let same : u ≡ b = cc in absurd (not_other b us (subst (λ c. HasNone b (c ∷ us)) same q)))
one_split b (x ∷ xs) ys [] vs p q e = (let same : x ≡ b = cc in absurd (not_other b xs (subst (λ c. HasNone b (c ∷ xs)) same p)))
one_split b (x ∷ xs) ys (u ∷ us) vs p q e =
    let same : x ≡ u = cc in
    let rest : xs ++ b ∷ ys ≡ us ++ b ∷ vs = cc in
    let r = one_split b xs ys us vs (others b x xs p) (others b u us q) rest in
    ((λ i. same i ∷ r.0 i), r.1)

pub nowhere : (b : ℕ) (xs ys : List ℕ) → HasNone b (xs ++ b ∷ ys) → ⊥
nowhere b [] ys h = not_other b ys h
nowhere b (x ∷ xs) ys h = nowhere b xs ys (others b x (xs ++ b ∷ ys) h)

pub none-append : (b : ℕ) (xs ys : List ℕ) → HasNone b xs → HasNone b ys → HasNone b (xs ++ ys)
none-append b xs ys h k = all-append xs ys h k
  where
    all-append : (us vs : List ℕ) → HasNone b us → HasNone b vs → HasNone b (us ++ vs)
    all-append [] vs p q = q
    all-append (u ∷ us) vs p q =
        let t = and_parts (is_other b u) (list_all (is_other b) us) p in
        (λ i. t.0 i && list_all (is_other b) (us ++ vs)) ∙ all-append us vs t.1 q

-- ---- the parts at a byte

pub parts_split : (b : ℕ) (text front rest : List ℕ) → IsSplit b text front rest → ArePartsAt b text front rest
parts_split b text front rest s = record {
  cut = λ f r none e. one_split b front rest f r s.first none (sym s.spelled ∙ e);
  whole = λ none. absurd (nowhere b front rest (subst (HasNone b) s.spelled none));
}

pub parts_none : (b : ℕ) (text : List ℕ) → HasNone b text → ArePartsAt b text text []
parts_none b text h = record {
  cut = λ f r none e. absurd (nowhere b f r (subst (HasNone b) e h));
  whole = λ none. (refl, refl);
}

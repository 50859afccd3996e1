-- A path that was read fits its shape, and where a text is written for a path, it is read as that path.
use Rattle.std.proofs.Common.{◌≡◌, ◌<◌, ◌≤◌, ◌^◌, ℕ, zero, suc, ℤ, pos, true, false, cond, List, [], ◌∷◌, length, Some, None, Ok, Err, All, FitsSigned, w64, refl, sym, subst, arith}
use Rattle.std.specs.Prelude.{◌==◌, nat_le, nat_lt, neg_ℤ, option_map}
use Rattle.std.proofs.lemmas.Bool.Decides.{nat_tests}
use Rattle.std.proofs.lemmas.List.Elements.{All-nil, All-cons}
use Rattle.wave_base.specs.declared.path.Path.{Path}
use Rattle.wave_base.specs.declared.path.Step.{Step}
use Rattle.wave_base.specs.declared.shape.Shape.{Shape}
use Rattle.wave_base.specs.Memory.{the_refusal}
use Rattle.wave_base.specs.Names.{HasNames}
use Rattle.wave_text.specs.Numbers.{number_of, positive_int, negative_int, whole_of}
use Rattle.path_text.specs.declared.parse.PathError.{PathError}
use Rattle.path_text.specs.declared.parse.PathError.TheVariants.{Syntax, UnknownClass, OutOfMemory}
use Rattle.path_text.specs.declared.written.Written.{Written}
use Rattle.path_text.specs.Found.{IsPath, IsPathOf}
use Rattle.path_text.specs.PathTexts.{path_text}
use Rattle.path_text.specs.Paths.{child_class, step_with, step_below, steps_below, path_of}
use Rattle.path_text.specs.Verdicts.{IsVerdict, IsOnlyVerdict}
use Rattle.path_text.proofs.Again.{path_again}
use Rattle.path_text.proofs.PathLemmas.{chained, mapped, path_is}

-- ---- numbers

positive_fits : (n : ℕ) (z : ℤ) → positive_int n ≡ Some z → FitsSigned w64 z
positive_fits n z e =
    elim (nat_lt n (2 ^ 63)) as (λ t. nat_lt n (2 ^ 63) ≡ t → cond t (Some (pos n)) None ≡ Some z → FitsSigned w64 z) [
      | true ↦ λ h k. (let same : pos n ≡ z = cc in let below : n < 2 ^ 63 = grind (arith, nat_tests) in subst (FitsSigned w64) same (record { sfits = below }))
      | false ↦ λ h k. cc
    ] refl e

negative_number : (n : ℕ) → n ≤ 2 ^ 63 → FitsSigned w64 (neg_ℤ (pos n))
negative_number zero h = record { sfits = omega arith }
negative_number (suc n) h = record { sfits = omega arith }

negative_fits : (n : ℕ) (z : ℤ) → negative_int n ≡ Some z → FitsSigned w64 z
negative_fits n z e =
    elim (nat_le n (2 ^ 63)) as (λ t. nat_le n (2 ^ 63) ≡ t → cond t (Some (neg_ℤ (pos n))) None ≡ Some z → FitsSigned w64 z) [
      | true ↦ λ h k. (let same : neg_ℤ (pos n) ≡ z = cc in let below : n ≤ 2 ^ 63 = grind (arith, nat_tests) in subst (FitsSigned w64) same (negative_number n below))
      | false ↦ λ h k. cc
    ] refl e

pub whole_fits : (text : List ℕ) (z : ℤ) → whole_of text ≡ Some z → FitsSigned w64 z
whole_fits [] z e = cc
whole_fits (b ∷ bs) z e =
    elim (b == 45) as (λ t. cond t (negative_int (number_of bs)) (positive_int (number_of (b ∷ bs))) ≡ Some z → FitsSigned w64 z) [
      | true ↦ λ k. negative_fits (number_of bs) z k
      | false ↦ λ k. positive_fits (number_of (b ∷ bs)) z k
    ] e

-- ---- paths

abbrev Fits : Step → Type 0
Fits s = FitsSigned w64 s.key

step_fits : (shape : Shape) (c : ℕ) (s : Written) (t : Step) → step_below shape c s ≡ Some t → Fits t
step_fits shape c s t e =
    let class = chained (child_class shape c s.name) (λ class. step_with class (whole_of s.key)) t e in
    let key = mapped (whole_of s.key) (λ k. record { class = record { 0 = class.0 }; key = k }) t class.2 in
    subst Fits key.2 (whole_fits s.key key.0 key.1)

steps_fit : (shape : Shape) (ss : List Written) (c : ℕ) (p : List Step) → steps_below shape c ss ≡ Some p → (length p ≡ length ss) × All Fits p
steps_fit shape [] c p e =
    let none : [] ≡ p = cc in
    subst (λ q. (length q ≡ 0) × All Fits q) none (refl, All-nil Fits)
steps_fit shape (s ∷ ss) c p e =
    let first = chained (step_below shape c s) (λ t. option_map (λ ts. t ∷ ts) (steps_below shape t.class.0 ss)) p e in
    let t : Step = first.0 in
    let rest = mapped (steps_below shape t.class.0 ss) (λ ts. t ∷ ts) p first.2 in
    let others = steps_fit shape ss t.class.0 rest.0 rest.1 in
    let count : length (t ∷ rest.0) ≡ length (s ∷ ss) = omega (arith, others.0) in
    subst (λ q. (length q ≡ length (s ∷ ss)) × All Fits q) rest.2 (count, All-cons Fits t rest.0 (step_fits shape c s t first.1) others.1)

pub path_fits : (shape : Shape) (steps : List Written) (p : Path) → path_of shape steps ≡ Some p → IsPath shape p
path_fits shape steps p e =
    elim (nat_le (length steps) 8) as (λ t. nat_le (length steps) 8 ≡ t → cond t (steps_below shape 0 steps) None ≡ Some p → IsPath shape p) [
      | true ↦ λ h k. (let f = steps_fit shape steps 0 p k in let few : length steps ≤ 8 = grind (arith, nat_tests) in record { path = path_is shape steps (Some p) (sym e); keys = record { short = omega (arith, f.0, few); keys = f.1 } })
      | false ↦ λ h k. cc
    ] refl e

-- ---- the path that a text is written for

module _ (shape : Shape) (names : HasNames shape) (text : List ℕ) where
  verdict : (p : Path) → IsPath shape p → text ≡ path_text shape p → IsVerdict shape text (Ok p)
  verdict p h e = path_again shape names p text h.path h.keys.short h.keys.keys e

  pub path_found : (q : Path) → IsOnlyVerdict shape text (Ok q) → IsPathOf shape text (Some q)
  path_found q only p h e = (let same = only.1 (Ok p) (verdict p h e) in cc)

  pub path_missed : (r : PathError) → (r ≡ OutOfMemory the_refusal → ⊥) → IsOnlyVerdict shape text (Err r) → IsPathOf shape text None
  path_missed Syntax not only p h e = (let same = only.1 (Ok p) (verdict p h e) in cc)
  path_missed UnknownClass not only p h e = (let same = only.1 (Ok p) (verdict p h e) in cc)
  path_missed (OutOfMemory _) not only p h e = absurd (not refl)

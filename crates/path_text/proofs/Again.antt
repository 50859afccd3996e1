-- A path that was written is read back.
use Rattle.std.proofs.Common.{◌≡◌, ◌+◌, ◌≤◌, ℕ, zero, suc, Bool, true, false, cond, List, [], ◌∷◌, length, map, slice_get, Some, None, All, FitsSigned, w64, refl, sym, ap, subst, ◌∙◌, arith}
use Rattle.std.specs.Prelude.{◌&&◌, ◌||◌, not, nat_le, option_map}
use Rattle.std.specs.Fmt.{signed_decimal}
use Rattle.std.specs.List.{list_all, list_any, position_from}
use Rattle.std.specs.Option.{option_and_then}
use Rattle.std.specs.Cmp.Lexicographic.{nat_list_eq_equiv}
use Rattle.std.proofs.lemmas.Bool.{and_parts}
use Rattle.std.proofs.lemmas.Bool.Decides.{nat_tests}
use Rattle.std.proofs.lemmas.Iterator.Adapters.{position_from-zero}
use Rattle.std.proofs.lemmas.List.{length-map}
use Rattle.std.proofs.lemmas.List.Elements.{All-head, All-tail}
use Rattle.wave_base.specs.declared.path.Step.{Step}
use Rattle.wave_base.specs.declared.shape.ClassInfo.{ClassInfo}
use Rattle.wave_base.specs.declared.shape.Shape.{Shape}
use Rattle.wave_base.specs.Names.{is_word, is_name, HasNames, all_differ, same_bytes}
use Rattle.wave_base.specs.Shapes.{name_in, class_name, is_class, parent_class, parent_in, is_path_from, is_path}
use Rattle.wave_text.specs.Numbers.{whole_of}
use Rattle.wave_text.specs.Words.{without_minus}
use Rattle.wave_text.proofs.ReadBack.{whole_again}
use Rattle.path_text.specs.Paths.{is_child, child_class, step_with, step_below, steps_below}
use Rattle.path_text.specs.PathTexts.{written_step, path_text, IsPathText}
use Rattle.path_text.specs.Steps.{is_step}

-- ---- names

name_is_word : (n : List ℕ) → is_name n ≡ true → is_word n ≡ true
name_is_word bs h = (and_parts (is_word bs) (nat_le (length bs) 64) h).0

name_at : (classes : List ClassInfo) (n : ℕ) (info : ClassInfo) → slice_get classes n ≡ Some info → list_all is_name (map (λ c. c.name) classes) ≡ true → is_name info.name ≡ true
name_at [] n info e h = cc
name_at (x ∷ xs) zero info e h =
    let same : x ≡ info = cc in
    subst (λ (c : ClassInfo). is_name c.name ≡ true) same (and_parts (is_name x.name) (list_all is_name (map (λ c. c.name) xs)) h).0
name_at (x ∷ xs) (suc n) info e h = name_at xs n info e (and_parts (is_name x.name) (list_all is_name (map (λ c. c.name) xs)) h).1

-- ---- the class of a name

other_at : (q : List ℕ → Bool) (classes : List ClassInfo) (n : ℕ) (info : ClassInfo) → slice_get classes n ≡ Some info → list_any q (map (λ c. c.name) classes) ≡ false → q info.name ≡ false
other_at q [] n info e h = cc
other_at q (x ∷ xs) zero info e h =
    let same : x ≡ info = cc in
    subst (λ (c : ClassInfo). q c.name ≡ false) same (elim (q x.name) as (λ t. (t || list_any q (map (λ c. c.name) xs)) ≡ false → t ≡ false) [ true ↦ λ k. cc | false ↦ λ k. refl ] h)
other_at q (x ∷ xs) (suc n) info e h =
    other_at q xs n info e (elim (q x.name) as (λ t. (t || list_any q (map (λ c. c.name) xs)) ≡ false → list_any q (map (λ c. c.name) xs) ≡ false) [ true ↦ λ k. cc | false ↦ λ k. k ] h)

not_true : (b : Bool) → not b ≡ true → b ≡ false
not_true true h = cc
not_true false h = refl

place_of : (c k : ℕ) (classes : List ClassInfo) (n : ℕ) (info : ClassInfo) → slice_get classes n ≡ Some info → is_class c info.parent ≡ true → all_differ (map (λ c. c.name) classes) ≡ true
    → position_from (is_child c info.name) k classes ≡ Some (k + n)
place_of c k [] n info e p d = cc
place_of c k (x ∷ xs) zero info e p d =
    let same : x ≡ info = cc in
    let child : is_child c info.name x ≡ true = subst (λ (y : ClassInfo). is_child c info.name y ≡ true) (sym same) (λ i. p i && nat_list_eq_equiv.refl info.name i) in
    let here : k ≡ k + 0 = omega arith in
    ap (λ t. cond t (Some k) (position_from (is_child c info.name) (k + 1) xs)) child ∙ ap (λ m. Some m) here
place_of c k (x ∷ xs) (suc n) info e p d =
    let parts = and_parts (not (list_any (same_bytes x.name) (map (λ c. c.name) xs))) (all_differ (map (λ c. c.name) xs)) d in
    let other : same_bytes x.name info.name ≡ false = other_at (same_bytes x.name) xs n info e (not_true (list_any (same_bytes x.name) (map (λ c. c.name) xs)) parts.0) in
    let passed : is_child c info.name x ≡ false = ap (λ t. is_class c x.parent && t) other ∙ and_false (is_class c x.parent) in
    let there : k + 1 + n ≡ k + suc n = omega arith in
    ap (λ t. cond t (Some k) (position_from (is_child c info.name) (k + 1) xs)) passed ∙ place_of c (k + 1) xs n info e p parts.1 ∙ ap (λ m. Some m) there
  where
    and_false : (b : Bool) → (b && false) ≡ false
    and_false true = refl
    and_false false = refl

-- a class that stands in another is there
class_there : (shape : Shape) (c n : ℕ) → is_class c (parent_class shape n) ≡ true → (info : ClassInfo) × (slice_get shape.classes n ≡ Some info) × (is_class c info.parent ≡ true)
class_there shape c n h =
    elim (slice_get shape.classes n) as (λ o. is_class c (parent_in o) ≡ true → (info : ClassInfo) × (o ≡ Some info) × (is_class c info.parent ≡ true)) [ None ↦ λ k. cc | Some info ↦ λ k. (info, refl, k) ] h

-- ---- one step, and then all

module _ (shape : Shape) (names : HasNames shape) where
  name_of : (n : ℕ) (info : ClassInfo) → slice_get shape.classes n ≡ Some info → class_name shape n ≡ info.name
  name_of n info e = ap name_in e

  step_again : (c : ℕ) (s : Step) → is_class c (parent_class shape s.class.0) ≡ true → FitsSigned w64 s.key → step_below shape c (written_step shape s) ≡ Some s
  step_again c s p f =
      let there = class_there shape c s.class.0 p in
      let same : 0 + s.class.0 ≡ s.class.0 = omega arith in
      let class : child_class shape c (class_name shape s.class.0) ≡ Some s.class.0 =
      ap (child_class shape c) (name_of s.class.0 there.0 there.1) ∙ position_from-zero (is_child c there.0.name) shape.classes
      ∙ place_of c 0 shape.classes s.class.0 there.0 there.1 there.2 names.classes.differ ∙ ap (λ m. Some m) same in
      ap (option_and_then (λ class. step_with class (whole_of (signed_decimal s.key)))) class ∙ ap (step_with s.class.0) (whole_again s.key f).1

  steps_again : (c : ℕ) (p : List Step) → is_path_from shape c p ≡ true → All (λ (s : Step). FitsSigned w64 s.key) p → steps_below shape c (map (written_step shape) p) ≡ Some p
  steps_again c [] h f = refl
  steps_again c (s ∷ p) h f =
      let parts = and_parts (is_class c (parent_class shape s.class.0)) (is_path_from shape s.class.0 p) h in
      let first = step_again c s parts.0 (All-head (λ (s : Step). FitsSigned w64 s.key) s p f) in
      let rest = steps_again s.class.0 p parts.1 (All-tail (λ (s : Step). FitsSigned w64 s.key) s p f) in
      ap (option_and_then (λ t. option_map (λ ts. t ∷ ts) (steps_below shape t.class.0 (map (written_step shape) p)))) first ∙ ap (option_map (λ ts. s ∷ ts)) rest

  form_again : (c : ℕ) (p : List Step) → is_path_from shape c p ≡ true → All (λ (s : Step). FitsSigned w64 s.key) p → list_all is_step (map (written_step shape) p) ≡ true
  form_again c [] h f = refl
  form_again c (s ∷ p) h f =
      let parts = and_parts (is_class c (parent_class shape s.class.0)) (is_path_from shape s.class.0 p) h in
      let there = class_there shape c s.class.0 parts.0 in
      let fits = All-head (λ (s : Step). FitsSigned w64 s.key) s p f in
      let word : is_word (class_name shape s.class.0) ≡ true =
      ap is_word (name_of s.class.0 there.0 there.1) ∙ name_is_word there.0.name (name_at shape.classes s.class.0 there.0 there.1 names.classes.names_all) in
      let again = whole_again s.key fits in
      let short : nat_le (length (without_minus (signed_decimal s.key))) 19 ≡ true = grind (arith, nat_tests, again.2) in
      (λ i. (word i && (again.0 i && short i)) && list_all is_step (map (written_step shape) p)) ∙ form_again s.class.0 p parts.1 (All-tail (λ (s : Step). FitsSigned w64 s.key) s p f)

  pub path_again : (p : List Step) (text : List ℕ) → is_path shape p ≡ true → length p ≤ 8 → All (λ (s : Step). FitsSigned w64 s.key) p → text ≡ path_text shape p → IsPathText shape text p
  path_again p text h short f e =
      let test : nat_le (length (map (written_step shape) p)) 8 ≡ true = grind (arith, nat_tests, length-map p (written_step shape)) in
      record {
        steps = map (written_step shape) p;
        spelled = record { spelled = e; form = form_again 0 p h f };
        path = ap (λ t. cond t (steps_below shape 0 (map (written_step shape) p)) None) test ∙ steps_again 0 p h f;
      }

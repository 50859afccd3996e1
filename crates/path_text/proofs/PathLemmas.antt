-- The path of written steps, step by step.
use Rattle.std.proofs.Common.{◌≡◌, ◌+◌, ◌<◌, ◌≤◌, ℕ, zero, suc, Bool, true, false, cond, List, [], ◌∷◌, ◌++◌, length, drop, get_or, slice_get, Option, Some, None, IfSome, refl, sym, ap, subst, ◌∙◌, append-nil, arith}
use Rattle.std.specs.Prelude.{◌&&◌, nat_le, option_map, cond}
use Rattle.std.specs.List.{list_all, position_from}
use Rattle.std.specs.Option.{option_and_then}
use Rattle.std.proofs.lemmas.Bool.Decides.{nat_tests}
use Rattle.std.proofs.lemmas.Iterator.Adapters.{position_from-zero}
use Rattle.std.proofs.lemmas.List.{drop_all}
use Rattle.wave_base.specs.declared.path.Step.{Step}
use Rattle.wave_base.specs.declared.shape.Shape.{Shape}
use Rattle.wave_base.specs.Names.{is_word, same_bytes}
use Rattle.wave_base.specs.Shapes.{is_class, parent_class, parent_in, is_path_from, is_path}
use Rattle.wave_text.specs.Numbers.{whole_of}
use Rattle.wave_text.specs.Words.{is_whole, without_minus}
use Rattle.path_text.specs.declared.written.Written.{Written}
use Rattle.path_text.specs.Paths.{is_child, child_class, step_with, step_below, steps_below, path_of}
use Rattle.path_text.specs.Steps.{is_step, is_key}

-- ---- one step more

pub short_enough : (shape : Shape) (steps : List Written) (o : Option (List Step)) → length steps ≤ 8 → o ≡ steps_below shape 0 steps → o ≡ path_of shape steps
short_enough shape steps o short e =
    let test : nat_le (length steps) 8 ≡ true = grind (arith, nat_tests) in
    e ∙ ap (λ t. cond t (steps_below shape 0 steps) None) (sym test)

pub form_at : (steps : List Written) (i : ℕ) (d : Written) → i < length steps → list_all is_step steps ≡ true → is_step (get_or steps i d) ≡ true
form_at [] i d h f = absurd (omega arith)
form_at (s ∷ ss) zero d h f = elim (is_step s) as (λ t. (t && list_all is_step ss) ≡ true → t ≡ true) [ true ↦ λ k. refl | false ↦ λ k. cc ] f
form_at (s ∷ ss) (suc i) d h f = form_at ss i d (omega arith) (elim (is_step s) as (λ t. (t && list_all is_step ss) ≡ true → list_all is_step ss ≡ true) [ true ↦ λ k. k | false ↦ λ k. cc ] f)

pub key_of : (s : Written) → is_step s ≡ true → is_key s.key ≡ true
key_of s h = elim (is_word s.name) as (λ t. (t && is_key s.key) ≡ true → is_key s.key ≡ true) [ true ↦ λ k. k | false ↦ λ k. cc ] h

pub whole_key : (s : Written) → is_step s ≡ true → is_whole s.key ≡ true
whole_key s h = elim (is_whole s.key) as (λ t. (t && nat_le (length (without_minus s.key)) 19) ≡ true → t ≡ true) [ true ↦ λ k. refl | false ↦ λ k. cc ] (key_of s h)

-- ---- the path is one of the shape

pub chained : {A B : Type 0} (o : Option A) (f : A → Option B) (y : B) → option_and_then f o ≡ Some y → (x : A) × (o ≡ Some x) × (f x ≡ Some y)
chained None f y e = cc
chained (Some x) f y e = (x, refl, e)

pub mapped : {A B : Type 0} (o : Option A) (f : A → B) (y : B) → option_map f o ≡ Some y → (x : A) × (o ≡ Some x) × (f x ≡ y)
mapped None f y e = cc
mapped (Some x) f y e = (x, refl, cc)

-- what stands at the place that a search found passes
found_from : {A : Type 0} (p : A → Bool) (xs : List A) (k n : ℕ) → position_from p k xs ≡ Some n → (m : ℕ) × (n ≡ k + m) × (x : A) × (slice_get xs m ≡ Some x) × (p x ≡ true)
found_from p [] k n e = cc
found_from p (x ∷ xs) k n e =
    elim (p x) as (λ t. p x ≡ t → cond t (Some k) (position_from p (k + 1) xs) ≡ Some n → (m : ℕ) × (n ≡ k + m) × (y : _) × (slice_get (x ∷ xs) m ≡ Some y) × (p y ≡ true)) [
      | true ↦ λ h f. (let same : k ≡ n = cc in (0, omega arith, x, refl, h))
      | false ↦ λ h f. (let r = found_from p xs (k + 1) n f in (suc r.0, omega arith, r.2, r.3, r.4))
    ] refl e

pub child_there : (shape : Shape) (c n : ℕ) (name : List ℕ) → child_class shape c name ≡ Some n → is_class c (parent_class shape n) ≡ true
child_there shape c n name e =
    let f = found_from (is_child c name) shape.classes 0 n (sym (position_from-zero (is_child c name) shape.classes) ∙ e) in
    let at : f.0 ≡ n = omega arith in
    let child : is_class c f.2.parent ≡ true = elim (is_class c f.2.parent) as (λ t. (t && same_bytes f.2.name name) ≡ true → t ≡ true) [ true ↦ λ k. refl | false ↦ λ k. cc ] f.4 in
    ap (λ o. is_class c (parent_in o)) (ap (slice_get shape.classes) (sym at) ∙ f.3) ∙ child

step_is : (shape : Shape) (c : ℕ) (s : Written) (t : Step) → step_below shape c s ≡ Some t → is_class c (parent_class shape t.class.0) ≡ true
step_is shape c s t e =
    let class = chained (child_class shape c s.name) (λ class. step_with class (whole_of s.key)) t e in
    let key = mapped (whole_of s.key) (λ k. record { class = record { 0 = class.0 }; key = k }) t class.2 in
    subst (λ (u : Step). is_class c (parent_class shape u.class.0) ≡ true) key.2 (child_there shape c class.0 s.name class.1)

pub steps_are : (shape : Shape) (ss : List Written) (c : ℕ) (p : List Step) → steps_below shape c ss ≡ Some p → is_path_from shape c p ≡ true
steps_are shape [] c p e = (let none : [] ≡ p = cc in subst (λ q. is_path_from shape c q ≡ true) none refl)
steps_are shape (s ∷ ss) c p e =
    let first = chained (step_below shape c s) (λ t. option_map (λ ts. t ∷ ts) (steps_below shape t.class.0 ss)) p e in
    let t : Step = first.0 in
    let rest = mapped (steps_below shape t.class.0 ss) (λ ts. t ∷ ts) p first.2 in
    let both : is_path_from shape c (t ∷ rest.0) ≡ true = (λ i. step_is shape c s t first.1 i && is_path_from shape t.class.0 rest.0) ∙ steps_are shape ss t.class.0 rest.0 rest.1 in
    subst (λ q. is_path_from shape c q ≡ true) rest.2 both

pub path_is : (shape : Shape) (steps : List Written) (o : Option (List Step)) → o ≡ path_of shape steps → IfSome o (λ p. is_path shape p ≡ true)
path_is shape steps None e = tt
path_is shape steps (Some p) e =
    elim (nat_le (length steps) 8) as (λ t. Some p ≡ cond t (steps_below shape 0 steps) None → is_path shape p ≡ true) [
      | true ↦ λ k. steps_are shape steps 0 p (sym k)
      | false ↦ λ k. cc
    ] e

pub end_path : (shape : Shape) (steps : List Written) (c n : ℕ) (path : List Step) → length steps ≤ n → length steps ≤ 8
    → option_map (λ ps. path ++ ps) (steps_below shape c (drop n steps)) ≡ steps_below shape 0 steps → Some path ≡ path_of shape steps
end_path shape steps c n path all short h =
    let whole : Some path ≡ steps_below shape 0 steps =
    ap (λ p. Some p) (sym (append-nil path)) ∙ ap (λ z. option_map (λ ps. path ++ ps) (steps_below shape c z)) (sym (drop_all n steps all)) ∙ h in
    short_enough shape steps (Some path) short whole

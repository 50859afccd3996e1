-- Small facts about tests, options, and functions that are changed at one key.
use Rattle.std.proofs.Common.{◌≡◌, ◌≢◌, ◌⊎◌, ◌&&◌, inl, inr, ℕ, nat_eq, Bool, true, false, Option, Some, None, refl, sym, ◌∙◌, ap, arith}
use Rattle.std.specs.Prelude.{if◌then◌else◌, option_map, option_and_then}
use Rattle.std.proofs.lemmas.Bool.Decides.{nat_tests}
use mathlib.Core.Path.{fun_ext}
use Rattle.wave_base.specs.declared.path.Path.{Path}
use Rattle.wave_base.specs.Paths.{path_eq}
use Rattle.wave_base.specs.PathLaws.{path_eq_decides, path_eq_equiv}
use Rattle.wave_states.specs.States.{set}
use Rattle.wave_states.specs.Steps.{only_if}

pub bool_cases : (b : Bool) → (b ≡ true) ⊎ (b ≡ false)
bool_cases true = inl refl
bool_cases false = inr refl

pub clash : (b : Bool) → b ≡ true → b ≡ false → ⊥
clash b e f = grind arith

pub some_same : {X : Type 0} (a b : X) → Some a ≡ Some b → a ≡ b
some_same a b e = cc

pub none_not : {X : Type 0} {a : X} → None ≡ Some a → ⊥
none_not e = grind arith

pub some_not : {X : Type 0} {a : X} → Some a ≡ None → ⊥
some_not e = grind arith

pub options : {X : Type 0} (o : Option X) → (o ≡ None) ⊎ ((x : X) × (o ≡ Some x))
options None = inl refl
options (Some x) = inr (x, refl)

pub then_some : {X Y : Type 0} (f : X → Option Y) (o : Option X) (y : Y) → option_and_then f o ≡ Some y → (x : X) × (o ≡ Some x) × (f x ≡ Some y)
then_some f None y e = absurd (none_not e)
then_some f (Some x) y e = (x, refl, e)

pub map_some : {X Y : Type 0} (f : X → Y) (o : Option X) (y : Y) → option_map f o ≡ Some y → (x : X) × (o ≡ Some x) × (y ≡ f x)
map_some f None y e = absurd (none_not e)
map_some f (Some x) y e = (x, refl, sym (some_same (f x) y e))

pub only_some : {X : Type 0} (b : Bool) (x y : X) → only_if b x ≡ Some y → (b ≡ true) × (x ≡ y)
only_some true x y e = (refl, some_same x y e)
only_some false x y e = absurd (none_not e)

pub if_some : {X : Type 0} (b : Bool) (o : Option X) (y : X) → (if b then o else None) ≡ Some y → (b ≡ true) × (o ≡ Some y)
if_some true o y e = (refl, e)
if_some false o y e = absurd (none_not e)

pub and_first : (a b : Bool) → (a && b) ≡ true → a ≡ true
and_first a b e = grind arith

pub and_second : (a b : Bool) → (a && b) ≡ true → b ≡ true
and_second a b e = grind arith

pub and_both : (a b : Bool) → a ≡ true → b ≡ true → (a && b) ≡ true
and_both a b e f = grind arith

pub number_is : (a b : ℕ) → nat_eq a b ≡ true → a ≡ b
number_is a b e = grind (arith, nat_tests)

pub number_self : (a : ℕ) → nat_eq a a ≡ true
number_self a = grind (arith, nat_tests)

pub number_cases : (a b : ℕ) → (a ≡ b) ⊎ (nat_eq a b ≡ false)
number_cases a b = grind (arith, nat_tests)

pub not_same : (a b : ℕ) → nat_eq a b ≡ false → a ≡ b → ⊥
not_same a b e f = grind (arith, nat_tests)

pub differ : (a b : ℕ) → (a ≡ b → ⊥) → nat_eq a b ≡ false
differ a b n = grind (arith, nat_tests)

pub path_is : (p q : Path) → path_eq p q ≡ true → p ≡ q
path_is p q e = (path_eq_decides p q).0 e

pub path_self : (p : Path) → path_eq p p ≡ true
path_self p = path_eq_equiv.refl p

pub path_cases : (p q : Path) → (p ≡ q) ⊎ (path_eq p q ≡ false)
path_cases p q = elim (bool_cases (path_eq p q)) [ inl e ↦ inl (path_is p q e) | inr e ↦ inr e ]

-- a function that is changed at one key
module _ {K X : Type 0} (eq : K → K → Bool) (f : K → X) (k : K) (x : X) where
  pub set_here : (q : K) → eq k q ≡ true → set eq f k x q ≡ x
  set_here q e = rw e refl

  pub set_there : (q : K) → eq k q ≡ false → set eq f k x q ≡ f q
  set_there q e = rw e refl

pub set_set : {K X : Type 0} (eq : K → K → Bool) (f : K → X) (a b : K) (x y : X) → ((c d : K) → eq c d ≡ true → c ≡ d) → (a ≢ b) → set eq (set eq f a x) b y ≡ set eq (set eq f b y) a x
set_set eq f a b x y reads apart = fun_ext λ q. elim (bool_cases (eq a q)) [
  | inr u ↦ rw u refl
  | inl u ↦ elim (bool_cases (eq b q)) [
    | inr v ↦ rw (u, v) refl
    | inl v ↦ absurd (apart (reads a q u ∙ sym (reads b q v)))
  ]
]

pub set_apart : {K X : Type 0} (eq : K → K → Bool) (f : K → X) (a b : K) (x : X) → ((c d : K) → eq c d ≡ true → c ≡ d) → (a ≢ b) → set eq f a x b ≡ f b
set_apart eq f a b x reads apart = elim (bool_cases (eq a b)) [ inr u ↦ rw u refl | inl u ↦ absurd (apart (reads a b u)) ]

pub set_noop : {X : Type 0} (f : ℕ → X) (w : ℕ) (x : X) → f w ≡ x → set nat_eq f w x ≡ f
set_noop f w x e = fun_ext λ q. elim (bool_cases (nat_eq w q)) [ inr u ↦ rw u refl | inl u ↦ rw u (sym e ∙ ap f (number_is w q u)) ]

pub set_noop_path : {X : Type 0} (f : Path → X) (p : Path) (x : X) → f p ≡ x → set path_eq f p x ≡ f
set_noop_path f p x e = fun_ext λ q. elim (bool_cases (path_eq p q)) [ inr u ↦ rw u refl | inl u ↦ rw u (sym e ∙ ap f (path_is p q u)) ]

pub set_twice : {X : Type 0} (f : ℕ → X) (w : ℕ) (x y : X) → set nat_eq (set nat_eq f w x) w y ≡ set nat_eq f w y
set_twice f w x y = fun_ext λ q. elim (bool_cases (nat_eq w q)) [ inr u ↦ rw u refl | inl u ↦ rw u refl ]

pub set_twice_path : {X : Type 0} (f : Path → X) (p : Path) (x y : X) → set path_eq (set path_eq f p x) p y ≡ set path_eq f p y
set_twice_path f p x y = fun_ext λ q. elim (bool_cases (path_eq p q)) [ inr u ↦ rw u refl | inl u ↦ rw u refl ]

pub set_at : {X : Type 0} (f : ℕ → X) (t : ℕ) (x : X) → set nat_eq f t x t ≡ x
set_at f t x = rw (number_self t) refl

pub set_at_path : {X : Type 0} (f : Path → X) (p : Path) (x : X) → set path_eq f p x p ≡ x
set_at_path f p x = rw (path_self p) refl

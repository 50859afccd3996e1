-- Equality of lists of kinds, read from either end.
use Rattle.std.proofs.Common.{◌≡◌, List, [], ◌∷◌, ◌++◌, length, Bool, true, false, ◌&&◌, refl, ap, sym, ◌∙◌, arith}
use Rattle.std.specs.Prelude.{reverse}
use Rattle.std.specs.Cmp.Lexicographic.{pointwise}
use Rattle.std.proofs.lemmas.List.{reverse-append, length-reverse}
use Rattle.wave_base.specs.contracts.value.KindPartialEq.TheImpl.{eq-value}
use Rattle.wave_base.specs.declared.value.Kind.{Kind}
use Rattle.wave_base.specs.declared.value.Kind.TheVariants as k
use Rattle.service_verify.specs.Rules.{kind_eq}

pub same_eq : (a b : Kind) → eq-value.it a b ≡ kind_eq a b
same_eq k.Int k.Int = refl
same_eq k.Int k.Bool = refl
same_eq k.Int k.Text = refl
same_eq k.Int k.Map = refl
same_eq k.Bool k.Int = refl
same_eq k.Bool k.Bool = refl
same_eq k.Bool k.Text = refl
same_eq k.Bool k.Map = refl
same_eq k.Text k.Int = refl
same_eq k.Text k.Bool = refl
same_eq k.Text k.Text = refl
same_eq k.Text k.Map = refl
same_eq k.Map k.Int = refl
same_eq k.Map k.Bool = refl
same_eq k.Map k.Text = refl
same_eq k.Map k.Map = refl

and_assoc : (a b c : Bool) → ((a && b) && c) ≡ (a && (b && c))
and_assoc true b c = refl
and_assoc false b c = refl

and_swap : (a b : Bool) → (a && (b && true)) ≡ (b && a)
and_swap true true = refl
and_swap true false = refl
and_swap false true = refl
and_swap false false = refl

module _ {A : Type 0} where
  pointwise_same : (R S : A → A → Bool) → ((a b : A) → R a b ≡ S a b) → (xs ys : List A) → pointwise R xs ys ≡ pointwise S xs ys
  pointwise_same R S h [] [] = refl
  pointwise_same R S h [] (y ∷ ys) = refl
  pointwise_same R S h (x ∷ xs) [] = refl
  pointwise_same R S h (x ∷ xs) (y ∷ ys) = let rest = pointwise_same R S h xs ys in λ i. h x y i && rest i

  pointwise-append : (R : A → A → Bool) (xs ys zs ws : List A) → length xs ≡ length ys → pointwise R (xs ++ zs) (ys ++ ws) ≡ (pointwise R xs ys && pointwise R zs ws)
  pointwise-append R [] [] zs ws e = refl
  pointwise-append R [] (y ∷ ys) zs ws e = absurd (grind arith)
  pointwise-append R (x ∷ xs) [] zs ws e = absurd (grind arith)
  pointwise-append R (x ∷ xs) (y ∷ ys) zs ws e = ap (λ b. R x y && b) (pointwise-append R xs ys zs ws (grind arith)) ∙ sym (and_assoc (R x y) (pointwise R xs ys) (pointwise R zs ws))

  pub pointwise-reverse : (R : A → A → Bool) (xs ys : List A) → length xs ≡ length ys → pointwise R (reverse xs) (reverse ys) ≡ pointwise R xs ys
  pointwise-reverse R [] [] e = refl
  pointwise-reverse R [] (y ∷ ys) e = absurd (grind arith)
  pointwise-reverse R (x ∷ xs) [] e = absurd (grind arith)
  pointwise-reverse R (x ∷ xs) (y ∷ ys) e =
      let same : length xs ≡ length ys = grind arith in
      (λ i. pointwise R (reverse-append (x ∷ []) xs i) (reverse-append (y ∷ []) ys i))
      ∙ pointwise-append R (reverse xs) (reverse ys) (x ∷ []) (y ∷ []) (length-reverse xs ∙ same ∙ sym (length-reverse ys))
      ∙ ap (λ b. b && (R x y && true)) (pointwise-reverse R xs ys same)
      ∙ and_swap (pointwise R xs ys) (R x y)

pub kinds_reversed : (xs ys : List Kind) → length xs ≡ length ys → pointwise eq-value.it xs ys ≡ pointwise kind_eq (reverse xs) (reverse ys)
kinds_reversed xs ys e = pointwise_same eq-value.it kind_eq same_eq xs ys ∙ sym (pointwise-reverse kind_eq xs ys e)

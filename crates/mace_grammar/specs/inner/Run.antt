-- Readers with one token of sight: functions from the tokens that are left to a value and the tokens behind it, or to the tokens at which they are stuck.
use Rattle.std.specs.Prelude.{ℕ, zero, suc, List, [], ◌∷◌, length, Option, Some, None, Result, Ok, Err, Bool, false, if◌then◌else◌}
use Rattle.std.specs.List.{list_any}
use Rattle.mace_lexer.specs.declared.token.Token.{Token}
use Rattle.mace_grammar.specs.declared.class.Class.{Class}
use Rattle.mace_grammar.specs.inner.Classes.{class_eq}

abbrev pub Outcome : Type 0 → Type 0
Outcome A = Result (A × List Token) (List Token)

abbrev pub Reader : Type 0 → Type 0
Reader A = List Token → Outcome A

abbrev pub and_then : {A B : Type 0} → Outcome A → (A → Reader B) → Outcome B
and_then (Ok p) f = f p.0 p.1
and_then (Err e) f = Err e

abbrev pub give : {A : Type 0} → A → Reader A
give a = λ ts. Ok (a, ts)

abbrev pub after : {A B : Type 0} → Reader A → (A → Reader B) → Reader B
after p q = λ ts. and_then (p ts) q

abbrev pub outcome_of : {A : Type 0} → List Token → List Token → Option A → Outcome A
outcome_of all rest (Some a) = Ok (a, rest)
outcome_of all rest None = Err all

abbrev pub word : {A : Type 0} → (Token → Option A) → Reader A
word f [] = Err []
word f (t ∷ ts) = outcome_of (t ∷ ts) ts (f t)

-- what is left behind the value, or where the reader is stuck
abbrev pub rest_of : {A : Type 0} → Outcome A → List Token
rest_of (Ok p) = p.1
rest_of (Err rest) = rest

infixl 10 ◌>>=◌
abbrev pub ◌>>=◌ : {A B : Type 0} → Reader A → (A → Reader B) → Reader B
p >>= q = after p q

infixl 10 ◌>>◌
abbrev pub ◌>>◌ : {A B : Type 0} → Reader A → Reader B → Reader B
p >> q = after p (λ _. q)

abbrev pub with_front : {A : Type 0} → A → List A → Reader (List A)
with_front a others ts = Ok (a ∷ others, ts)

abbrev pub some : {A : Type 0} → Reader A → Reader (Option A)
some run = after run (λ a. give (Some a))

-- ---- by the class of the next token

abbrev pub has : List Class → Class → Bool
has set c = list_any (λ d. class_eq d c) set

module _ (class : Token → Class) where
  abbrev pub sees : List Class → List Token → Bool
  sees set [] = false
  sees set (t ∷ ts) = has set (class t)

  abbrev pub choice : {A : Type 0} → List Class → Reader A → Reader A → Reader A
  choice f run run' ts = if sees f ts then run ts else run' ts

  -- at most so many items
  abbrev pub each : {A : Type 0} → List Class → Reader A → ℕ → Reader (List A)
  each f run zero ts = Ok ([], ts)
  each f run (suc k) ts = if sees f ts then and_then (run ts) (λ a r. and_then (each f run k r) (with_front a)) else Ok ([], ts)

  abbrev pub each_of : {A : Type 0} → List Class → Reader A → Reader (List A)
  each_of f run ts = each f run (length ts) ts

-- what leads back to itself, at most this deep
abbrev pub nested_reader : {A : Type 0} → (ℕ → Reader A → Reader A) → ℕ → Reader A
nested_reader body zero ts = Err ts
nested_reader body (suc n) ts = body n (nested_reader body n) ts

-- What an instruction asks of the stack, as the verifier keeps it.
use Rattle.std.specs.Prelude.{◌≡◌, ℕ, List, [], ◌∷◌, ◌++◌, reverse, Option, Some, None, is_some, Result, Ok, Err, slice_get, MatchResult, IsSome}
use Rattle.std.specs.List.{filter}
use Rattle.wave_base.specs.declared.value.Kind.{Kind}
use Rattle.service_verify.specs.declared.error.Refusal.{Refusal}
use Rattle.service_verify.specs.declared.error.Refusal.TheVariants.{Broken, OutOfMemory}
use Rattle.service_verify.specs.declared.error.Rule.{Rule}
use Rattle.service_verify.specs.declared.error.Rule.TheVariants as rule
use Rattle.service_verify.specs.declared.asks.Asks.{Asks}
use Rattle.service_verify.specs.declared.asks.Takes.{Takes}
use Rattle.service_verify.specs.declared.asks.Takes.TheVariants.{Nothing, Any, One, Pair, Kinds, Keyed, Row}
use Rattle.service_verify.specs.Rules.{Judged, Effect, operands, any, an_int}

-- the operands of a row
abbrev pub row_operands : List (Option Kind) → List (Option Kind)
row_operands takes = reverse (filter (λ k. is_some k) takes)

abbrev pub takes_in : Takes → List (Option Kind)
takes_in Nothing = []
takes_in Any = any ∷ []
takes_in (One k) = Some k ∷ []
takes_in Pair = an_int ∷ an_int ∷ []
takes_in (Kinds ks) = operands ks.now
takes_in (Keyed ks) = operands ks.now ++ an_int ∷ []
takes_in (Row takes) = row_operands takes

abbrev pub effect_in : Asks → Effect
effect_in a = record { takes = takes_in a.takes; gives = a.gives }

abbrev pub asked_effect : Result Asks Rule → Judged Effect
asked_effect (Ok a) = Ok (effect_in a)
asked_effect (Err r) = Err r

-- what is there, or that it is not there
abbrev pub Finds : {A : Type 0} → Option A → Rule → Result A Rule → Type 0
Finds o r result = MatchResult result (λ x. o ≡ Some x) (λ e. (e ≡ r) × (o ≡ None))

-- it is there, or not
abbrev pub Has : {A : Type 0} → Option A → Rule → Result (Unit {0}) Rule → Type 0
Has o r result = MatchResult result (λ u. IsSome o) (λ e. (e ≡ r) × (o ≡ None))

-- the judgement's value, or the rule that it says is broken
abbrev pub Judges : {A : Type 0} → Judged A → A → Result (Unit {0}) Refusal → Type 0
Judges judged new (Ok u) = judged ≡ Ok new
Judges judged new (Err (Broken r)) = judged ≡ Err r
Judges judged new (Err (OutOfMemory _)) = Unit {0}

-- the same, where no memory is taken
abbrev pub Leaves : {A : Type 0} → Judged A → A → Result (Unit {0}) Rule → Type 0
Leaves judged new (Ok u) = judged ≡ Ok new
Leaves judged new (Err r) = judged ≡ Err r

-- no earlier instruction reached this one, or memory was wanting
abbrev pub IsUnreached : {A : Type 0} → List (Option A) → ℕ → Refusal → Type 0
IsUnreached {A} table n (Broken r) = (r ≡ rule.Jump) × ((p : A) → slice_get table n ≡ Some (Some p) → ⊥)
IsUnreached table n (OutOfMemory _) = Unit {0}

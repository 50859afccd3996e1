-- What calls answer where an operator gives a value or traps at a place.
use Rattle.std.specs.Prelude.{◌≡◌, ◌&&◌, Bool, true, false, is_none, List, [], ◌∷◌, Option, Some, None, Result, Ok, Err}
use Rattle.wave_base.specs.declared.span.Span.{Span}
use Rattle.wave_base.specs.declared.value.Kind.{Kind}
use Rattle.wave_base.specs.declared.value.Kind.TheVariants as k
use Rattle.wave_base.specs.declared.value.Value.{Value}
use Rattle.wave_base.specs.declared.value.Value.TheVariants.{Int, Bool as Truth, Str, Map}
use Rattle.value_ops.specs.Answers.{MayWantMemory}
use Rattle.value_ops.specs.Kinds.{Answer}
use Rattle.resolved_service.specs.Meaning.{Outcome, Done, State, Act, and_then}
use Rattle.service_eval.specs.declared.operand.Operand.{Operand}
use Rattle.service_eval.specs.declared.operand.Operand.TheVariants as operand
use Rattle.service_eval.specs.declared.stop.Stop.{Stop}
use Rattle.service_eval.specs.declared.stop.Stop.TheVariants as stop
use Rattle.service_eval.specs.inner.Traces.{Traps}

-- the value, or the trap at a place, or that memory was wanting, as it may be for a text or a map that is to be given
abbrev pub Gives : Answer Value → Span → Result Value Stop → Type 0
Gives answer at (Ok v) = answer ≡ Ok v
Gives answer at (Err (stop.Trapped t)) = (answer ≡ Err t.kind) × (t.at ≡ at)
Gives answer at (Err (stop.OutOfMemory _)) = MayWantMemory answer
Gives answer at (Err (stop.Ended _)) = ⊥

abbrev pub is_kind : Option Kind → Value → Bool
is_kind (Some k.Int) (Int n) = true
is_kind (Some k.Bool) (Truth b) = true
is_kind (Some k.Text) (Str t) = true
is_kind (Some k.Map) (Map m) = true
is_kind _ _ = false

-- values of at most three kinds
abbrev pub are_kinds : List (Option Kind) → List Value → Bool
are_kinds (a ∷ b ∷ c ∷ []) [] = is_none a
are_kinds (a ∷ b ∷ c ∷ []) (x ∷ []) = is_kind a x && is_none b
are_kinds (a ∷ b ∷ c ∷ []) (x ∷ y ∷ []) = is_kind a x && (is_kind b y && is_none c)
are_kinds (a ∷ b ∷ c ∷ []) (x ∷ y ∷ z ∷ []) = is_kind a x && (is_kind b y && is_kind c z)
are_kinds _ _ = false

-- the value that an operand has
abbrev pub value_in : Operand → Value
value_in (operand.Held v) = v.now
value_in (operand.Made v) = v

-- what an operator gives, as an operand of its own
abbrev pub made_operand : Result Value Stop → Result (Option Operand) Stop
made_operand (Ok v) = Ok (Some (operand.Made v))
made_operand (Err e) = Err e

-- a value that is found without any change; or nothing is said
abbrev pub Looks : Outcome Value → State → Result (Option Operand) Stop → Type 0
Looks out st (Ok None) = Unit {0}
Looks out st (Ok (Some o)) = out ≡ Done (value_in o) st
Looks out st (Err e) = Traps out e st.world

-- the same, the value being one of its own
abbrev pub Finds : Outcome Value → State → Result (Option Value) Stop → Type 0
Finds out st (Ok None) = Unit {0}
Finds out st (Ok (Some v)) = out ≡ Done v st
Finds out st (Err e) = Traps out e st.world

-- two values, the one found after the other
abbrev pub FindsTwo : Outcome Value → Act Value → State → Result (Option (Value × Value)) Stop → Type 0
FindsTwo first second st (Ok None) = Unit {0}
FindsTwo first second st (Ok (Some vs)) = (first ≡ Done vs.0 st) × (second st ≡ Done vs.1 st)
FindsTwo first second st (Err e) = Traps (and_then first (λ _. second)) e st.world

-- that a change was made, or why it wasn't
abbrev pub change_made : Result (Unit {0}) Stop → Result Bool Stop
change_made (Ok _) = Ok true
change_made (Err e) = Err e
